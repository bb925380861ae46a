-- The names that Go declares before any package does, apart from those of functions.
use Rattle.std.specs.Prelude.{if◌then◌else◌, ℕ, true, false, List, [], ◌∷◌, ◌++◌, Option, Some, None, codes}
use Rattle.std.specs.Str.{bytes_eq}
use Rattle.code_tables.specs.declared.predeclared.Basic.TheVariants as basic
use Rattle.universe_names.specs.declared.names.Predeclared.{Predeclared}
use Rattle.universe_names.specs.declared.names.Predeclared.TheVariants.{Basic, Truth, Iota, Nil}

pub record Entry : Type 0 where
  pub name : List ℕ
  pub meaning : Predeclared

abbrev entry : List ℕ → Predeclared → Entry
entry name meaning = record { name = name; meaning = meaning }

-- the types of whole numbers
abbrev pub whole_types : List Entry
whole_types =
    entry (codes "int") (Basic basic.Int) ∷ entry (codes "int8") (Basic basic.Int8)
    ∷ entry (codes "int16") (Basic basic.Int16) ∷ entry (codes "int32") (Basic basic.Int32)
    ∷ entry (codes "int64") (Basic basic.Int64) ∷ entry (codes "uint") (Basic basic.Uint)
    ∷ entry (codes "uint8") (Basic basic.Uint8) ∷ entry (codes "uint16") (Basic basic.Uint16)
    ∷ entry (codes "uint32") (Basic basic.Uint32) ∷ entry (codes "uint64") (Basic basic.Uint64)
    ∷ entry (codes "uintptr") (Basic basic.Uintptr) ∷ entry (codes "byte") (Basic basic.Byte)
    ∷ entry (codes "rune") (Basic basic.Rune) ∷ []

abbrev pub other_types : List Entry
other_types =
    entry (codes "bool") (Basic basic.Bool) ∷ entry (codes "float32") (Basic basic.Float32)
    ∷ entry (codes "float64") (Basic basic.Float64) ∷ entry (codes "complex64") (Basic basic.Complex64)
    ∷ entry (codes "complex128") (Basic basic.Complex128) ∷ entry (codes "string") (Basic basic.String)
    ∷ entry (codes "error") (Basic basic.Error) ∷ entry (codes "comparable") (Basic basic.Comparable)
    ∷ entry (codes "any") (Basic basic.Any) ∷ []

abbrev pub values : List Entry
values =
    entry (codes "true") (Truth true) ∷ entry (codes "false") (Truth false) ∷ entry (codes "iota") Iota
    ∷ entry (codes "nil") Nil ∷ []

abbrev pub universe : List Entry
universe = whole_types ++ other_types ++ values

-- what a name stands for by such a list
abbrev pub standing_for : List ℕ → List Entry → Option Predeclared
standing_for name [] = None
standing_for name (e ∷ es) = if bytes_eq name e.name then Some e.meaning else standing_for name es
