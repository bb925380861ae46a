-- Rows on which the definitions are checked: a declaration `type T[P, _ any]` in a package that also declares `int`,
-- `_` and a second `T`, in a file that imports two packages.
use Rattle.std.specs.Prelude.{ℕ, Bool, true, false, if◌then◌else◌, List, [], ◌∷◌, Option, Some, None, codes}
use Rattle.std.specs.Str.{bytes_eq}
use Rattle.source_trees.specs.Words.{Word}
use Rattle.source_scopes.specs.declared.objects.ObjectKind.TheVariants.{Constant as a_constant, Defined as a_type}
use Rattle.source_scopes.specs.Objects.{Object, Imported, object}
use Rattle.source_scopes.specs.Scopes.{Scopes}

abbrev pub word_of : List ℕ → Word
word_of text = record { text = text; at = 0 }

abbrev pub example : Scopes
example = record {
  parameters = word_of (codes "P") ∷ word_of (codes "_") ∷ [];
  objects = object a_type 0 (word_of (codes "T")) ∷ object a_constant 0 (word_of (codes "_"))
      ∷ object a_type 0 (word_of (codes "int")) ∷ object a_type 1 (word_of (codes "T")) ∷ [];
  imports = record { name = codes "m"; path = codes "math" } ∷ record { name = codes "u"; path = codes "unsafe" } ∷ [];
}

-- the package `math` offers one name
abbrev pub offers : List ℕ → List ℕ → Bool
offers path name = if bytes_eq path (codes "math") then bytes_eq name (codes "Pi") else false
