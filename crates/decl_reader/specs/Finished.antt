-- The descriptors that were read whole, in the order in which they were finished: each behind those that it names.
use Rattle.std.specs.Prelude.{◌≡◌, ℕ, zero, suc, List, [], ◌∷◌, None}
use Rattle.code_tables.specs.declared.predeclared.Basic.TheVariants.{Bool as bool_type}
use Rattle.type_terms.specs.Trees.{Tree, predeclared}
use Rattle.decl_spelling.specs.Tables.{Table, at, with_block, tree_spelled}
use Rattle.block_reader.specs.Parts.{flat_spelled}
use Rattle.decl_reader.specs.declared.finished.Descriptor.{Descriptor}
use Rattle.decl_reader.specs.Shapes.{flat_shape}
use Rattle.decl_reader.specs.Meant.{IsGenericFlat}

-- the type that one spells, by those before it
abbrev pub type_of : ℕ → Table → Descriptor → Tree
type_of version done d = tree_spelled version done (flat_spelled d.flat)

-- the table of those before it, with one more
abbrev pub joined : ℕ → Table → Descriptor → Table
joined version done d = with_block done d.start (record { end = d.end; tree = type_of version done d })

-- what is known by them, behind what was known before
abbrev pub known_after : ℕ → Table → List Descriptor → Table
known_after version done [] = done
known_after version done (d ∷ ds) = known_after version (joined version done d) ds

-- the types that they spell
abbrev pub types_after : ℕ → Table → List Descriptor → List Tree
types_after version done [] = []
types_after version done (d ∷ ds) = type_of version done d ∷ types_after version (joined version done d) ds

-- the type at an index; where there is none it is some type
abbrev pub nth : List Tree → ℕ → Tree
nth [] index = predeclared bool_type
nth (t ∷ ts) zero = t
nth (t ∷ ts) (suc index) = nth ts index

abbrev pub type_at : ℕ → Table → List Descriptor → ℕ → Tree
type_at version done ds index = nth (types_after version done ds) index

-- One may join those before it: none of them starts where it does, and an instance has the name of a generic type, and
-- an argument.
pub record MayJoin (version : ℕ) (done : Table) (d : Descriptor) : Type 0 where
  pub new : at done d.start ≡ None
  pub generic : IsGenericFlat version done (flat_shape d.flat)

abbrev pub AreInTurn : ℕ → Table → List Descriptor → Type 0
AreInTurn version done [] = Unit {0}
AreInTurn version done (d ∷ ds) = MayJoin version done d × AreInTurn version (joined version done d) ds
