-- The descriptors that were read whole in the reading of one declaration.
use Rattle.std.specs.Prelude.{ℕ, ◌-◌, List, [], ◌∷◌, Option, Some, None, cond, nat_lt, nat_le}
use Rattle.std.specs.Ordering.{nat_cmp}
use Rattle.std.specs.Map.{lookup}
use Rattle.std.specs.Ordering.{is_eq}
use Rattle.std.specs.BTreeMap.{insert_entry}
use Rattle.code_tables.specs.declared.predeclared.Basic.{Basic}
use Rattle.code_tables.specs.declared.predeclared.Basic.TheVariants.{Bool as bool_type}
use Rattle.type_terms.specs.Shapes.{retype}
use Rattle.type_terms.specs.Trees.{Tree, predeclared, tree_of}
use Rattle.decl_spelling.specs.declared.mention.TheConstants.{FIRST_DESCRIPTOR}
use Rattle.decl_spelling.specs.Codes.{basic_of}
use Rattle.decl_spelling.specs.Spelled.{SpelledType, SpelledShape, meant}

-- where a descriptor ends in the data section, and the type that it spells
pub record Finished : Type 0 where
  pub end : ℕ
  pub tree : Tree

-- the offsets of descriptors, in their order, and what stands there
abbrev pub Table : Type 0
Table = List (ℕ × Finished)

abbrev pub at : Table → ℕ → Option Finished
at done offset = lookup (λ start. is_eq (nat_cmp offset start)) done

abbrev pub with_block : Table → ℕ → Finished → Table
with_block done offset finished = insert_entry nat_cmp done offset finished

-- the first byte from the offset on that a descriptor of the table has, or else the limit
abbrev pub free_to : ℕ → ℕ → Table → ℕ
free_to offset limit [] = limit
free_to offset limit (entry ∷ rest) =
    cond (nat_le entry.1.end offset) (free_to offset limit rest)
    (cond (nat_le entry.0 offset) offset (cond (nat_lt entry.0 limit) entry.0 limit))

abbrev pub basic_tree : Option Basic → Tree
basic_tree (Some basic) = predeclared basic
basic_tree None = predeclared bool_type

abbrev pub finished_tree : Option Finished → Tree
finished_tree (Some finished) = finished.tree
finished_tree None = predeclared bool_type

-- the type that a typeOff names; one that names none gives some type
abbrev pub type_named : ℕ → Table → ℕ → Tree
type_named version done number =
    cond (nat_lt number FIRST_DESCRIPTOR) (basic_tree (basic_of version number))
    (finished_tree (at done (number - FIRST_DESCRIPTOR)))

-- the same of a type that stands in a block
abbrev pub type_spelled : ℕ → Table → SpelledType → Tree
type_spelled version done type = type_named version done type.number

-- the type that a descriptor with these parts spells
abbrev pub tree_spelled : ℕ → Table → SpelledShape SpelledType → Tree
tree_spelled version done shape = tree_of (meant (retype (type_spelled version done) shape))
