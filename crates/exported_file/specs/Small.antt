-- What is asked of a declaration, before what is written of it.
use Rattle.std.specs.List.{AllByRecursion}
use Rattle.position_codec.specs.Place.{place_of}
use Rattle.position_codec.specs.Position.{IsPlace}
use Rattle.type_terms.specs.Trees.{Tree, level_of}
use Rattle.type_terms.specs.Parts.{Within}
use Rattle.type_terms.specs.Declarations.{Decl, form_types}
use Rattle.type_terms.specs.DeclarationRules.{IsProperDecl}
use Rattle.decl_spelling.specs.Sections.{Basics}
use Rattle.file_layout.specs.Items.{Item, a_position, level_items, decl_items}
use Rattle.file_layout.specs.Conditions.{ConstantFits}

-- The numbers of a position have 32 bits. Nothing is asked of other numbers.
abbrev pub IsSmall : Item → Type 0
IsSmall (a_position pos) = IsPlace (place_of pos)
IsSmall _ = Unit {0}

-- at every level
abbrev pub IsSmallType : Tree → Type 0
IsSmallType type = (part : Tree) → Within type part → AllByRecursion IsSmall (level_items (level_of part))

-- It keeps the rules on declarations, its positions fit, and a constant is one of its type.
pub record IsWritable (basics : Basics) (decl : Decl) : Type 0 where
  pub proper : IsProperDecl decl
  pub small : AllByRecursion IsSmall (decl_items basics decl)
  pub types : AllByRecursion IsSmallType (form_types decl)
  pub constant : ConstantFits basics decl
