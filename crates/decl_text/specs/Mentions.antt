-- The types that the text of a declaration refers to.
use Rattle.std.specs.List.{Contains}
use Rattle.type_terms.specs.Declarations.{form_types, Decl}
use Rattle.type_terms.specs.Parts.{Within}
use Rattle.type_terms.specs.Trees.{Tree}

-- A declaration refers to the types that it holds, and the line of a type to those that stand in it: so to all that
-- stand in what the declaration holds, at any depth.
pub record RefersTo (decl : Decl) (type : Tree) : Type 0 where
  pub holder : Tree
  pub held : Contains (form_types decl) holder
  pub within : Within holder type
