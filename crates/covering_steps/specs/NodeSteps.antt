-- What a type that covers wants of another one, over nodes of an arena.
use Rattle.std.specs.Prelude.{List, [], ◌∷◌, cond, map, Option, Some, None, option_map}
use Rattle.type_terms.specs.declared.descriptors.Node.{Node}
use Rattle.type_terms.specs.declared.literals.Term.{Term}
use Rattle.type_terms.specs.Denotation.{tree}
use Rattle.type_terms.specs.NodeShapes.{node_shape, term_shape}
use Rattle.type_terms.specs.Shapes.{union_of, retype}
use Rattle.type_terms.specs.Trees.{Tree, tree_of}
use Rattle.type_terms.specs.TreeEquality.{same_flag}
use Rattle.type_demands.specs.declared.demands.Pair.{Pair}
use Rattle.type_demands.specs.NodeDemands.{node_pair, pair_tree}
use Rattle.covering_steps.specs.declared.steps.Step.{Step as NodeStep}
use Rattle.covering_steps.specs.declared.steps.Step.TheVariants.{Differ, Parts, Free}
use Rattle.covering_steps.specs.Steps.{Step, no, where_parts, where_free, empty_step, step}

-- the pairs of the types in the same places, where the terms have tildes alike
abbrev pub terms_in_step : List Term → List Term → Option (List Pair)
terms_in_step [] [] = Some []
terms_in_step (x ∷ xs) (y ∷ ys) = cond (same_flag x.tilde y.tilde)
    (option_map (λ rest. node_pair x.ty y.ty ∷ rest) (terms_in_step xs ys)) None
terms_in_step _ _ = None

module _ (nodes : List Node) where
  abbrev pub step_meant : NodeStep → Step
  step_meant Differ = no
  step_meant (Parts pairs) = where_parts (map (pair_tree nodes) pairs.items)
  step_meant Free = where_free

  abbrev pub pairs_step : Option (List Pair) → Step
  pairs_step None = no
  pairs_step (Some pairs) = where_parts (map (pair_tree nodes) pairs)

  -- the type of a node
  abbrev pub node_type : Node → Tree
  node_type node = tree_of (retype (tree nodes) (node_shape node))

  abbrev pub empty_at : Node → Step
  empty_at right = empty_step (node_type right)

  -- what a union of these terms wants
  abbrev pub union_at : List Term → Node → Step
  union_at left right = step (tree_of (retype (tree nodes) (union_of (map term_shape left)))) (node_type right)
