use Rattle.type_terms.specs.Denotation.{tree}
use Rattle.block_walk.specs.Standing.{left_steps, AreThere, Goes}
use Rattle.block_walk.specs.Weights.{steps_weight}
use Rattle.block_walk.proofs.walking.go.Given as goal

abbrev pub invariant-loop-step : goal.invariant-loop-step
invariant-loop-step l =
    Goes l.nodes.nodes l.own l.fn.section l.section (left_steps (tree l.nodes.nodes) l.initial.left.items) (left_steps (tree l.nodes.nodes) l.left.items)
    × AreThere l.nodes.nodes l.left.items

abbrev pub decreases-loop-step : goal.decreases-loop-step
decreases-loop-step l = steps_weight (left_steps (tree l.nodes.nodes) l.left.items)
