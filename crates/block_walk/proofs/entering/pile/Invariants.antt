use Rattle.std.proofs.Common.{List, vec_len}
use Rattle.block_walk.specs.declared.steps.Step.{Step as Todo}
use Rattle.block_walk.specs.Entering.{Piles}
use Rattle.block_walk.proofs.entering.pile.Given as goal

abbrev pub invariant-loop-step : goal.invariant-loop-step
invariant-loop-step l = (new : List Todo) → Piles l.steps.items l.left.items new → Piles l.fn.steps.items l.fn.left.items new

abbrev pub decreases-loop-step : goal.decreases-loop-step
decreases-loop-step l = vec_len l.steps
