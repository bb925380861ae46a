use Rattle.std.proofs.Common.{subst}
use Rattle.block_walk.specs.Entering.{Piles}
use Rattle.block_walk.proofs.WalkingLemmas.{pile_more}
use Rattle.block_walk.proofs.entering.pile.Goals as goal

pub loop-step-preserved : goal.loop-step-preserved
loop-step-preserved c new piles =
    c.loop-step.invariant new
    (pile_more c.loop-step.steps.items c.pop.new.self.items c.loop-step.left.items new c.in-Some.step c.in-Some.ensures.items
    (subst (λ ls. Piles c.pop.new.self.items ls new) c.in_ok-extend_from_slice.ensures.items piles))
