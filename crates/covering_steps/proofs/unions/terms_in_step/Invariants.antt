use Rattle.std.proofs.Common.{◌≡◌, drop}
use Rattle.covering_steps.specs.NodeSteps.{terms_in_step}
use Rattle.covering_steps.proofs.NodeStepLemmas.{joined}
use Rattle.covering_steps.proofs.unions.terms_in_step.Given as goal

abbrev pub invariant-loop-k : goal.invariant-loop-k
invariant-loop-k l = joined l.parts.items (terms_in_step (drop l.k l.left) (drop l.k l.right)) ≡ terms_in_step l.left l.right
