use Rattle.std.proofs.Common.{◌≡◌}
use Rattle.cycle_rules.specs.Containment.{size_left}
use Rattle.cycle_rules.proofs.containment.Containment.find.Given as goal

abbrev pub invariant-loop-place : goal.invariant-loop-place
invariant-loop-place l = record {
  shapes : l.self.shapes ≡ l.initial.self.shapes;
  marks : l.self.marks ≡ l.initial.self.marks;
}

abbrev pub decreases-loop-place : goal.decreases-loop-place
decreases-loop-place l = size_left l.self.places l.self.at
