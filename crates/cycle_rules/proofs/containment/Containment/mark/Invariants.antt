use Rattle.std.proofs.Common.{ℕ, ◌<◌}
use Rattle.cycle_rules.specs.declared.shapes.Form.{Form}
use Rattle.cycle_rules.specs.declared.containment.Place.{Place}
use Rattle.cycle_rules.specs.Containment.{StandsAt, IsArgument, IsPlaced, OnlyPlaces}
use Rattle.cycle_rules.proofs.containment.Containment.mark.Given as goal

abbrev pub invariant-loop-at : goal.invariant-loop-at
invariant-loop-at l = record {
  only : OnlyPlaces l.initial.self l.self;
  placed : (k : ℕ) (place : Place) (form : Form) → k < l.at → StandsAt l.initial.self.applications l.owner k place → IsArgument place.form.now l.index form → IsPlaced l.self.places place.owner form;
}
