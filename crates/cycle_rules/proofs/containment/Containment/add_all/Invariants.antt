use Rattle.std.proofs.Common.{◌≡◌, ℕ, ◌+◌, ◌<◌, ◌≤◌, slice_get, take, sum_by, Some}
use Rattle.cycle_rules.specs.declared.shapes.Form.{Form}
use Rattle.cycle_rules.specs.Counting.{form_count}
use Rattle.cycle_rules.specs.Containment.{IsPlaced, OnlyPlaces, size_left}
use Rattle.cycle_rules.proofs.containment.Containment.add_all.Given as goal

abbrev pub invariant-loop-form : goal.invariant-loop-form
invariant-loop-form l = record {
  only : OnlyPlaces l.initial.self l.self;
  placed : (k : ℕ) (form : Form) → k < l.form-index → slice_get l.forms k ≡ Some form → IsPlaced l.self.places l.owner form;
  size : size_left l.self.places l.initial.self.at ≤ size_left l.initial.self.places l.initial.self.at + sum_by form_count (take l.form-index l.forms);
}
