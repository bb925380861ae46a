use Rattle.std.proofs.Common.{◌≡◌, ℕ, ◌+◌, ◌<◌, ◌≤◌, slice_get, take, sum_by, Some}
use Rattle.cycle_rules.specs.declared.shapes.Form.{Form}
use Rattle.cycle_rules.specs.Counting.{form_count}
use Rattle.cycle_rules.specs.Containment.{IsMarked, IsPlaced, OnlyPlaces, size_left}
use Rattle.cycle_rules.proofs.containment.Containment.add_contained.Given as goal

abbrev pub invariant-loop-index : goal.invariant-loop-index
invariant-loop-index l = record {
  only : OnlyPlaces l.initial.self l.self;
  placed : (k : ℕ) (form : Form) → k < l.index → slice_get l.arguments k ≡ Some form → IsMarked l.initial.self.marks l.applied k → IsPlaced l.self.places l.owner form;
  size : size_left l.self.places l.initial.self.at ≤ size_left l.initial.self.places l.initial.self.at + sum_by form_count (take l.index l.arguments);
}
