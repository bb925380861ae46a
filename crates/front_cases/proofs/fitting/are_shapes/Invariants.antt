use Rattle.std.proofs.Common.{◌≡◌, ℕ, ◌<◌, slice_get, length, Some}
use Rattle.cycle_rules.specs.declared.shapes.DeclShape.{DeclShape}
use Rattle.cycle_rules.specs.declared.cycles.CycleKind.{CycleKind}
use Rattle.cycle_rules.specs.Forms.{Fits}
use Rattle.cycle_rules.specs.Cycles.{targets_of}
use Rattle.front_cases.proofs.fitting.are_shapes.Given as goal

abbrev pub invariant-loop-shape : goal.invariant-loop-shape
invariant-loop-shape l = record {
  forms : (i : ℕ) (of : DeclShape) → i < l.shape-index → slice_get l.shapes i ≡ Some of → Fits l.shapes of.params of.holds;
  lists : (i : ℕ) (of : DeclShape) (kind : CycleKind) (k v : ℕ) → i < l.shape-index → slice_get l.shapes i ≡ Some of → slice_get (targets_of kind of) k ≡ Some v → v < length l.shapes;
}
