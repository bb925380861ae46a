use Rattle.std.proofs.Common.{◌≡◌, ℕ, ◌<◌, slice_get, Some}
use Rattle.cycle_rules.specs.declared.shapes.Form.{Form}
use Rattle.cycle_rules.specs.Forms.{Fits}
use Rattle.front_cases.proofs.fitting.+fitting.Given as goal

abbrev pub invariant-all_fit-loop-form : goal.invariant-all_fit-loop-form
invariant-all_fit-loop-form l = (k : ℕ) (form : Form) → k < l.form-index → slice_get l.forms k ≡ Some form → Fits l.shapes l.params form
