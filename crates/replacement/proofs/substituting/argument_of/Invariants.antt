use Rattle.std.proofs.Common.{◌≡◌, ℕ, ◌<◌, false, slice_get, Some}
use Rattle.go_values.specs.declared.qualified.QName.{QName}
use Rattle.type_terms.specs.TreeEquality.{same_name}
use Rattle.replacement.proofs.substituting.argument_of.Given as goal

abbrev pub invariant-loop-k : goal.invariant-loop-k
invariant-loop-k l = (j : ℕ) (p : QName) → j < l.k → slice_get l.params j ≡ Some p → same_name l.q p ≡ false
