use Rattle.std.proofs.Common.{arith}
use Rattle.std.specs.Prelude.{FitsSigned}
use Rattle.std.specs.Int.{w128}
use Rattle.std.proofs.lemmas.Int.{to_z-of_z}
use Rattle.const_values.proofs.Shifts.{power_word, left_too_far}
use Rattle.const_values.proofs.arithmetic.shift_left.Goals as goal
use Rattle.const_values.proofs.arithmetic.shift_left.Goals.{else-count-eq127-via-then-count-eq127+else-number-eqminus1, else-count-eq127-via-else-count-eq127}

pub returns-then-count-lt127 : goal.returns-then-count-lt127
returns-then-count-lt127 c =
    let fits : FitsSigned w128 c.args.number = c.ranges.number in
    let word = power_word c.args.count c.if-count-lt127.true in
    simp (to_z-of_z, word) at c.checked_mul.ensures

pub returns-else-count-eq127 : goal.returns-else-count-eq127
returns-else-count-eq127 c = left_too_far c.args.number c.args.count c.if-number-eq0.false (omega arith)
    (λ at. elim c.else-count-eq127.branch [
      | else-count-eq127-via-then-count-eq127+else-number-eqminus1 w ↦ w.if-number-eqminus1.false
      | else-count-eq127-via-else-count-eq127 w ↦ absurd (w.if-count-eq127.false at)
    ])
