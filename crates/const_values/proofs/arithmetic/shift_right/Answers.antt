use Rattle.std.proofs.Common.{arith}
use Rattle.std.specs.Prelude.{FitsSigned}
use Rattle.std.specs.Int.{w128}
use Rattle.std.proofs.lemmas.Int.{to_z-of_z}
use Rattle.const_values.proofs.Shifts.{right_below_zero, right_from_zero}
use Rattle.const_values.proofs.arithmetic.shift_right.Goals as goal

pub returns-then-number-lt0 : goal.returns-then-number-lt0
returns-then-number-lt0 c =
    let fits : FitsSigned w128 c.args.number = c.ranges.number in
    let below = simp to_z-of_z at c.if-number-lt0.true in
    right_below_zero c.args.number c.args.count fits (omega arith) below

pub returns-else-number-lt0 : goal.returns-else-number-lt0
returns-else-number-lt0 c =
    let fits : FitsSigned w128 c.args.number = c.ranges.number in
    let above = simp to_z-of_z at c.if-number-lt0.false in
    right_from_zero c.args.number c.args.count fits (omega arith) above
