use Rattle.std.proofs.Common.{◌+◌, ◌<◌, get_or, sym, arith}
use Rattle.wire_bytes.proofs.UvarintLemmas.{group_small, sum_small, next_small, goes_on, ends_whole, ends_zero, ends_cut, tenth_fits, ends_tenth, ends_tenth_wrong, rest_from}
use Rattle.wire_bytes.proofs.number.sum_of_groups.Goals as goal

pub returns-then-i-bytes-clause-exact : goal.returns-then-i-bytes-clause-exact
returns-then-i-bytes-clause-exact c = sym (ends_cut c.args.bytes.now c.loop-i.sum c.loop-i.weight c.loop-i.i c.loop-i.invariant c.if-i-bytes.true)

pub returns-then-i-gt0-clause-exact : goal.returns-then-i-gt0-clause-exact
returns-then-i-gt0-clause-exact c = sym (ends_zero c.args.bytes.now c.loop-i.sum c.loop-i.weight c.loop-i.i c.loop-i.invariant c.if-i-gt0.true c.if-i-bytes.false c.if-byte-eq0.true)

pub overflow_mul-result : goal.overflow_mul-result
overflow_mul-result c =
    let low : c.from.result < 128 = omega arith in
    omega (arith, group_small c.args.bytes.now c.loop-i.sum c.loop-i.weight c.loop-i.i c.from.result c.loop-i.invariant c.loop-i-test.true low)

pub overflow_add-result : goal.overflow_add-result
overflow_add-result c =
    let low : c.from.result < 128 = omega arith in
    omega (arith, sum_small c.args.bytes.now c.loop-i.sum c.loop-i.weight c.loop-i.i c.from.result c.loop-i.invariant c.loop-i-test.true low, next_small c.args.bytes.now c.loop-i.sum c.loop-i.weight c.loop-i.i c.loop-i.invariant c.loop-i-test.true)

pub returns-then-byte-lt128-clause-exact : goal.returns-then-byte-lt128-clause-exact
returns-then-byte-lt128-clause-exact c =
    let some : 0 < c.loop-i.i → 0 < get_or c.args.bytes.now c.loop-i.i 0 = λ h. omega (arith, h, c.else-byte-eq0.either) in
    rw (rest_from (c.loop-i.i + 1) c.args.bytes.now, c.from.ensures)
    (sym (ends_whole c.args.bytes.now c.loop-i.sum c.loop-i.weight c.loop-i.i c.loop-i.invariant c.loop-i-test.true c.if-i-bytes.false c.if-byte-lt128.true some))

pub overflow_mul-sum : goal.overflow_mul-sum
overflow_mul-sum c =
    let low : c.from-in-loop-i.result < 128 = omega (arith, c.type_inv.bytes c.loop-i.i) in
    omega (arith, group_small c.args.bytes.now c.loop-i.sum c.loop-i.weight c.loop-i.i c.from-in-loop-i.result c.loop-i.invariant c.loop-i-test.true low)

pub overflow_add-sum : goal.overflow_add-sum
overflow_add-sum c =
    let low : c.from-in-loop-i.result < 128 = omega (arith, c.type_inv.bytes c.loop-i.i) in
    omega (arith, sum_small c.args.bytes.now c.loop-i.sum c.loop-i.weight c.loop-i.i c.from-in-loop-i.result c.loop-i.invariant c.loop-i-test.true low, next_small c.args.bytes.now c.loop-i.sum c.loop-i.weight c.loop-i.i c.loop-i.invariant c.loop-i-test.true)

pub overflow_mul-weight : goal.overflow_mul-weight
overflow_mul-weight c = omega (arith, next_small c.args.bytes.now c.loop-i.sum c.loop-i.weight c.loop-i.i c.loop-i.invariant c.loop-i-test.true)

pub loop-i-preserved : goal.loop-i-preserved
loop-i-preserved c =
    rw c.from-in-loop-i.ensures
    (goes_on c.args.bytes.now c.loop-i.sum c.loop-i.weight c.loop-i.i c.loop-i.invariant c.loop-i-test.true c.if-i-bytes.false c.if-byte-lt128.false (omega (arith, c.type_inv.bytes c.loop-i.i)))

pub returns-then-bytes-le9-clause-exact : goal.returns-then-bytes-le9-clause-exact
returns-then-bytes-le9-clause-exact c = sym (ends_cut c.args.bytes.now c.loop-i.sum c.loop-i.weight c.loop-i.i c.loop-i.invariant (omega arith))

pub returns-then-bytes-ne1-clause-exact : goal.returns-then-bytes-ne1-clause-exact
returns-then-bytes-ne1-clause-exact c = sym (ends_tenth_wrong c.args.bytes.now c.loop-i.sum c.loop-i.weight c.loop-i.i c.loop-i.invariant c.loop-i-test.false c.if-bytes-le9.false c.if-bytes-ne1.true)

pub returns-clause-exact : goal.returns-clause-exact
returns-clause-exact c =
    rw (rest_from 10 c.args.bytes.now)
    (sym (ends_tenth c.args.bytes.now c.loop-i.sum c.loop-i.weight c.loop-i.i c.loop-i.invariant c.loop-i-test.false c.if-bytes-le9.false c.if-bytes-ne1.false))

pub overflow_add-result-2 : goal.overflow_add-result-2
overflow_add-result-2 c = omega (arith, tenth_fits c.args.bytes.now c.loop-i.sum c.loop-i.weight c.loop-i.i c.loop-i.invariant c.loop-i-test.false)
