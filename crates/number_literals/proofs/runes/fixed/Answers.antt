use Rattle.std.proofs.Common.{◌+◌, ◌*◌, ◌<◌, arith}
use Rattle.go_lexer.proofs.EscapeDigits.{next_small, digits_fit}
use Rattle.number_literals.proofs.runes.fixed.Goals as goal

pub overflow_mul-value : goal.overflow_mul-value
overflow_mul-value c =
    let small = next_small c.loop-byte.value c.args.base 0 c.loop-byte.byte-index c.requires.high (omega arith) c.loop-byte.invariant.small in
    let fits = digits_fit (c.loop-byte.value * c.args.base + 0) (c.loop-byte.byte-index + 1) (omega arith) small in
    omega (arith, fits)

pub overflow_add-value : goal.overflow_add-value
overflow_add-value c =
    let digit : c.in_ok-digit.digit < c.args.base = omega (arith, c.in_ok-digit.ensures.value.0, c.in_ok-digit.ensures.value.1) in
    let small = next_small c.loop-byte.value c.args.base c.in_ok-digit.digit c.loop-byte.byte-index c.requires.high digit c.loop-byte.invariant.small in
    let fits = digits_fit (c.loop-byte.value * c.args.base + c.in_ok-digit.digit) (c.loop-byte.byte-index + 1) (omega arith) small in
    omega (arith, fits)
