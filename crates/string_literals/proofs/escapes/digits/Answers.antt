use Rattle.std.proofs.Common.{◌≡◌, ◌<◌, ◌-◌, ◌+◌, ◌*◌, ◌∙◌, ap, rules, arith, take, drop, length}
use Rattle.go_lexer.proofs.EscapeDigits.{next_small, digits_fit}
use Rattle.string_literals.specs.Escapes.{digits}
use Rattle.string_literals.proofs.Digits.{digits_more, digits_broken}
use Rattle.string_literals.proofs.Passing.{behind}
use Rattle.string_literals.proofs.escapes.digits.Goals as goal

pub returns-in_err-digit-clause-exact : goal.returns-in_err-digit-clause-exact
returns-in_err-digit-clause-exact c =
    c.from_residual.ensures ∙ digits_broken c.args.base (c.args.count - c.loop.counter) c.loop.value c.from.result c.loop.rest.now c.in-len1-up.len_at_least c.from.ensures (omega arith) c.in_err-digit.ensures.value ∙ c.loop.invariant.read

pub overflow_mul-value : goal.overflow_mul-value
overflow_mul-value c =
    let small = next_small c.loop.value c.args.base 0 c.loop.counter c.requires.high (omega arith) c.loop.invariant.small in
    let fits = digits_fit (c.loop.value * c.args.base + 0) (c.loop.counter + 1) (omega arith) small in
    omega (arith, fits)

pub overflow_add-value : goal.overflow_add-value
overflow_add-value c =
    let digit : c.in_ok-digit.digit < c.args.base = omega (arith, c.in_ok-digit.ensures.value.0, c.in_ok-digit.ensures.value.1) in
    let small = next_small c.loop.value c.args.base c.in_ok-digit.digit c.loop.counter c.requires.high digit c.loop.invariant.small in
    let fits = digits_fit (c.loop.value * c.args.base + c.in_ok-digit.digit) (c.loop.counter + 1) (omega arith) small in
    omega (arith, fits)

pub loop-preserved : goal.loop-preserved
loop-preserved c =
    let digit : c.in_ok-digit.digit < c.args.base = omega (arith, c.in_ok-digit.ensures.value.0, c.in_ok-digit.ensures.value.1) in
    let left : c.args.count - (c.loop.counter + 1) ≡ c.args.count - c.loop.counter - 1 = omega arith in
    let rest = behind 1 c.loop.rest.now in
    record {
      small = next_small c.loop.value c.args.base c.in_ok-digit.digit c.loop.counter c.requires.high digit c.loop.invariant.small;
      read = ap (λ n. digits c.args.base n (c.loop.value * c.args.base + c.in_ok-digit.digit) (take (length c.loop.rest.now - 1) (drop 1 c.loop.rest.now))) left
          ∙ digits_more c.args.base (c.args.count - c.loop.counter) c.loop.value c.from.result c.in_ok-digit.digit c.loop.rest.now c.in-len1-up.len_at_least c.from.ensures (omega arith) c.in_ok-digit.ensures.value.0 c.in_ok-digit.ensures.value.1 ∙ c.loop.invariant.read;
      taken = search (rules, c.loop.invariant.taken, c.in-len1-up.len_at_least);
    }
