use Rattle.std.proofs.Common.{rules, ◌≡◌, ◌<◌, ◌-◌, ◌+◌, ◌*◌, ap, ◌∙◌, arith}
use Rattle.std.specs.Str.{chars}
use Rattle.go_lexer.specs.Escapes.{digits}
use Rattle.go_lexer.proofs.EscapeDigits.{digits_more, digits_broken, digits_short, digits_done, next_small, digits_fit}
use Rattle.go_lexer.proofs.escapes.read_digits.Goals as goal

pub returns-in_default : goal.returns-in_default
returns-in_default c = digits_short _ _ _ _ c.in_default.ensures.none (omega arith) ∙ c.loop.invariant.2

pub returns-in_default-to_digit : goal.returns-in_default-to_digit
returns-in_default-to_digit c = digits_broken _ _ _ _ _ _ c.in-Some.ensures.some (omega arith) c.in_default-to_digit.ensures.value ∙ c.loop.invariant.2

pub overflow_mul-value : goal.overflow_mul-value
overflow_mul-value c =
    let small = next_small c.loop.value c.args.base 0 c.loop.counter c.requires.high (omega arith) c.loop.invariant.1 in
    let fits = digits_fit (c.loop.value * c.args.base + 0) (c.loop.counter + 1) (omega arith) small in
    omega (arith, fits)

pub overflow_add-value : goal.overflow_add-value
overflow_add-value c =
    let digit : c.in-Some-to_digit.digit < c.args.base = omega (arith, c.in-Some-to_digit.ensures.value.0, c.in-Some-to_digit.ensures.value.1) in
    let small = next_small c.loop.value c.args.base c.in-Some-to_digit.digit c.loop.counter c.requires.high digit c.loop.invariant.1 in
    let fits = digits_fit (c.loop.value * c.args.base + c.in-Some-to_digit.digit) (c.loop.counter + 1) (omega arith) small in
    omega (arith, fits)

pub loop-preserved : goal.loop-preserved
loop-preserved c =
    let digit : c.in-Some-to_digit.digit < c.args.base = omega (arith, c.in-Some-to_digit.ensures.value.0, c.in-Some-to_digit.ensures.value.1) in
    let small = next_small c.loop.value c.args.base c.in-Some-to_digit.digit c.loop.counter c.requires.high digit c.loop.invariant.1 in
    let left : c.args.count - (c.loop.counter + 1) ≡ c.args.count - c.loop.counter - 1 = omega arith in
    let value = ap (λ d. c.loop.value * c.args.base + d) c.in-Some-to_digit.ensures.value.1 in
    let more = digits_more c.args.base (c.args.count - c.loop.counter) c.loop.value c.in-Some.first (chars c.loop.rest.now) (chars c.in-Some.after.now) c.in-Some.ensures.some (omega arith) c.in-Some-to_digit.ensures.value.0 in (
      search rules,
      small,
      ap (λ n. digits c.args.base n (c.loop.value * c.args.base + c.in-Some-to_digit.digit) (chars c.in-Some.after.now)) left
          ∙ ap (λ v. digits c.args.base (c.args.count - c.loop.counter - 1) v (chars c.in-Some.after.now)) value ∙ more ∙ c.loop.invariant.2,
    )

pub returns : goal.returns
returns c =
    let none : c.args.count - c.loop.counter ≡ 0 = omega arith in
    digits_done c.args.base (c.args.count - c.loop.counter) c.loop.value (chars c.loop.rest.now) none ∙ c.loop.invariant.2
