use Rattle.std.proofs.Common.{◌≡◌, ◌<◌, sym, ◌∙◌, arith, true≢false, drop}
use Rattle.std.specs.Int.{w128}
use Rattle.std.specs.Prelude.{unsigned_abs}
use Rattle.std.proofs.lemmas.Int.{to_z-of_z}
use Rattle.wire_bytes.specs.Whole.{code_of, small_limit, with_sign}
use Rattle.wire_bytes.proofs.WholeLemmas.{abs-with_sign, size_some}
use Rattle.wire_bytes.proofs.SpelledSizes.{spelled_short, spelled_long}
use Rattle.wire_bytes.proofs.whole.spell_whole.Goals as goal

pub returns-then-is_short-clause-spelled : goal.returns-then-is_short-clause-spelled
returns-then-is_short-clause-spelled c =
    let value = with_sign c.sign_and_size-negative.result.0 c.sign_and_size-negative.result.1 in
    let is : value ≡ c.args.value = c.sign_and_size-negative.ensures.parts ∙ to_z-of_z w128 c.args.value c.ranges.value in
    spelled_short c.args.signed c.args.max c.code_of.result c.args.value value c.args.room.now c.requires.of_type is (c.is_short.ensures.0 c.if-is_short.true) (omega arith) (omega arith)

pub returns-clause-spelled : goal.returns-clause-spelled
returns-clause-spelled c =
    let negative = c.sign_and_size-negative.result.0 in
    let number = c.sign_and_size-negative.result.1 in
    let value = with_sign negative number in
    let is : value ≡ c.args.value = c.sign_and_size-negative.ensures.parts ∙ to_z-of_z w128 c.args.value c.ranges.value in
    let size : number ≡ unsigned_abs value = sym (abs-with_sign negative number) in
    let long = λ (lt : code_of c.args.signed value < small_limit c.args.signed c.args.max). true≢false (sym (c.is_short.ensures.1 lt) ∙ c.if-is_short.false) in
    spelled_long c.args.signed c.args.max c.prefix_of.result c.spell_size-start.result number c.args.value value c.spell_size-start.new.room c.requires.length c.requires.of_type is size long
    c.spell_size-start.ensures.start.0 c.spell_size-start.ensures.start.1 c.spell_size-start.ensures.spelled c.spell_size-start.ensures.highest (c.prefix_of.ensures number (omega (arith, size_some (drop c.spell_size-start.result c.spell_size-start.new.room) c.spell_size-start.ensures.highest))) c.spell_size-start.array_long c.spell_size-start.ensures.bytes
