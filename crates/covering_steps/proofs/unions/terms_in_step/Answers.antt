use Rattle.std.proofs.Common.{rules, ◌≡◌, ◌<◌, length, slice_get, Some, refl, sym, arith}
use Rattle.std.proofs.lemmas.Option.{slice_get_read}
use Rattle.covering_steps.specs.NodeSteps.{terms_in_step}
use Rattle.covering_steps.proofs.NodeStepLemmas.{uneven, one_found, flags_same}
use Rattle.covering_steps.proofs.unions.terms_in_step.Goals as goal

pub returns-then-left-right : goal.returns-then-left-right
returns-then-left-right c = sym (uneven c.args.left.now c.args.right.now c.if-left-right.true)

pub loop-k-preserved : goal.loop-k-preserved
loop-k-preserved c =
    let xs = c.args.left.now in
    let ys = c.args.right.now in
    let k = c.loop-k.k in
    let x = c.index-left-k.result in
    let y = c.index-right-k.result in
    let even : length xs ≡ length ys = search rules in
    let below : k < length ys = omega (arith, even, c.loop-k-test.true) in
    let left : slice_get xs k ≡ Some x = slice_get_read xs (length xs) k x refl c.loop-k-test.true c.index-left-k.is in
    let right : slice_get ys k ≡ Some y = slice_get_read ys (length ys) k y refl below c.index-right-k.is in
    let tildes : x.tilde ≡ y.tilde = search rules in
    one_found xs ys k x y left right c.loop-k.parts.items (terms_in_step xs ys) c.loop-k.invariant (flags_same x.tilde y.tilde tildes) c.push.new.self.items c.in_ok-push.ensures.items
