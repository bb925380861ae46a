use Rattle.std.proofs.Common.{◌≡◌, ◌<◌, ◌+◌, ◌++◌, ◌∷◌, [], map, drop, length, slice_get, Some, refl, ap, ◌∙◌, arith}
use Rattle.std.proofs.lemmas.Option.{slice_get_read}
use Rattle.type_alike.specs.Demands.{in_step}
use Rattle.type_demands.specs.NodeDemands.{node_pair}
use Rattle.type_demands.proofs.ListLemmas.{one_pushed, all_pushed}
use Rattle.type_demands.proofs.in_step.push_in_step.Goals as goal

pub loop-k-preserved : goal.loop-k-preserved
loop-k-preserved g c = λ generic.
    let xs = c.args.left.now in
    let ys = c.args.right.now in
    let k = c.loop-k.k in
    let x = c.index-left-k.result in
    let y = c.index-right-k.result in
    let type_of = g.T.Typed.type_of in
    let into = c.loop-k.into.items in
    let below : k < length ys = omega (arith, c.requires.count, c.loop-k-test.true) in
    let left : slice_get xs k ≡ Some x = slice_get_read xs (length xs) k x refl c.loop-k-test.true c.index-left-k.is in
    let right : slice_get ys k ≡ Some y = slice_get_read ys (length ys) k y refl below c.index-right-k.is in
    let pushed : c.push.new.self.items ≡ into ++ node_pair (type_of x) (type_of y) ∷ []
    = c.in_ok-push.ensures.items ∙ (λ i. into ++ node_pair (c.type_of.ensures i) (c.type_of-in-loop-k.ensures i) ∷ []) in
    ap (λ items. items ++ in_step generic node_pair (map type_of (drop (k + 1) xs)) (map type_of (drop (k + 1) ys))) pushed
    ∙ one_pushed type_of generic into _ xs ys k x y left right (c.loop-k.invariant generic)

pub returns : goal.returns
returns g c = λ generic.
    all_pushed g.T.Typed.type_of generic c.loop-k.into.items _ c.args.left.now c.args.right.now c.loop-k.k c.loop-k-test.false (c.loop-k.invariant generic)
