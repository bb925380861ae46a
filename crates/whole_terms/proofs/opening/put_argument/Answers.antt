use Rattle.std.proofs.Common.{◌≡◌, ◌<◌, length, slice_get, Some, refl, sym, ◌∙◌, arith}
use Rattle.std.proofs.lemmas.Option.{slice_get_read}
use Rattle.whole_terms.proofs.PutLemmas.{on_next}
use Rattle.whole_terms.proofs.opening.put_argument.Goals as goal

pub loop-k-preserved : goal.loop-k-preserved
loop-k-preserved c =
    let ps = c.args.tparams.now in
    let args = c.args.args.now in
    let k = c.loop-k.k in
    let at : slice_get ps k ≡ Some c.index-tparams-k.result = slice_get_read ps (length ps) k c.index-tparams-k.result refl c.loop-k-test.true c.index-tparams-k.is in
    let below : k < length args = omega (arith, c.requires.count, c.loop-k-test.true) in
    (c.loop-k.invariant.0 ∙ on_next ps args k c.index-tparams-k.result c.args.q.now at below (sym c.if-eq.ensures), c.loop-k.invariant.1)
