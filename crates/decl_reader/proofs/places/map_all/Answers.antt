use Rattle.std.proofs.Common.{List, ap, ◌∙◌, get_or}
use Rattle.decl_reader.specs.Places.{PlaceEntry, with_place}
use Rattle.decl_reader.proofs.ListedLemmas.{one_further}
use Rattle.decl_reader.proofs.places.map_all.Goals as goal

pub loop-start-preserved : goal.loop-start-preserved
loop-start-preserved c =
    let d : PlaceEntry = (0, record { end = 0; index = 0 }) in
    let i = c.loop-start.start-index in
    let e : PlaceEntry = get_or c.args.listed.now i d in
    c.in_ok-insert.ensures.entries ∙ ap (λ (es : List PlaceEntry). with_place es e.0 e.1) c.loop-start.invariant ∙ one_further c.args.listed.now i d c.requires.order c.loop-start-test.true
