use Rattle.std.proofs.Common.{arith, ◌-◌}
use Rattle.decl_reader.proofs.ListedLemmas.{place_none, place_hit, place_miss}
use Rattle.decl_reader.proofs.places.listed.place_in.Goals as goal

pub returns-then-begun-eq0 : goal.returns-then-begun-eq0
returns-then-begun-eq0 c = place_none c.args.offset c.args.listed.now c.requires.order c.count_begun-begun.result c.count_begun-begun.ensures c.if-begun-eq0.true

pub returns-then-start-offset : goal.returns-then-start-offset
returns-then-start-offset c =
    let begun = c.count_begun-begun.result in
    place_hit c.args.offset c.args.listed.now c.requires.order begun (begun - 1) c.count_begun-begun.ensures (omega (arith, c.if-begun-eq0.false)) _ c.if-start-offset.true

pub returns-else-start-offset : goal.returns-else-start-offset
returns-else-start-offset c =
    let begun = c.count_begun-begun.result in
    place_miss c.args.offset c.args.listed.now c.requires.order begun (begun - 1) c.count_begun-begun.ensures (omega (arith, c.if-begun-eq0.false)) _ c.if-start-offset.false
