use Rattle.std.proofs.Common.{set, length, ap, ◌<◌, ◌∙◌, arith}
use Rattle.std.proofs.lemmas.List.{length-set}
use Rattle.std.proofs.lemmas.Option.{slice_get-get_or, slice_get_within}
use Rattle.session_files.proofs.WayLemmas.{one_more}
use Rattle.session_files.proofs.basics.double_ways.Goals as goal

pub loop-i-preserved : goal.loop-i-preserved
loop-i-preserved c =
    let ways = c.loop-i.ways in
    let i = c.loop-i.i in
    let inv = c.loop-i.invariant in
    let within_list : i < length ways = omega (arith, inv.0, c.loop-i-test.true) in (
      length-set ways i c.further-way.result ∙ inv.0,
      λ within limit reach first. one_more within limit ways _ reach i _ (slice_get-get_or ways i _ within_list) (ap (set ways i) c.further-way.ensures) (inv.1 within limit reach first),
    )

pub returns-clause-ways : goal.returns-clause-ways
returns-clause-ways c = λ within limit reach first k way at.
    let inv = c.loop-i.invariant in
    let taken = inv.1 within limit reach first in
    taken.done k way (omega (arith, c.loop-i-test.false, inv.0, slice_get_within c.loop-i.ways k way at)) at
