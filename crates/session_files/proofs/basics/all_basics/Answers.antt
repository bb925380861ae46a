use Rattle.std.proofs.Common.{◌≡◌, map, length, sym, ◌∙◌, ap}
use Rattle.session_files.specs.OpenSessions.{all_opened}
use Rattle.session_files.specs.Ways.{basic_at, settled}
use Rattle.session_files.proofs.IndexLemmas.{ok_more}
use Rattle.session_files.proofs.WayLemmas.{ways_settled, whole}
use Rattle.session_files.proofs.basics.all_basics.Goals as goal

pub returns : goal.returns
returns c =
    let files = all_opened c.args.files.now in
    let index = c.args.index.now in
    let ways = c.follow_ways.new.ways in
    let start = c.deref_mut.ensures.value in
    let len : length ways ≡ c.in_ok-ways.ways.len = c.follow_ways.ensures.length ∙ ap length start ∙ sym c.in_ok-ways.ways.ok.0 in
    let same : c.deref.result.now ≡ ways = c.deref.ensures.value ∙ whole c.in_ok-ways.ways.len ways _ len in
    ok_more (λ basics. basics.items ≡ map settled c.deref.result.now) (λ basics. basics.items ≡ map (basic_at files) index)
    (λ basics made. ways_settled files index c.in_ok-ways.ways.items ways c.count_listed.result basics.items c.in_ok-ways.ensures c.count_listed.ensures.count (c.follow_ways.ensures.length ∙ ap length start) (rw start at c.follow_ways.ensures.ways) (made ∙ ap (map settled) same))
    c.settle.result c.settle.ensures
