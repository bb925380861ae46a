use Rattle.std.proofs.lemmas.Fn.{always_returns_same}
use Rattle.file_parts.specs.Paths.{text_of}
use Rattle.wire_bytes.proofs.RiseLemmas.{beside, found_there, none_there}
use Rattle.file_parts.proofs.search.find_titled.Goals as goal

pub returns-clause-found : goal.returns-clause-found
returns-clause-found g c =
    let title = λ (r : g.row.T.Denot). text_of c.args.strings.now (g.T.Titled.title r) in
    let facts = c.binary_search_by.ensures in
    let by_title = facts.position (beside title c.args.records.now c.requires.rising c.args.wanted.now) (always_returns_same _ _ _ (λ a r f k. (k.met.1, λ j. (k.met.0.0 j, k.met.0.1 j)))) in
    rw c.ok.ensures.value (found_there title c.args.records.now c.requires.rising c.args.wanted.now c.binary_search_by.result facts.bound by_title)

pub returns-clause-none : goal.returns-clause-none
returns-clause-none g c =
    let title = λ (r : g.row.T.Denot). text_of c.args.strings.now (g.T.Titled.title r) in
    let facts = c.binary_search_by.ensures in
    let by_title = facts.position (beside title c.args.records.now c.requires.rising c.args.wanted.now) (always_returns_same _ _ _ (λ a r f k. (k.met.1, λ j. (k.met.0.0 j, k.met.0.1 j)))) in
    rw c.ok.ensures.value (none_there title c.args.records.now c.requires.rising c.args.wanted.now c.binary_search_by.result facts.bound by_title)
