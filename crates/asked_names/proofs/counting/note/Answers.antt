use Rattle.std.proofs.Common.{◌≡◌, ap, ◌∙◌, rules}
use Rattle.indexmap.specs.IndexSet.{insert_key}
use Rattle.asked_names.proofs.CountingLemmas.{same, noted_by_insertion}
use Rattle.asked_names.proofs.counting.note.Goals as goal

pub returns : goal.returns
returns c =
    let q : c.in_ok-q.q ≡ c.args.q.now = search rules in
    noted_by_insertion c.args.distinct.now.keys c.insert.new.self.keys c.args.q.now
    (c.in_ok-insert.ensures.keys ∙ ap (λ q. insert_key same c.args.distinct.now.keys q) q)
