use Rattle.std.proofs.Common.{◌≡◌, ap, ◌∙◌, rules}
use Rattle.indexmap.specs.IndexSet.{insert_key}
use Rattle.environments.proofs.MentionLemmas.{same, noted_by_insertion}
use Rattle.environments.proofs.reference_walk.note.Goals as goal

pub returns : goal.returns
returns c =
    let name : c.in_ok-name.name ≡ c.args.name.now = search rules in
    noted_by_insertion c.args.found.now.keys c.insert.new.self.keys (record { name = c.args.name.now; role = c.args.role })
    (c.in_ok-insert.ensures.keys ∙ ap (λ n. insert_key same c.args.found.now.keys (record { name = n; role = c.args.role })) name)
