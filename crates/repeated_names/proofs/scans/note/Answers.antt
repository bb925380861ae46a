use Rattle.std.proofs.Common.{rules, ◌≡◌}
use Rattle.std.proofs.lemmas.Map.Text.{hash_map_updates_str}
use Rattle.repeated_names.specs.Firsts.{at_first}
use Rattle.repeated_names.specs.Tables.{place_in}
use Rattle.repeated_names.proofs.ScanLaws.{noted}
use Rattle.repeated_names.proofs.scans.note.Goals as goal

pub returns-clause-noted : goal.returns-clause-noted
returns-clause-noted c = λ text.
    let is : c.at_first.result ≡ at_first c.args.name.place (place_in c.args.places.now c.args.name.text.now) = search rules in
    noted (place_in c.args.places.now) (at_first c.args.name.place) c.args.name.text.now text c.at_first.result _ is
    (hash_map_updates_str c.args.name.text.now c.args.places.now c.insert.new.self _ c.in_ok-insert.ensures.updates text)
