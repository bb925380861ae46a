use Rattle.std.proofs.Common.{rules, ◌≡◌, ap, ◌∙◌}
use Rattle.std.specs.List.{list_any}
use Rattle.type_terms.specs.TreeEquality.{same_name}
use Rattle.interface_opener.proofs.OpenLemmas.{open_told}
use Rattle.interface_opener.proofs.open_names.is_open.Goals as goal

pub returns-clause-closing : goal.returns-clause-closing
returns-clause-closing c due is =
    let held : c.contains.result ≡ list_any (same_name c.args.q.now) c.args.names.now.keys = search rules in
    held ∙ ap (list_any (same_name c.args.q.now)) is ∙ open_told c.args.q.now due
