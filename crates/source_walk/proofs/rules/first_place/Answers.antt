use Rattle.std.proofs.Common.{◌∙◌, map}
use Rattle.source_walk.specs.Rows.{written_parsed}
use Rattle.source_walk.specs.Visits.{files_visits}
use Rattle.source_walk.proofs.RuleLaws.{first_of}
use Rattle.source_walk.proofs.rules.first_place.Goals as goal

pub returns : goal.returns
returns g c = c.in_ok-visit_files.ensures.told ∙ first_of (g.R.Rule.places c.args.rule) (files_visits (map written_parsed c.args.files.now))
