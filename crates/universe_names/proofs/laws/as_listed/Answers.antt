use Rattle.universe_names.proofs.UniverseLaws.{each, only}
use Rattle.universe_names.proofs.laws.as_listed.Goals as goal

pub returns-clause-each : goal.returns-clause-each
returns-clause-each c = each

pub returns-clause-only : goal.returns-clause-only
returns-clause-only c = only
