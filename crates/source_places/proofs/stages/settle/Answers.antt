use Rattle.std.proofs.Common.{sym, ◌∙◌}
use Rattle.source_places.proofs.LeastLaws.{none_least}
use Rattle.source_places.proofs.stages.settle.Goals as goal

pub returns-in-None-clause-stage : goal.returns-in-None-clause-stage
returns-in-None-clause-stage g c = λ places first. none_least (places c.args.code) (sym first ∙ c.in-None.is)
