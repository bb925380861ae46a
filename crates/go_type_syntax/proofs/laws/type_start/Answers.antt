use Rattle.go_type_syntax.proofs.StandingTypeLaws.{starts_at}
use Rattle.go_type_syntax.proofs.laws.type_start.Goals as goal

pub returns : goal.returns
returns c = starts_at
