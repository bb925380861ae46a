use Rattle.go_type_syntax.proofs.StandingTypeLaws.{type_stands}
use Rattle.go_type_syntax.proofs.laws.type_stands.Goals as goal

pub returns : goal.returns
returns c = type_stands
