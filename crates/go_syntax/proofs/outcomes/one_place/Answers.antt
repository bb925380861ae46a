use Rattle.go_syntax.proofs.FirstPlace.{first_unexpected}
use Rattle.go_syntax.proofs.TreeLaws.{one_unexpected}
use Rattle.go_syntax.proofs.outcomes.one_place.Goals as goal

pub returns-clause-some : goal.returns-clause-some
returns-clause-some c = first_unexpected

pub returns-clause-only : goal.returns-clause-only
returns-clause-only c = one_unexpected
