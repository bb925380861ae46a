use Rattle.source_scopes.proofs.ScopeLaws.{one, found, only}
use Rattle.source_scopes.proofs.laws.one_meaning.Goals as goal

pub returns-clause-one : goal.returns-clause-one
returns-clause-one c = one

pub returns-clause-found : goal.returns-clause-found
returns-clause-found c = found

pub returns-clause-only : goal.returns-clause-only
returns-clause-only c = only
