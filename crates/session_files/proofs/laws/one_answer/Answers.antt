use Rattle.session_files.proofs.Outcomes.{some_outcome, one_outcome, decls_found, decls_again}
use Rattle.session_files.proofs.laws.one_answer.Goals as goal

pub returns-clause-either : goal.returns-clause-either
returns-clause-either c = some_outcome

pub returns-clause-one : goal.returns-clause-one
returns-clause-one c = one_outcome

pub returns-clause-same : goal.returns-clause-same
returns-clause-same c = λ files sound path name outcome. (decls_found files sound path name outcome, λ has. decls_again files sound path name outcome has.0 has.1 has.2)
