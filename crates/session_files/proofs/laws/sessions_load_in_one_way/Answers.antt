use Rattle.session_files.proofs.LoadLaws.{some_loading, one_loading}
use Rattle.session_files.proofs.laws.sessions_load_in_one_way.Goals as goal

pub returns-clause-either : goal.returns-clause-either
returns-clause-either c = λ held words holds. some_loading held holds words

pub returns-clause-one : goal.returns-clause-one
returns-clause-one c = one_loading
