use Rattle.written_types.proofs.ByNameLemmas.{all_methods, sorted, stable}
use Rattle.written_types.proofs.laws.methods_by_name.Goals as goal

pub returns-clause-all : goal.returns-clause-all
returns-clause-all c = all_methods

pub returns-clause-sorted : goal.returns-clause-sorted
returns-clause-sorted c = sorted

pub returns-clause-stable : goal.returns-clause-stable
returns-clause-stable c = stable
