use Rattle.type_sets.proofs.MethodLemmas.{found_set}
use Rattle.type_sets.proofs.laws.the_first_of_a_key_counts.Goals as goal

pub returns-clause-sorted : goal.returns-clause-sorted
returns-clause-sorted c met = (found_set met).rises

pub returns-clause-first : goal.returns-clause-first
returns-clause-first c met = (found_set met).first

pub returns-clause-all : goal.returns-clause-all
returns-clause-all c met = (found_set met).all
