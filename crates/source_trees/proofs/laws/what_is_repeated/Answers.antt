use Rattle.source_trees.proofs.RepeatedLaws.{found, inside, number, own}
use Rattle.source_trees.proofs.laws.what_is_repeated.Goals as goal

pub returns-clause-found : goal.returns-clause-found
returns-clause-found c = found

pub returns-clause-inside : goal.returns-clause-inside
returns-clause-inside c = inside

pub returns-clause-number : goal.returns-clause-number
returns-clause-number c = number

pub returns-clause-own : goal.returns-clause-own
returns-clause-own c = own
