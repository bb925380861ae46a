use Rattle.dangling_types.proofs.LawLemmas.{first_is, mentioned_first}
use Rattle.dangling_types.proofs.laws.the_first_that_dangles.Goals as goal

pub returns-clause-is : goal.returns-clause-is
returns-clause-is c = λ entries all. first_is entries all

pub returns-clause-mentioned : goal.returns-clause-mentioned
returns-clause-mentioned c = λ entries decl found is. mentioned_first entries decl found is
