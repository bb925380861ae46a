use Rattle.name_index.proofs.FullFileLemmas.{file_again}
use Rattle.name_index.proofs.FileLocal.{breach_stays, breach_inside, breach_end, breach_goes_on, file_trailing}
use Rattle.name_index.proofs.laws.breaches_are_local.Goals as goal

pub returns-clause-stays : goal.returns-clause-stays
returns-clause-stays c = breach_stays

pub returns-clause-inside : goal.returns-clause-inside
returns-clause-inside c = breach_inside

pub returns-clause-end : goal.returns-clause-end
returns-clause-end c = breach_end

pub returns-clause-goes_on : goal.returns-clause-goes_on
returns-clause-goes_on c = breach_goes_on

pub returns-clause-trailing : goal.returns-clause-trailing
returns-clause-trailing c own bytes more file env some = file_trailing own bytes more file (file_again own bytes file env) some
