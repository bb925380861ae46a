use Rattle.cycle_rules.proofs.RankLemmas.{own_parameters}
use Rattle.cycle_rules.proofs.cycles.only_own_parameters_count.Goals as goal

pub returns : goal.returns
returns c shapes are s of there k beyond owns = own_parameters shapes are.forms s of there k beyond owns
