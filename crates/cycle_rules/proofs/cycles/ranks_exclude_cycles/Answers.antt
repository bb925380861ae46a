use Rattle.std.proofs.Common.{arith}
use Rattle.cycle_rules.proofs.ReachesLemmas.{falls_along}
use Rattle.cycle_rules.proofs.cycles.ranks_exclude_cycles.Goals as goal

pub returns : goal.returns
returns c shapes kind rank falls s cyclic = let less = falls_along rank falls cyclic in omega arith
