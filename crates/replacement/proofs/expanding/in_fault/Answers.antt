use Rattle.std.proofs.Common.{rules}
use Rattle.replacement.specs.Expansion.{capped}
use Rattle.replacement.proofs.expanding.in_fault.Goals as goal

pub returns : goal.returns
unfolding capped
returns c = search rules
