use Rattle.replacement.proofs.DependenceLemmas.{expanded_agrees, underlying_agrees}
use Rattle.replacement.proofs.laws.only_names_at_heads_count.Goals as goal

pub returns-clause-expanded : goal.returns-clause-expanded
returns-clause-expanded c entries other names type = expanded_agrees entries other names type

pub returns-clause-underlying : goal.returns-clause-underlying
returns-clause-underlying c entries other names type = underlying_agrees entries other names type
