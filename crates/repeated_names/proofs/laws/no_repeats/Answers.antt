use Rattle.repeated_names.proofs.RepeatLaws.{differ, none}
use Rattle.repeated_names.proofs.laws.no_repeats.Goals as goal

pub returns-clause-differ : goal.returns-clause-differ
returns-clause-differ c = differ

pub returns-clause-none : goal.returns-clause-none
returns-clause-none c = none
