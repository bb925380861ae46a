use Rattle.std.proofs.Common.{length}
use Rattle.basic_types.proofs.BasicLemmas.{found_down}
use Rattle.basic_types.proofs.WayLemmas.{names_are_enough}
use Rattle.basic_types.proofs.laws.as_many_heads_as_names_are_enough.Goals as goal

pub returns : goal.returns
returns c entries names type basic has =
    (found_down entries (length names) type basic, names_are_enough entries names type basic has)
