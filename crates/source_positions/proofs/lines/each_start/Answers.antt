use Rattle.source_positions.proofs.Entries.{are_starts, all_starts}
use Rattle.source_positions.proofs.Starts.{starts_rise}
use Rattle.source_positions.proofs.lines.each_start.Goals as goal

pub returns : goal.returns
returns c = record { are = are_starts; all = all_starts; rise = starts_rise }
