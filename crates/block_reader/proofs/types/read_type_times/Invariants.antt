use Rattle.std.proofs.Common.{◌≡◌, ◌-◌}
use Rattle.decl_spelling.specs.Reading.{times, type_at}
use Rattle.block_reader.specs.Calls.{ahead_of}
use Rattle.block_reader.specs.Parts.{types_spelled}
use Rattle.block_reader.proofs.TimesLemmas.{with_front}
use Rattle.block_reader.proofs.types.read_type_times.Given as goal

abbrev pub invariant-loop : goal.invariant-loop
invariant-loop l = with_front (types_spelled l.types.items) (times (type_at l.asked) (l.count - l.counter) (ahead_of l.block)) ≡ times (type_at l.asked) l.count (ahead_of l.fn.block)
