use Rattle.std.proofs.Common.{◌≡◌, ◌-◌, map}
use Rattle.decl_spelling.specs.Reading.{times}
use Rattle.block_reader.specs.Calls.{ahead_of, sections_of}
use Rattle.block_reader.proofs.TimesLemmas.{with_front}
use Rattle.block_reader.proofs.lists.read_times.Given as goal

abbrev pub invariant-loop : goal.invariant-loop
invariant-loop g l =
    with_front (map g.T.Listed.shape l.items.items) (times (g.T.Listed.reading (sections_of l.parts)) (l.count - l.counter) (ahead_of l.block))
    ≡ times (g.T.Listed.reading (sections_of l.parts)) l.count (ahead_of l.fn.block)
