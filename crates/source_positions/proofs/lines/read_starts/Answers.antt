use Rattle.source_positions.specs.Lines.{line_starts}
use Rattle.source_positions.proofs.Starts.{goes_on, is_done}
use Rattle.source_positions.proofs.lines.read_starts.Goals as goal

pub loop-at-preserved : goal.loop-at-preserved
loop-at-preserved c =
    goes_on c.loop-at.starts.items c.note.new.starts.items c.args.source.now (line_starts c.args.source.now) c.loop-at.at c.loop-at.auto.at c.loop-at-test.true c.in_ok-note.ensures c.loop-at.invariant

pub returns : goal.returns
returns c =
    is_done c.loop-at.starts.items c.args.source.now (line_starts c.args.source.now) c.loop-at.at c.loop-at.auto.at c.loop-at-test.false c.loop-at.invariant
