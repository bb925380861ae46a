use Rattle.std.proofs.Common.{take}
use Rattle.std.specs.List.{concat, flat_map}
use Rattle.outside.specs.Sinks.{Wrote}
use Rattle.exportdata_cmd.specs.Checking.{checked_lines}
use Rattle.exportdata_cmd.proofs.checking.put_verdicts.Given as goal

-- the lines of the files before were put
abbrev pub invariant-loop-file : goal.invariant-loop-file
invariant-loop-file g l =
    Wrote (g.S.Sink.state l.fn.out) (g.S.Sink.state l.out) (concat (flat_map (checked_lines l.session) (take l.file l.session)))
