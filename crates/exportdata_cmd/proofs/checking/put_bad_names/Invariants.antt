use Rattle.std.proofs.Common.{take}
use Rattle.std.specs.List.{concat, flat_map}
use Rattle.outside.specs.Sinks.{Wrote}
use Rattle.name_index.specs.FullFile.{listed}
use Rattle.session_files.specs.Sessions.{qualified}
use Rattle.checked_files.specs.Checking.{flaw_at}
use Rattle.exportdata_cmd.specs.Checking.{flaw_lines}
use Rattle.exportdata_cmd.proofs.checking.put_bad_names.Given as goal

-- the lines of the names before were put
abbrev pub invariant-loop-number : goal.invariant-loop-number
invariant-loop-number g l =
    Wrote (g.S.Sink.state l.fn.out) (g.S.Sink.state l.out)
    (concat (flat_map (λ n. flaw_lines l.file.label.now (qualified n) (flaw_at l.file.session.now l.file.image.now n)) (take l.number (listed l.file.image.now.packages))))
