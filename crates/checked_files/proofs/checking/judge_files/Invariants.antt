use Rattle.std.proofs.Common.{take}
use Rattle.std.specs.List.{AllZip}
use Rattle.dangling_types.specs.Findings.{AreRight}
use Rattle.checked_files.specs.Reading.{Judges}
use Rattle.checked_files.proofs.checking.judge_files.Given as goal

-- the files before were judged
abbrev pub invariant-loop-reads : goal.invariant-loop-reads
invariant-loop-reads g l =
    AllZip (λ reads verdicts. AllZip (Judges l.arena.nodes (g.R.Roles.entries l.roles)) reads.items verdicts.items) (take l.reads-index l.files) l.all.items
    × AreRight (g.R.Roles.entries l.roles) l.arena.nodes l.findings
