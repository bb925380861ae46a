use Rattle.std.proofs.Common.{take}
use Rattle.std.specs.List.{AllZip}
use Rattle.dangling_types.specs.Findings.{AreRight}
use Rattle.checked_files.specs.Reading.{Judges}
use Rattle.checked_files.proofs.checking.judge_file.Given as goal

-- what was read before was judged
abbrev pub invariant-loop-read : goal.invariant-loop-read
invariant-loop-read g l =
    AllZip (Judges l.arena.nodes (g.R.Roles.entries l.roles)) (take l.read-index l.reads) l.verdicts.items
    × AreRight (g.R.Roles.entries l.roles) l.arena.nodes l.findings
