use Rattle.std.specs.List.{All}
use Rattle.go_syntax.specs.StandingFiles.{FileStands}
use Rattle.source_walk.specs.declared.parsed.ParsedFile.{ParsedFile}
use Rattle.parsed_files.specs.declared.first_faults.FirstFaults.{FirstFaults}
use Rattle.std.specs.Prelude.{ℕ, List}
use Rattle.std.specs.Borrow.{Bor}
use Rattle.parsed_files.proofs.FileLaws.{Going}
use Rattle.parsed_files.proofs.files.read_files.Given as goal

pub record Inv (sources : List (Bor (List ℕ))) (i : ℕ) (files : List ParsedFile) (faults : FirstFaults) : Type 0 where
  pub going : Going sources i files faults
  pub stand : All (λ f. FileStands f.source.now f.tree) files

abbrev pub invariant-loop-number : goal.invariant-loop-number
invariant-loop-number l = Inv l.sources l.number l.files.items l.faults
