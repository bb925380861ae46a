use Rattle.std.proofs.Common.{[]}
use Rattle.go_syntax.proofs.FileReads.{file_wider}
use Rattle.go_syntax.proofs.outcomes.dots_are_wider.Goals as goal

pub returns : goal.returns
returns c = λ tokens f w. file_wider tokens f [] w
