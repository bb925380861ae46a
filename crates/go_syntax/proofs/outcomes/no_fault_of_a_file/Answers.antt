use Rattle.go_syntax.specs.Outcomes.{IsFileWithDots, IsFileWithCall}
use Rattle.go_syntax.proofs.TreeLaws.{no_unexpected, no_depth, no_left_out}
use Rattle.go_syntax.proofs.outcomes.no_fault_of_a_file.Goals as goal

pub returns-clause-unexpected : goal.returns-clause-unexpected
returns-clause-unexpected c = no_unexpected

pub returns-clause-too_deep : goal.returns-clause-too_deep
returns-clause-too_deep c = no_depth

pub returns-clause-dots : goal.returns-clause-dots
returns-clause-dots c = no_left_out IsFileWithDots

pub returns-clause-call : goal.returns-clause-call
returns-clause-call c = λ tokens f at left w h. no_left_out (IsFileWithCall at) tokens f left w h
