use Rattle.go_syntax.proofs.TreeLaws.{one_file}
use Rattle.go_syntax.proofs.outcomes.one_tree.Goals as goal

pub returns : goal.returns
returns c = one_file
