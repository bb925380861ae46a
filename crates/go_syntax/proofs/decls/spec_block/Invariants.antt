use Rattle.std.proofs.Common.{◌≡◌, length}
use Rattle.go_expr_syntax.specs.Reading.{row, is_close_paren}
use Rattle.go_syntax.specs.Specs.{spec_of}
use Rattle.go_expr_syntax.proofs.Turns.{so_far}
use Rattle.go_syntax.proofs.decls.spec_block.Given as goal

abbrev pub invariant-loop-after : goal.invariant-loop-after
invariant-loop-after l = so_far is_close_paren (spec_of l.keyword l.left) l.found l.rest ≡ row is_close_paren (spec_of l.keyword l.left) l.tokens

abbrev pub decreases-loop-after : goal.decreases-loop-after
decreases-loop-after l = length l.rest
