use Rattle.std.proofs.Common.{◌≡◌, length}
use Rattle.go_expr_syntax.specs.Reading.{row, is_close_paren}
use Rattle.go_syntax.specs.Constants.{const_spec_at}
use Rattle.go_syntax.specs.Files.{counting}
use Rattle.go_syntax.proofs.ConstTurns.{counts_on}
use Rattle.go_syntax.proofs.constants.const_block.Given as goal

abbrev pub invariant-loop-after : goal.invariant-loop-after
invariant-loop-after l = counts_on l.left l.found l.last l.rest ≡ counting 0 0 (row is_close_paren (const_spec_at l.left) l.tokens)

abbrev pub decreases-loop-after : goal.decreases-loop-after
decreases-loop-after l = length l.rest
