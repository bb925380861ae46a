use Rattle.std.proofs.Common.{◌≡◌, length}
use Rattle.go_syntax.specs.Functions.{idents_row}
use Rattle.go_syntax.proofs.functions.ident_row.Given as goal

abbrev pub invariant-loop-after : goal.invariant-loop-after
invariant-loop-after l = idents_row l.found l.rest ≡ idents_row l.fn.found l.tokens

abbrev pub decreases-loop-after : goal.decreases-loop-after
decreases-loop-after l = length l.rest
