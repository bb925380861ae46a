use Rattle.std.proofs.Common.{◌≡◌, true, false, sym}
use Rattle.go_syntax.proofs.SkipTurns.{stands_inside}
use Rattle.go_syntax.proofs.skipped.take.Goals as goal

pub returns-then-not-is_empty : goal.returns-then-not-is_empty
returns-then-not-is_empty c = stands_inside c.args.line c.args.unclosed.now c.args.symbol.now (λ e. let h : false ≡ true = c.if-not-is_empty.ensures.1 e in cc) (sym c.in_default.ensures) (sym c.in_default-closed.ensures)
