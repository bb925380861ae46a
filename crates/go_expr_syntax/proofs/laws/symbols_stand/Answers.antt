use Rattle.go_expr_syntax.proofs.SymbolsStanding.{symbols_stand}
use Rattle.go_expr_syntax.proofs.laws.symbols_stand.Goals as goal

pub returns : goal.returns
returns c = symbols_stand
