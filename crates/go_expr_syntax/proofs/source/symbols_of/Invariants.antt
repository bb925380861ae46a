use Rattle.std.proofs.Common.{◌≡◌, take}
use Rattle.go_expr_syntax.specs.TokenView.{symbols_of}
use Rattle.go_expr_syntax.proofs.source.symbols_of.Given as goal

abbrev pub invariant-loop-token : goal.invariant-loop-token
invariant-loop-token l = l.symbols.items ≡ symbols_of l.src (take l.token-index l.tokens)
