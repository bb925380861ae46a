use Rattle.std.proofs.Common.{◌≡◌, ◌<◌, ℕ, false, get_or}
use Rattle.go_lexer.specs.Source.{is_nul}
use Rattle.go_lexer.proofs.source.nul_place.Given as goal

abbrev pub invariant-loop-place : goal.invariant-loop-place
invariant-loop-place l = (k : ℕ) → k < l.place → is_nul (get_or l.bytes k 0) ≡ false
