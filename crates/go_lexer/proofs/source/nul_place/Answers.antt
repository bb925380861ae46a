use Rattle.std.proofs.Common.{length, ap, sym, arith}
use Rattle.std.proofs.lemmas.List.Sums.{position_or_len_is}
use Rattle.go_lexer.specs.Source.{is_nul}
use Rattle.go_lexer.proofs.source.nul_place.Goals as goal

pub returns-then-byte-eq0 : goal.returns-then-byte-eq0
returns-then-byte-eq0 c = sym (position_or_len_is is_nul c.args.bytes.now c.loop-place.place 0 (omega arith) c.loop-place.invariant (λ _. ap is_nul c.if-byte-eq0.true))

pub returns : goal.returns
returns c = sym (position_or_len_is is_nul c.args.bytes.now (length c.args.bytes.now) 0 (omega arith) (λ k h. c.loop-place.invariant k (omega arith)) (λ h. absurd (omega arith)))
