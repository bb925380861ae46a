use Rattle.std.proofs.Common.{◌∙◌}
use Rattle.string_literals.proofs.Passing.{piece_more}
use Rattle.string_literals.proofs.literals.interpreted.Goals as goal

pub loop-rest-preserved : goal.loop-rest-preserved
loop-rest-preserved c =
    piece_more c.loop-rest.value.items c.append.new.value.items c.loop-rest.rest.now c.piece-piece.result c.in-len1-up.len_at_least c.if-first-eq34.false c.piece-piece.ensures.exact c.in_ok-append.ensures
    ∙ c.loop-rest.invariant
