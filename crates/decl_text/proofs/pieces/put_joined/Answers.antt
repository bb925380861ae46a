use Rattle.std.proofs.Common.{◌<◌, ◌++◌, ap, sym, ◌∙◌, subst, arith, length}
use Rattle.type_terms.specs.Arenas.{AllBelow}
use Rattle.decl_text.specs.Referring.{refer, node_count}
use Rattle.decl_text.proofs.JoinedLemmas.{joined_next, all_of_one, put_after}
use Rattle.decl_text.proofs.pieces.put_joined.Goals as goal

pub put-requires : goal.put-requires
put-requires g c =
    let below : c.loop-k.k < length c.args.pieces.now = omega arith in
    record { there = subst (λ piece. AllBelow (node_count c.args.names.now) (g.T.Piece.types piece)) (sym c.index-pieces-k.is) (all_of_one _ g.T.Piece.types c.args.pieces.now c.loop-k.k c.index-pieces-k.result below c.requires) }

pub loop-k-preserved : goal.loop-k-preserved
loop-k-preserved g c =
    let below : c.loop-k.k < length c.args.pieces.now = omega arith in
    let text = g.T.Piece.text (refer c.args.names.now) in
    put_after _ _ _ _ _ _ _ c.loop-k.invariant c.in_ok-put_between.ensures (c.in_ok-put.ensures.text ∙ ap (λ piece. c.put_between.new.line.items ++ text piece) c.index-pieces-k.is)
    ∙ ap (λ rest. c.args.line.now.items ++ rest) (sym (joined_next c.args.divider.now text c.args.pieces.now c.loop-k.k c.index-pieces-k.result below))
