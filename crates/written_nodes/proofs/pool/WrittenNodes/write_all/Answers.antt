use Rattle.std.proofs.Common.{[], ◌∷◌, ◌++◌, take, ap, sym, subst, ◌∙◌}
use Rattle.std.proofs.lemmas.List.{take_more}
use Rattle.written_nodes.proofs.DeclLemmas.{AreMade, none_made, one_made}
use Rattle.written_nodes.proofs.pool.WrittenNodes.write_all.Goals as goal

pub loop-id-init : goal.loop-id-init
loop-id-init c = none_made c.args.arena.now.nodes c.args.self.now c.requires.pool

pub loop-id-preserved : goal.loop-id-preserved
loop-id-preserved c =
    let ids = c.args.ids.now in
    let i = c.loop-id.id-index in
    let does = c.in_ok-write.ensures in
    let front = take_more ids i c.id-item.result c.loop-id-test.true ∙ ap (λ x. take i ids ++ x ∷ []) (sym c.id-item.is) in
    subst (AreMade c.args.arena.now.nodes c.args.self.now c.write.new.self) (sym front)
    (one_made c.args.arena.now.nodes c.args.self.now c.loop-id.self c.write.new.self (take i ids) c.id-item.result c.in_ok-write.field-0 c.loop-id.invariant does.pool does.grows does.made)
