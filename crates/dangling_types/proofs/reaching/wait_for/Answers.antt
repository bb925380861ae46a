use Rattle.std.proofs.Common.{[], ◌∷◌, ◌++◌, take, ap, sym, subst, ◌∙◌}
use Rattle.std.proofs.lemmas.List.{take_more}
use Rattle.dangling_types.specs.Searching.{Joins}
use Rattle.dangling_types.proofs.SearchLemmas.{joins_more}
use Rattle.dangling_types.proofs.reaching.wait_for.Goals as goal

pub loop-id-preserved : goal.loop-id-preserved
loop-id-preserved c =
    let ids = c.args.ids.now in
    let i = c.loop-id.id-index in
    let front = take_more ids i c.id-item.result c.loop-id-test.true ∙ ap (λ x. take i ids ++ x ∷ []) (sym c.id-item.is) in
    subst (Joins c.args.known.now.entries c.args.waiting.now.keys c.wait.new.waiting.keys) (sym front) (joins_more c.id-item.result c.loop-id.invariant c.in_ok-wait.ensures)
