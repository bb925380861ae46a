use Rattle.std.proofs.Common.{[], ◌∷◌, ◌++◌, take, ap, sym, subst, ◌∙◌}
use Rattle.std.specs.List.{AllByRecursion}
use Rattle.std.proofs.lemmas.List.{take_more}
use Rattle.block_walk.specs.Labels.{IsLabelled}
use Rattle.block_walk.proofs.LabelLemmas.{labels_again, one_more}
use Rattle.block_walk.proofs.labels.label_all.Goals as goal

pub loop-id-preserved : goal.loop-id-preserved
loop-id-preserved c =
    let nodes = c.args.nodes.now.nodes in
    let ids = c.args.ids.now in
    let i = c.loop-id.id-index in
    let new = c.label.new.numbers.items in
    let front = take_more ids i c.id-item.result c.loop-id-test.true ∙ ap (λ x. take i ids ++ x ∷ []) (sym c.id-item.is) in (
      labels_again nodes c.args.numbers.now.items c.loop-id.numbers.items new c.loop-id.invariant.0 c.label.ensures.labels,
      subst (AllByRecursion (IsLabelled nodes new)) (sym front) (one_more nodes c.loop-id.numbers.items new (take i ids) c.id-item.result c.label.ensures.labels c.loop-id.invariant.1 c.label.ensures.labelled),
    )
