use Rattle.std.proofs.Common.{◌++◌, ap, sym, ◌∙◌}
use Rattle.environments.specs.ReferenceTasks.{visiting}
use Rattle.environments.proofs.ReferenceWalkLemmas.{visiting_last}
use Rattle.environments.proofs.reference_walk.visit_all.Goals as goal

pub loop-id-preserved : goal.loop-id-preserved
loop-id-preserved c =
    let tasks = c.loop-id.tasks.items in
    let popped = c.pop.new.self.items in
    ap (λ front. front ++ visiting popped) c.in_ok-push.ensures.items
    ∙ sym (visiting_last tasks popped c.in-Some.id)
    ∙ ap (λ ids. tasks ++ visiting ids) (sym c.in-Some.ensures.items)
    ∙ c.loop-id.invariant
