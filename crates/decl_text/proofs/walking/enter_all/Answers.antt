use Rattle.std.proofs.Common.{◌++◌, ap, sym, ◌∙◌}
use Rattle.decl_text.specs.Tasks.{entering}
use Rattle.decl_text.proofs.TaskLemmas.{entering_last}
use Rattle.decl_text.proofs.walking.enter_all.Goals as goal

pub loop-id-preserved : goal.loop-id-preserved
loop-id-preserved c =
    let tasks = c.loop-id.tasks.items in
    let popped = c.pop.new.self.items in
    ap (λ front. front ++ entering popped) c.in_ok-push.ensures.items
    ∙ sym (entering_last tasks popped c.in-Some.id)
    ∙ ap (λ ids. tasks ++ entering ids) (sym c.in-Some.ensures.items)
    ∙ c.loop-id.invariant
