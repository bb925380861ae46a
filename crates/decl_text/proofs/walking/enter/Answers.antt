use Rattle.std.proofs.Common.{◌++◌, ap, ◌∙◌}
use Rattle.type_terms.specs.NodeShapes.{children}
use Rattle.decl_text.proofs.JoinedLemmas.{on_ok_more}
use Rattle.decl_text.proofs.TaskLemmas.{entered_at}
use Rattle.decl_text.proofs.walking.enter.Goals as goal

pub returns : goal.returns
returns c =
    let types = c.in_ok-push_children.ensures ∙ ap (λ front. front ++ children c.node.result.now) c.clear.ensures.items in
    on_ok_more c.enter_all.result
    (λ entered. entered_at c.args.arena.now.nodes c.args.id c.node.result.now c.node.ensures.denotes c.node.ensures.falls c.requires c.args.tasks.now.items c.push.new.self.items c.enter_all.new.tasks.items c.push_children.new.into.items types c.in_ok-push.ensures.items entered)
    c.enter_all.ensures
