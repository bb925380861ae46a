use Rattle.std.proofs.Common.{rules, ◌≡◌, ◌∙◌, ◌==◌, false, length, ap, sym}
use Rattle.type_terms.specs.Denotation.{tree}
use Rattle.covering_steps.specs.Steps.{step}
use Rattle.covering_steps.proofs.NodeStepLemmas.{iface_elements, iface_methods}
use Rattle.covering_steps.proofs.steps.step_of.Goals as goal
use Rattle.covering_steps.proofs.steps.step_of.Goals.{else-is_empty-via-then-is_empty+else-is_empty-2, else-is_empty-via-else-is_empty}

pub returns-else-is_empty : goal.returns-else-is_empty
returns-else-is_empty c =
    let nodes = c.args.arena.now.nodes in
    let x = tree nodes c.args.pair.now.right in
    elim c.else-is_empty.branch [
      | else-is_empty-via-then-is_empty+else-is_empty-2 w ↦
          let none : (length c.in-Iface.methods == 0) ≡ false = search rules in
          record { exact = iface_methods nodes c.node.result.now _ _ c.in-Iface.methods x c.in-Iface.is none ∙ ap (λ t. step t x) (sym c.node.ensures.denotes) }
      | else-is_empty-via-else-is_empty w ↦
          let none : (length c.in-Iface.embedded == 0) ≡ false = search rules in
          record { exact = iface_elements nodes c.node.result.now _ c.in-Iface.embedded _ x c.in-Iface.is none ∙ ap (λ t. step t x) (sym c.node.ensures.denotes) }
    ]
