use Rattle.std.proofs.Common.{[], map, subst}
use Rattle.std.proofs.lemmas.Result.{on_ok_weaker}
use Rattle.position_codec.specs.Place.{no_place}
use Rattle.type_terms.specs.NodeShapes.{node_shape}
use Rattle.type_terms.specs.Shapes.{retype}
use Rattle.file_layout.specs.Items.{level_items}
use Rattle.block_writer.specs.Adding.{meant, Adds}
use Rattle.block_walk.specs.Entering.{Piles}
use Rattle.block_walk.specs.Steps.{items_steps}
use Rattle.block_walk.specs.StepsMeant.{AddsSteps}
use Rattle.block_walk.proofs.WalkingLemmas.{entered}
use Rattle.block_walk.proofs.entering.enter.Goals as goal

pub returns : goal.returns
returns c =
    let node = c.node.result.now in
    let items = c.push_descriptor.new.into.items in
    let steps = c.push_steps.new.into.items in
    let adds = subst (λ old. Adds old items (λ type. level_items (retype type (node_shape node)))) c.new-items.ensures.items c.in_ok-push_descriptor.ensures in
    let from = subst (λ old. AddsSteps old steps (λ type. items_steps no_place (map (meant type) c.as_slice.result.now))) c.new-steps.ensures.items c.in_ok-push_steps.ensures in
    let added = subst (λ all. AddsSteps [] steps (λ type. items_steps no_place (map (meant type) all))) c.as_slice.ensures.value from in
    on_ok_weaker c.pile.result
    (λ piles.
    entered c.args.nodes.now.nodes c.args.id node items steps c.args.left.now.items c.pile.new.left.items c.requires c.node.ensures.denotes c.node.ensures.falls adds added
    (subst (λ ls. Piles steps ls c.pile.new.left.items) c.in_ok-extend_from_slice.ensures.items piles))
    c.pile.ensures
