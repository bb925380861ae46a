use Rattle.std.proofs.Common.{[], map, subst}
use Rattle.std.proofs.lemmas.Result.{on_ok_weaker}
use Rattle.position_codec.specs.Place.{no_place}
use Rattle.block_writer.specs.Adding.{meant}
use Rattle.block_walk.specs.Entering.{Piles}
use Rattle.block_walk.specs.Standing.{Goes}
use Rattle.block_walk.specs.Steps.{items_steps}
use Rattle.block_walk.specs.StepsMeant.{AddsSteps}
use Rattle.block_walk.proofs.WalkingLemmas.{items_left, items_there}
use Rattle.block_walk.proofs.section.Section.go_through.Goals as goal

pub go-requires-clause-there : goal.go-requires-clause-there
go-requires-clause-there c =
    let items = c.args.items.now in
    let steps = c.push_steps.new.into.items in
    let left = c.pile.new.left.items in
    let adds = subst (λ old. AddsSteps old steps (λ type. items_steps no_place (map (meant type) items))) c.new-steps.ensures.items c.in_ok-push_steps.ensures in
    let piles = subst (λ old. Piles steps old left) c.new-left.ensures.items c.in_ok-pile.ensures in
    items_there c.args.nodes.now.nodes items steps left c.requires.there adds piles

pub returns : goal.returns
returns c =
    let nodes = c.args.nodes.now.nodes in
    let items = c.args.items.now in
    let steps = c.push_steps.new.into.items in
    let left = c.pile.new.left.items in
    let adds = subst (λ old. AddsSteps old steps (λ type. items_steps no_place (map (meant type) items))) c.new-steps.ensures.items c.in_ok-push_steps.ensures in
    let piles = subst (λ old. Piles steps old left) c.new-left.ensures.items c.in_ok-pile.ensures in
    on_ok_weaker c.go.result (λ goes. subst (λ ss. Goes nodes c.args.own.now c.args.self.now c.go.new.section ss []) (items_left nodes items steps left adds piles) goes) c.go.ensures
