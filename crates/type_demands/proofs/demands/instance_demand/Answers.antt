use Rattle.std.proofs.Common.{◌≡◌, true, length, sym, ◌∙◌}
use Rattle.std.proofs.lemmas.Bool.{eq-eqb}
use Rattle.type_alike.specs.Demands.{same_generic}
use Rattle.type_demands.specs.NodeDemands.{generic_at}
use Rattle.type_demands.proofs.DemandLemmas.{instance_done}
use Rattle.type_demands.proofs.demands.instance_demand.Goals as goal

pub returns : goal.returns
returns c =
    let nodes = c.args.arena.now.nodes in
    let xs = c.args.left.now in
    let ys = c.args.right.now in
    let same : same_generic (generic_at nodes c.args.base) (generic_at nodes c.args.other) ≡ true = sym c.same_generic.ensures ∙ c.if-not-same_generic.false in
    let count : length xs ≡ length ys = c.if-left-right.false in
    instance_done nodes c.args.base c.args.other xs ys c.new-parts.result.items c.push_in_step.new.into.items
    same count (eq-eqb (length xs) (length ys) count) c.new-parts.ensures.items (c.in_ok-push_in_step.ensures (generic_at nodes))
