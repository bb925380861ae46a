use Rattle.std.proofs.Common.{rules, ◌≡◌, [], length, ap, sym, ◌∙◌, subst}
use Rattle.std.specs.Prelude.{option_map}
use Rattle.type_terms.specs.declared.descriptors.Node.TheVariants.{Instance}
use Rattle.type_terms.specs.Arenas.{AllBelow}
use Rattle.replacement.specs.Calls.{applied}
use Rattle.replacement.proofs.HeadLemmas.{ok_weaker, some_weaker, maps_join, instance_defined, other_defined, args_below}
use Rattle.replacement.proofs.underlying.defined_at_head.Goals as goal

pub returns-in-Instance-clause-head : goal.returns-in-Instance-clause-head
returns-in-Instance-clause-head c =
    let nodes = c.args.arena.now.nodes in
    let node : c.node.result.now ≡ Instance c.in-Instance.base c.items.result.now = search rules in
    let whole = instance_defined nodes c.args.id c.node.result.now c.node.ensures.denotes c.in-Instance.base c.items.result.now node
    ∙ ap (option_map (λ q. applied nodes q c.items.result.now)) (sym c.defined_name.ensures)
    ∙ maps_join (λ q. q.now) (λ q. applied nodes q c.items.result.now) c.defined_name.result in
    ok_weaker _ _ c.with_args.result (λ used same. whole ∙ sym same) (c.with_args.ensures.head nodes)

pub returns-in-Instance-clause-args : goal.returns-in-Instance-clause-args
returns-in-Instance-clause-args c =
    let bound = length c.args.arena.now.nodes in
    let node : c.node.result.now ≡ Instance c.in-Instance.base c.items.result.now = search rules in
    let below = args_below c.args.id c.in-Instance.base bound c.items.result.now c.node.result.now node c.node.ensures.falls c.requires.there in
    ok_weaker _ _ c.with_args.result (λ used all. some_weaker _ _ used (λ head same. subst (AllBelow bound) (sym same) below) all) c.with_args.ensures.args

pub returns : goal.returns
returns c =
    let nodes = c.args.arena.now.nodes in
    let bound = length nodes in
    let whole = other_defined nodes c.args.id c.node.result.now c.node.ensures.denotes c.in_default.not-Instance
    ∙ ap (option_map (λ q. applied nodes q [])) (sym c.defined_name-2.ensures)
    ∙ maps_join (λ q. q.now) (λ q. applied nodes q []) c.defined_name-2.result in
    record {
      head = ok_weaker _ _ c.with_args-2.result (λ used same. whole ∙ sym same) (c.with_args-2.ensures.head nodes);
      args = ok_weaker _ _ c.with_args-2.result (λ used all. some_weaker _ _ used (λ head same. subst (AllBelow bound) (sym same) tt) all) c.with_args-2.ensures.args;
    }
