use Rattle.std.proofs.Common.{rules, ◌≡◌, [], ap, sym, ◌∙◌}
use Rattle.std.specs.Prelude.{option_map}
use Rattle.type_terms.specs.declared.descriptors.Node.TheVariants.{Instance}
use Rattle.type_terms.specs.Denotation.{tree}
use Rattle.replacement.specs.Calls.{applied}
use Rattle.type_terms.specs.Names.{defined_name}
use Rattle.replacement.proofs.HeadLemmas.{maps_join, instance_defined, other_defined, maps_itself}
use Rattle.replacement.proofs.underlying.defined_name.Goals as goal

pub returns-in-Instance : goal.returns-in-Instance
returns-in-Instance c =
    let nodes = c.args.arena.now.nodes in
    let base = c.in-Instance.base in
    let args = c.in-Instance.field-1 in
    let node : c.node.result.now ≡ Instance base args = search rules in
    ap (option_map (λ head. head.name)) (instance_defined nodes c.args.id c.node.result.now c.node.ensures.denotes base args node)
    ∙ maps_join (λ q. applied nodes q args) (λ head. head.name) (defined_name (tree nodes base)) ∙ maps_itself (defined_name (tree nodes base)) ∙ sym c.defined_name.ensures

pub returns : goal.returns
returns c =
    let nodes = c.args.arena.now.nodes in
    let id = c.args.id in
    ap (option_map (λ head. head.name)) (other_defined nodes id c.node.result.now c.node.ensures.denotes c.in_default.not-Instance)
    ∙ maps_join (λ q. applied nodes q []) (λ head. head.name) (defined_name (tree nodes id)) ∙ maps_itself (defined_name (tree nodes id)) ∙ sym c.defined_name-2.ensures
