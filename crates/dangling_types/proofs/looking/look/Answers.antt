use Rattle.std.proofs.Common.{rules, ◌≡◌, ◌∷◌, [], ℕ, List, ap, sym, subst, ◌∙◌}
use Rattle.std.specs.List.{AllByRecursion}
use Rattle.type_terms.specs.declared.descriptors.Node.{Node}
use Rattle.type_terms.specs.declared.descriptors.Node.TheVariants.{Instance}
use Rattle.type_terms.specs.Denotation.{tree}
use Rattle.type_terms.specs.NodeShapes.{node_shape, children}
use Rattle.type_terms.specs.Shapes.{retype}
use Rattle.type_terms.specs.Trees.{tree_of}
use Rattle.dangling_types.specs.Findings.{IsKnown}
use Rattle.dangling_types.proofs.NodeLemmas.{instance_right, front_of}
use Rattle.dangling_types.proofs.looking.look.Goals as goal

pub look_at_instance-requires-clause-known : goal.look_at_instance-requires-clause-known
look_at_instance-requires-clause-known g c =
    let known = c.args.known.now.entries in
    let it : c.node-node.result.now ≡ Instance c.in-Instance.base c.in-Instance.args = search rules in
    let is = it ∙ ap (λ (args : List ℕ). Instance c.in-Instance.base args) (sym c.items.ensures) in
    let all = c.requires.children c.node-node.result.now c.node-node.ensures.node in
    front_of (IsKnown known) c.items.result.now (c.in-Instance.base ∷ []) (subst (λ (n : Node). AllByRecursion (IsKnown known) (children n)) is all)

pub returns-in-Instance : goal.returns-in-Instance
returns-in-Instance g c =
    let nodes = c.args.arena.now.nodes in
    let it : c.node-node.result.now ≡ Instance c.in-Instance.base c.in-Instance.args = search rules in
    let is = it ∙ ap (λ (args : List ℕ). Instance c.in-Instance.base args) (sym c.items.ensures) in
    let denotes = subst (λ (n : Node). tree nodes c.args.id ≡ tree_of (retype (tree nodes) (node_shape n))) is c.node-node.ensures.denotes in
    instance_right (g.R.Roles.entries c.args.roles.now) nodes c.args.id c.in-Instance.base c.items.result.now denotes c.look_at_instance.result c.look_at_instance.ensures
