use Rattle.std.proofs.Common.{rules, ◌≡◌, ap, sym, subst, ◌∙◌}
use Rattle.std.specs.Prelude.{IfOk}
use Rattle.type_terms.specs.Denotation.{tree}
use Rattle.type_terms.specs.NodeShapes.{node_shape, children}
use Rattle.type_terms.specs.Parts.{MeetsBase}
use Rattle.type_terms.specs.Shapes.{retype}
use Rattle.type_terms.specs.Trees.{level_of, tree_of}
use Rattle.type_terms.specs.TreeLevels.{level_of-tree_of}
use Rattle.written_types.specs.Written.{full, written}
use Rattle.written_nodes.specs.Pools.{number_for}
use Rattle.written_nodes.proofs.ChildLemmas.{made_below}
use Rattle.written_nodes.proofs.LevelLemmas.{made_tree, made_meets}
use Rattle.written_nodes.proofs.MadeLemmas.{children_right, children_below}
use Rattle.written_nodes.proofs.pool.node_for.Goals as goal

pub node_written-requires : goal.node_written-requires
node_written-requires c =
    let node = c.node.result.now in
    children_below c.args.arena.now.nodes c.args.nodes.now.nodes c.args.made.now.entries c.requires.written (children node) (c.requires.children node c.node.ensures.node)

pub add-requires-clause-children : goal.add-requires-clause-children
add-requires-clause-children c =
    let node = c.node.result.now in
    let made = c.args.made.now.entries in
    let below = children_below c.args.arena.now.nodes c.args.nodes.now.nodes made c.requires.written (children node) (c.requires.children node c.node.ensures.node) in
    made_below c.args.nodes.now.nodes c.requires.written.arena (number_for made) node c.in_ok-node.node c.in_ok-node.ensures below

pub add-requires-clause-generic : goal.add-requires-clause-generic
add-requires-clause-generic c =
    let from = c.args.arena.now.nodes in
    let node = c.node.result.now in
    let made = c.args.made.now.entries in
    let right = children_right from c.args.nodes.now.nodes made c.requires.written (children node) (c.requires.children node c.node.ensures.node) in
    let level = ap level_of c.node.ensures.denotes ∙ level_of-tree_of (retype (tree from) (node_shape node)) in
    let meets = subst MeetsBase level (c.node.ensures.arena.generic c.args.id c.requires.there) in
    made_meets from c.args.nodes.now.nodes (number_for made) node c.in_ok-node.node c.in_ok-node.ensures right meets

pub returns-clause-denotes : goal.returns-clause-denotes
returns-clause-denotes c =
    let from = c.args.arena.now.nodes in
    let to = c.args.nodes.now.nodes in
    let node = c.node.result.now in
    let made = c.args.made.now.entries in
    let all = c.requires.children node c.node.ensures.node in
    let right = children_right from to made c.requires.written (children node) all in
    let below = children_below from to made c.requires.written (children node) all in
    let level = ap level_of c.node.ensures.denotes ∙ level_of-tree_of (retype (tree from) (node_shape node)) in
    let meets = subst MeetsBase level (c.node.ensures.arena.generic c.args.id c.requires.there) in
    let whole : tree_of (retype (tree to) (node_shape c.in_ok-node.node)) ≡ written full (tree from c.args.id) =
    made_tree from to (number_for made) c.requires.written.arena node c.in_ok-node.node c.in_ok-node.ensures right below meets
    ∙ ap (written full) (sym c.node.ensures.denotes) in
    let denotes = subst (λ t. IfOk c.add.result (λ own. tree c.add.new.self.nodes own ≡ t)) whole c.add.ensures.denotes in
    search rules
