use Rattle.std.proofs.Common.{◌≡◌, [], ◌∷◌, length, ap, sym, subst, ◌∙◌}
use Rattle.std.specs.Prelude.{IfOk}
use Rattle.type_terms.specs.Additions.{AddsOnly, Outgrows}
use Rattle.type_terms.specs.Arenas.{AllBelow}
use Rattle.type_terms.specs.Denotation.{tree}
use Rattle.type_terms.specs.NodeShapes.{node_shape, children}
use Rattle.type_terms.specs.Parts.{MeetsBase}
use Rattle.type_terms.specs.Shapes.{retype}
use Rattle.type_terms.specs.Trees.{level_of, tree_of}
use Rattle.type_terms.specs.TreeLevels.{level_of-tree_of}
use Rattle.replacement.specs.Substitution.{replaced, level_replaced}
use Rattle.replacement.specs.Moves.{moved, put_of}
use Rattle.replacement.proofs.SubstitutionLemmas.{replaced_by_level}
use Rattle.replacement.proofs.MoveLemmas.{children_made, children_below, children_moved, meets_moved, node_replaced}
use Rattle.replacement.proofs.substituting.made_node.Goals as goal

pub returns-in-Param-clause-within : goal.returns-in-Param-clause-within
returns-in-Param-clause-within c = c.argument_of.ensures.within (length c.args.arena.now.nodes) c.requires.there c.requires.args

pub add-requires : goal.add-requires
add-requires c =
    let nodes = c.args.arena.now.nodes in
    let put = put_of nodes c.args.params.now c.args.args.now in
    let moves = c.args.moves.now.entries in
    let node = c.node-node.result.now in
    let made = c.requires.made node c.node-node.ensures.node in
    let each = children_made nodes put moves c.requires.moves (children node) made in
    let below = children_below nodes put moves c.requires.moves (children node) made in
    let level = ap level_of c.node-node.ensures.denotes ∙ level_of-tree_of (retype (tree nodes) (node_shape node)) in
    let meets = subst MeetsBase level (c.node-node.ensures.arena.generic c.args.id c.requires.there) in
    record {
      children = subst (λ n. AllBelow (length nodes) (children n)) (sym c.in-Ok.ensures) (subst (AllBelow (length nodes)) (sym (children_moved (moved moves) node)) below);
      generic = subst (λ n. MeetsBase (retype (tree nodes) (node_shape n))) (sym c.in-Ok.ensures) (meets_moved (moved moves) nodes put node each meets);
    }

pub returns : goal.returns
returns c =
    let old = c.args.arena.now in
    let new = c.add.new.self in
    let nodes = old.nodes in
    let put = put_of nodes c.args.params.now c.args.args.now in
    let moves = c.args.moves.now.entries in
    let node = c.node-node.result.now in
    let each = children_made nodes put moves c.requires.moves (children node) (c.requires.made node c.node-node.ensures.node) in
    let level = ap level_of c.node-node.ensures.denotes ∙ level_of-tree_of (retype (tree nodes) (node_shape node)) in
    let whole : tree_of (retype (tree nodes) (node_shape c.in-Ok.made)) ≡ replaced put (tree nodes c.args.id) =
    ap (λ n. tree_of (retype (tree nodes) (node_shape n))) c.in-Ok.ensures
    ∙ node_replaced (moved moves) nodes put node (λ q. c.in_default.not-Param q) each
    ∙ ap (level_replaced put) (sym level) ∙ sym (replaced_by_level put (tree nodes c.args.id)) in
    record {
      denotes = subst (λ t. IfOk c.add.result (λ made. tree new.nodes made ≡ t)) whole c.add.ensures.denotes;
      within = c.add.ensures.within;
      extends = c.add.ensures.extends;
      adds = subst (λ t. AddsOnly (t ∷ []) old new) whole c.add.ensures.adds;
      outgrown = λ full. subst (λ t. Outgrows old (t ∷ [])) whole (c.add.ensures.outgrown full);
    }
