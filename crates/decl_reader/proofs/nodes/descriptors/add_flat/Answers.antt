use Rattle.std.proofs.Common.{◌≡◌, ◌∷◌, [], List, map, ap}
use Rattle.std.proofs.lemmas.Result.{err_from_is_err_and}
use Rattle.type_terms.specs.Additions.{AddsOnly, Outgrows}
use Rattle.type_terms.specs.AdditionLaws.{adds_more, additions_join, outgrown_by_more, want_of_nodes_joins}
use Rattle.type_terms.specs.Denotation.{tree}
use Rattle.type_terms.specs.NodeShapes.{node_shape}
use Rattle.type_terms.specs.Shapes.{retype, shape_types}
use Rattle.type_terms.specs.Trees.{Tree, Level, tree_of}
use Rattle.decl_reader.specs.Meant.{Named, named_by}
use Rattle.decl_reader.proofs.AdditionLemmas.{parts_covered}
use Rattle.decl_reader.proofs.WantLemmas.{passed, full_passed}
use Rattle.std.proofs.Common.{sym, subst}
use Rattle.type_terms.specs.Parts.{MeetsBase}
use Rattle.decl_reader.specs.Blocks.{table_of}
use Rattle.decl_reader.specs.Shapes.{flat_shape}
use Rattle.decl_reader.proofs.GenericFlatLemmas.{meets_base}
use Rattle.decl_reader.proofs.nodes.descriptors.add_flat.Goals as goal

pub add-requires-clause-generic : goal.add-requires-clause-generic
add-requires-clause-generic c =
    subst MeetsBase (sym c.in_ok-node.ensures.meant) (meets_base c.args.version (table_of c.args.arena.now.nodes c.args.table.now) (flat_shape c.args.flat) c.requires.generic)

pub returns-in_err-node-clause-adds : goal.returns-in_err-node-clause-adds
returns-in_err-node-clause-adds c =
    let named : Named = named_by c.args.version c.args.arena.now.nodes c.args.table.now in
    let x = flat_shape c.args.flat in
    let whole : List Tree = tree_of (retype named x) ∷ [] in
    let old = c.args.arena.now in
    let middle = c.with_nodes.new.arena in
    let before = adds_more whole (map named (shape_types x)) old middle (parts_covered named x) c.with_nodes.ensures.adds in
    before

pub returns-in_err-node-clause-outgrown : goal.returns-in_err-node-clause-outgrown
returns-in_err-node-clause-outgrown c wants =
    let p = err_from_is_err_and c.from_residual.result c.from_residual.ensures.1 in
    let named : Named = named_by c.args.version c.args.arena.now.nodes c.args.table.now in
    let x = flat_shape c.args.flat in
    let whole : List Tree = tree_of (retype named x) ∷ [] in
    let old = c.args.arena.now in
    let middle = c.with_nodes.new.arena in
    let before = adds_more whole (map named (shape_types x)) old middle (parts_covered named x) c.with_nodes.ensures.adds in
    outgrown_by_more old whole (map named (shape_types x)) (parts_covered named x) (c.with_nodes.ensures.outgrown (passed c.from_residual.result c.with_nodes.result p.0 c.in_err-node.field-0.0 p.1 p.2 c.in_err-node.was wants))

pub returns-in_err-add-clause-adds : goal.returns-in_err-add-clause-adds
returns-in_err-add-clause-adds c =
    let named : Named = named_by c.args.version c.args.arena.now.nodes c.args.table.now in
    let x = flat_shape c.args.flat in
    let whole : List Tree = tree_of (retype named x) ∷ [] in
    let old = c.args.arena.now in
    let middle = c.with_nodes.new.arena in
    let before = adds_more whole (map named (shape_types x)) old middle (parts_covered named x) c.with_nodes.ensures.adds in
    let same : tree_of (retype (tree middle.nodes) (node_shape c.in_ok-node.node)) ∷ [] ≡ whole = ap (λ (level : Level). tree_of level ∷ []) c.in_ok-node.ensures.meant in
    additions_join old middle c.add.new.self whole before c.add.ensures.extends (subst (λ (ts : List Tree). AddsOnly ts middle c.add.new.self) same c.add.ensures.adds)

pub returns-in_err-add-clause-outgrown : goal.returns-in_err-add-clause-outgrown
returns-in_err-add-clause-outgrown c wants =
    let p = err_from_is_err_and c.from_residual-in_err-add.result c.from_residual-in_err-add.ensures.1 in
    let named : Named = named_by c.args.version c.args.arena.now.nodes c.args.table.now in
    let x = flat_shape c.args.flat in
    let whole : List Tree = tree_of (retype named x) ∷ [] in
    let old = c.args.arena.now in
    let middle = c.with_nodes.new.arena in
    let before = adds_more whole (map named (shape_types x)) old middle (parts_covered named x) c.with_nodes.ensures.adds in
    let same : tree_of (retype (tree middle.nodes) (node_shape c.in_ok-node.node)) ∷ [] ≡ whole = ap (λ (level : Level). tree_of level ∷ []) c.in_ok-node.ensures.meant in
    want_of_nodes_joins old middle whole c.with_nodes.ensures.extends before
    (subst (λ (ts : List Tree). Outgrows middle ts) same (c.add.ensures.outgrown (full_passed c.from_residual-in_err-add.result c.add.result p.0 c.in_err-add.field-0.0 p.1 p.2 c.in_err-add.was wants)))

pub returns-clause-adds : goal.returns-clause-adds
returns-clause-adds c =
    let named : Named = named_by c.args.version c.args.arena.now.nodes c.args.table.now in
    let x = flat_shape c.args.flat in
    let whole : List Tree = tree_of (retype named x) ∷ [] in
    let old = c.args.arena.now in
    let middle = c.with_nodes.new.arena in
    let before = adds_more whole (map named (shape_types x)) old middle (parts_covered named x) c.with_nodes.ensures.adds in
    let same : tree_of (retype (tree middle.nodes) (node_shape c.in_ok-node.node)) ∷ [] ≡ whole = ap (λ (level : Level). tree_of level ∷ []) c.in_ok-node.ensures.meant in
    additions_join old middle c.add.new.self whole before c.add.ensures.extends (subst (λ (ts : List Tree). AddsOnly ts middle c.add.new.self) same c.add.ensures.adds)
