use Rattle.std.proofs.Common.{◌∷◌, [], length, ap, sym, subst, ◌∙◌}
use Rattle.std.proofs.lemmas.Result.{err_from_is_err_and}
use Rattle.type_terms.specs.Trees.{Tree}
use Rattle.type_terms.specs.Additions.{AddsOnly, Outgrows}
use Rattle.decl_spelling.specs.Tables.{Table, with_block}
use Rattle.decl_reader.specs.declared.table.Finished.{Finished}
use Rattle.decl_reader.specs.Blocks.{finished_of, table_of, AllInside}
use Rattle.decl_reader.proofs.EntryLemmas.{added_table, added_below}
use Rattle.decl_reader.proofs.ExtendsLemmas.{table_stays, inside_stays}
use Rattle.decl_reader.proofs.MeantLemmas.{tree_is}
use Rattle.decl_reader.proofs.WantLemmas.{passed}
use Rattle.decl_reader.proofs.nodes.descriptors.add_descriptor.Goals as goal

pub add_flat-requires-clause-generic : goal.add_flat-requires-clause-generic
add_flat-requires-clause-generic c = c.requires.may.generic

pub returns-clause-denotes : goal.returns-clause-denotes
returns-clause-denotes c =
    let d = c.args.descriptor in
    let old = c.args.arena.now in
    let new = c.add_flat.new.arena in
    let es = c.args.table.now in
    let f : Finished = record { end = d.end; node = c.in_ok-node.node } in
    ap (table_of new.nodes) c.in_ok-insert.ensures.added
    ∙ added_table (finished_of new.nodes) es d.start f
    ∙ ap (λ (t : Table). with_block t d.start (finished_of new.nodes f)) (table_stays old new c.add_flat.ensures.extends es c.requires.inside)
    ∙ ap (λ (t : Tree). with_block (table_of old.nodes es) d.start (record { end = d.end; tree = t })) (c.in_ok-node.ensures.denotes ∙ sym (tree_is c.args.version (table_of old.nodes es) d.flat))

pub returns-clause-inside : goal.returns-clause-inside
returns-clause-inside c =
    let new = c.add_flat.new.arena in
    let f : Finished = record { end = c.args.descriptor.end; node = c.in_ok-node.node } in
    subst (AllInside (length new.nodes)) (sym c.in_ok-insert.ensures.added)
    (added_below (λ (x : Finished). x.node) (length new.nodes) c.args.table.now c.args.descriptor.start f (inside_stays c.args.arena.now new c.add_flat.ensures.extends c.args.table.now c.requires.inside) c.in_ok-node.ensures.within)

pub returns-in_err-node-clause-adds : goal.returns-in_err-node-clause-adds
returns-in_err-node-clause-adds c =
    let is = tree_is c.args.version (table_of c.args.arena.now.nodes c.args.table.now) c.args.descriptor.flat in
    subst (λ (t : Tree). AddsOnly (t ∷ []) c.args.arena.now c.add_flat.new.arena) (sym is) c.add_flat.ensures.adds

pub returns-in_err-node-clause-outgrown : goal.returns-in_err-node-clause-outgrown
returns-in_err-node-clause-outgrown c wants =
    let p = err_from_is_err_and c.from_residual.result c.from_residual.ensures.1 in
    let is = tree_is c.args.version (table_of c.args.arena.now.nodes c.args.table.now) c.args.descriptor.flat in
    subst (λ (t : Tree). Outgrows c.args.arena.now (t ∷ [])) (sym is) (c.add_flat.ensures.outgrown (passed c.from_residual.result c.add_flat.result p.0 c.in_err-node.field-0.0 p.1 p.2 c.in_err-node.was wants))

pub returns-in_err-insert-clause-adds : goal.returns-in_err-insert-clause-adds
returns-in_err-insert-clause-adds c =
    let is = tree_is c.args.version (table_of c.args.arena.now.nodes c.args.table.now) c.args.descriptor.flat in
    subst (λ (t : Tree). AddsOnly (t ∷ []) c.args.arena.now c.add_flat.new.arena) (sym is) c.add_flat.ensures.adds

pub returns-clause-adds : goal.returns-clause-adds
returns-clause-adds c =
    let is = tree_is c.args.version (table_of c.args.arena.now.nodes c.args.table.now) c.args.descriptor.flat in
    subst (λ (t : Tree). AddsOnly (t ∷ []) c.args.arena.now c.add_flat.new.arena) (sym is) c.add_flat.ensures.adds
