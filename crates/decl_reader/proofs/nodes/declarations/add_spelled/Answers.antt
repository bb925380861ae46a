use Rattle.std.proofs.Common.{◌≡◌, ◌++◌, ◌∙◌, List, ap, subst}
use Rattle.std.specs.Prelude.{IfOk}
use Rattle.std.proofs.lemmas.Result.{err_from_is_err_and}
use Rattle.type_terms.specs.Additions.{AddsOnly, Outgrows}
use Rattle.type_terms.specs.AdditionLaws.{covers_left, covers_right, adds_more, additions_join, outgrown_by_more, want_of_nodes_joins}
use Rattle.type_terms.specs.Declarations.{decl_of, form_types}
use Rattle.type_terms.specs.Trees.{Tree}
use Rattle.decl_spelling.specs.Tables.{Table}
use Rattle.decl_reader.specs.Blocks.{table_of}
use Rattle.decl_reader.specs.Finished.{known_after, types_after}
use Rattle.decl_reader.specs.Meant.{decl_by}
use Rattle.decl_reader.proofs.ExtendsLemmas.{table_stays, inside_stays}
use Rattle.decl_reader.proofs.KeptLemmas.{on_ok}
use Rattle.decl_reader.proofs.WantLemmas.{passed}
use Rattle.decl_reader.proofs.nodes.declarations.add_spelled.Goals as goal

pub returns-clause-denotes : goal.returns-clause-denotes
returns-clause-denotes c =
    subst (λ (t : Table). IfOk c.add_declaration.result (λ node. decl_of c.add_declaration.new.arena.nodes node ≡ decl_by c.args.version t c.args.spelled.decl)) c.in_ok-add_descriptors.ensures.denotes c.add_declaration.ensures.denotes

pub returns-in_err-add_descriptors-clause-adds : goal.returns-in_err-add_descriptors-clause-adds
returns-in_err-add_descriptors-clause-adds c =
    let v = c.args.version in
    let first = types_after v (table_of c.args.arena.now.nodes c.args.table.now) c.args.spelled.finished.items in
    let own = form_types (decl_by v (known_after v (table_of c.args.arena.now.nodes c.args.table.now) c.args.spelled.finished.items) c.args.spelled.decl) in
    adds_more (first ++ own) first c.args.arena.now c.add_descriptors.new.arena (covers_left first own) c.add_descriptors.ensures.adds

pub returns-in_err-add_descriptors-clause-outgrown : goal.returns-in_err-add_descriptors-clause-outgrown
returns-in_err-add_descriptors-clause-outgrown c wants =
    let p = err_from_is_err_and c.from_residual.result c.from_residual.ensures.1 in
    let v = c.args.version in
    let first = types_after v (table_of c.args.arena.now.nodes c.args.table.now) c.args.spelled.finished.items in
    let own = form_types (decl_by v (known_after v (table_of c.args.arena.now.nodes c.args.table.now) c.args.spelled.finished.items) c.args.spelled.decl) in
    outgrown_by_more c.args.arena.now (first ++ own) first (covers_left first own) (c.add_descriptors.ensures.outgrown (passed c.from_residual.result c.add_descriptors.result p.0 c.in_err-add_descriptors.field-0.0 p.1 p.2 c.in_err-add_descriptors.was wants))

pub returns-clause-adds : goal.returns-clause-adds
returns-clause-adds c =
    let v = c.args.version in
    let first = types_after v (table_of c.args.arena.now.nodes c.args.table.now) c.args.spelled.finished.items in
    let own = form_types (decl_by v (known_after v (table_of c.args.arena.now.nodes c.args.table.now) c.args.spelled.finished.items) c.args.spelled.decl) in
    let named = ap (λ (t : Table). form_types (decl_by v t c.args.spelled.decl)) c.in_ok-add_descriptors.ensures.denotes in
    let mid = c.add_descriptors.new.arena in
    additions_join c.args.arena.now mid c.add_declaration.new.arena (first ++ own) (adds_more (first ++ own) first c.args.arena.now mid (covers_left first own) c.add_descriptors.ensures.adds) c.add_declaration.ensures.extends
    (adds_more (first ++ own) own mid c.add_declaration.new.arena (covers_right first own) (subst (λ (ts : List Tree). AddsOnly ts mid c.add_declaration.new.arena) named c.add_declaration.ensures.adds))

pub returns-clause-outgrown : goal.returns-clause-outgrown
returns-clause-outgrown c wants =
    let v = c.args.version in
    let first = types_after v (table_of c.args.arena.now.nodes c.args.table.now) c.args.spelled.finished.items in
    let own = form_types (decl_by v (known_after v (table_of c.args.arena.now.nodes c.args.table.now) c.args.spelled.finished.items) c.args.spelled.decl) in
    let named = ap (λ (t : Table). form_types (decl_by v t c.args.spelled.decl)) c.in_ok-add_descriptors.ensures.denotes in
    let mid = c.add_descriptors.new.arena in
    want_of_nodes_joins c.args.arena.now mid (first ++ own) c.add_descriptors.ensures.extends (adds_more (first ++ own) first c.args.arena.now mid (covers_left first own) c.add_descriptors.ensures.adds)
    (outgrown_by_more mid (first ++ own) own (covers_right first own) (subst (Outgrows mid) named (c.add_declaration.ensures.outgrown wants)))

pub returns-clause-table : goal.returns-clause-table
returns-clause-table c =
    on_ok c.add_declaration.result (table_stays c.add_descriptors.new.arena c.add_declaration.new.arena c.add_declaration.ensures.extends c.add_descriptors.new.table c.in_ok-add_descriptors.ensures.inside ∙ c.in_ok-add_descriptors.ensures.denotes)

pub returns-clause-inside : goal.returns-clause-inside
returns-clause-inside c = on_ok c.add_declaration.result (inside_stays c.add_descriptors.new.arena c.add_declaration.new.arena c.add_declaration.ensures.extends c.add_descriptors.new.table c.in_ok-add_descriptors.ensures.inside)
