use Rattle.std.proofs.Common.{◌≡◌, List, ◌∙◌, sym, ap, subst}
use Rattle.std.specs.Prelude.{IfOk, IsErrOf}
use Rattle.type_terms.specs.Additions.{AddsOnly, Outgrows}
use Rattle.type_terms.specs.Trees.{Tree}
use Rattle.type_terms.specs.Declarations.{Decl, decl_of, form_types}
use Rattle.decl_spelling.proofs.Forms.{form_types_map}
use Rattle.decl_reader.specs.declared.fault.DeclFault.TheVariants.{Nodes}
use Rattle.decl_reader.specs.Forms.{decl_form}
use Rattle.decl_reader.specs.Meant.{named_by}
use Rattle.decl_reader.proofs.MeantLemmas.{form_is}
use Rattle.decl_reader.proofs.nodes.declarations.add_declaration.Goals as goal

pub returns-clause-denotes : goal.returns-clause-denotes
returns-clause-denotes c =
    let is = form_is (named_by c.args.version c.args.arena.now.nodes c.args.table.now) c.args.parts in
    subst (λ (d : Decl). IfOk c.with_nodes.result (λ node. decl_of c.with_nodes.new.arena.nodes node ≡ d)) (sym is) c.with_nodes.ensures.meant

pub returns-clause-adds : goal.returns-clause-adds
returns-clause-adds c =
    let named = named_by c.args.version c.args.arena.now.nodes c.args.table.now in
    let same = ap form_types (form_is named c.args.parts) ∙ form_types_map (λ p. p) (λ t. t) named (decl_form c.args.parts) in
    subst (λ (ts : List Tree). AddsOnly ts c.args.arena.now c.with_nodes.new.arena) (sym same) c.with_nodes.ensures.adds

pub returns-clause-outgrown : goal.returns-clause-outgrown
returns-clause-outgrown c =
    let named = named_by c.args.version c.args.arena.now.nodes c.args.table.now in
    let same = ap form_types (form_is named c.args.parts) ∙ form_types_map (λ p. p) (λ t. t) named (decl_form c.args.parts) in
    subst (λ (ts : List Tree). IsErrOf c.with_nodes.result Nodes → Outgrows c.args.arena.now ts) (sym same) c.with_nodes.ensures.outgrown
