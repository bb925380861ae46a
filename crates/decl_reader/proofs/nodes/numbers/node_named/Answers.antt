use Rattle.std.proofs.Common.{◌∷◌, [], sym, ap, subst, ◌∙◌, ◌<◌, Option, length}
use Rattle.std.specs.Prelude.{option_map, IfSome, IsErrOf}
use Rattle.type_terms.specs.Trees.{Tree}
use Rattle.type_terms.specs.Additions.{AddsOnly, Outgrows}
use Rattle.decl_reader.specs.declared.fault.DeclFault.TheVariants.{Nodes}
use Rattle.decl_reader.specs.declared.table.Finished.{Finished}
use Rattle.decl_reader.specs.Blocks.{finished_of, table_of}
use Rattle.decl_reader.proofs.TypeOffLemmas.{basic_is, none_is}
use Rattle.decl_reader.proofs.nodes.numbers.node_named.Goals as goal

pub returns-in-Some-clause-within : goal.returns-in-Some-clause-within
returns-in-Some-clause-within c = subst (λ (a : Option Finished). IfSome a (λ f. f.node < length c.args.arena.now.nodes)) c.in-Some.is (c.at.ensures.inside (length c.args.arena.now.nodes) c.requires.inside)

pub returns-in-Basic-clause-adds : goal.returns-in-Basic-clause-adds
returns-in-Basic-clause-adds c =
    let is = c.basic_named.ensures ∙ basic_is c.args.number c.in-Basic.code c.args.version (table_of c.args.arena.now.nodes c.args.table.now) c.in-Basic.ensures.0 c.in-Basic.ensures.1 in
    subst (λ (t : Tree). AddsOnly (t ∷ []) c.args.arena.now c.predeclared_node.new.arena) is c.predeclared_node.ensures.adds

pub returns-in-Basic-clause-outgrown : goal.returns-in-Basic-clause-outgrown
returns-in-Basic-clause-outgrown c =
    let is = c.basic_named.ensures ∙ basic_is c.args.number c.in-Basic.code c.args.version (table_of c.args.arena.now.nodes c.args.table.now) c.in-Basic.ensures.0 c.in-Basic.ensures.1 in
    subst (λ (t : Tree). IsErrOf c.predeclared_node.result Nodes → Outgrows c.args.arena.now (t ∷ [])) is c.predeclared_node.ensures.outgrown

pub returns-in-None-clause-adds : goal.returns-in-None-clause-adds
returns-in-None-clause-adds c =
    let nodes = c.args.arena.now.nodes in
    let none = sym (sym (c.at.ensures.found nodes) ∙ ap (option_map (finished_of nodes)) c.in-None.is) in
    let is = sym (none_is c.args.number c.in-At.offset c.in-At.ensures c.args.version (table_of nodes c.args.table.now) none) in
    subst (λ (t : Tree). AddsOnly (t ∷ []) c.args.arena.now c.predeclared_node-in-None.new.arena) is c.predeclared_node-in-None.ensures.adds

pub returns-in-None-clause-outgrown : goal.returns-in-None-clause-outgrown
returns-in-None-clause-outgrown c =
    let nodes = c.args.arena.now.nodes in
    let none = sym (sym (c.at.ensures.found nodes) ∙ ap (option_map (finished_of nodes)) c.in-None.is) in
    let is = sym (none_is c.args.number c.in-At.offset c.in-At.ensures c.args.version (table_of nodes c.args.table.now) none) in
    subst (λ (t : Tree). IsErrOf c.predeclared_node-in-None.result Nodes → Outgrows c.args.arena.now (t ∷ [])) is c.predeclared_node-in-None.ensures.outgrown
