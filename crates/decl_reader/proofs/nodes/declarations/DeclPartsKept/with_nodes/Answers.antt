use Rattle.std.proofs.Common.{map, sym, subst}
use Rattle.type_terms.specs.Additions.{AddsOnly}
use Rattle.block_reader.specs.declared.declarations.DeclParts.{DeclParts}
use Rattle.decl_reader.specs.Forms.{decl_form}
use Rattle.type_terms.specs.Declarations.{form_types}
use Rattle.decl_reader.specs.Meant.{named_by}
use Rattle.decl_reader.proofs.nodes.declarations.DeclPartsKept.with_nodes.Goals as goal

pub returns-in_err-ty-in-Var-clause-adds : goal.returns-in_err-ty-in-Var-clause-adds
returns-in_err-ty-in-Var-clause-adds c =
    subst (λ (x : DeclParts). AddsOnly (map (named_by c.args.version c.args.arena.now.nodes c.args.table.now) (form_types (decl_form x))) c.args.arena.now c.with_nodes.new.arena) (sym c.in-Var.is) c.with_nodes.ensures.adds

pub returns-in_err-with_nodes-in-Func-clause-adds : goal.returns-in_err-with_nodes-in-Func-clause-adds
returns-in_err-with_nodes-in-Func-clause-adds c =
    subst (λ (x : DeclParts). AddsOnly (map (named_by c.args.version c.args.arena.now.nodes c.args.table.now) (form_types (decl_form x))) c.args.arena.now c.with_nodes-in-Func.new.arena) (sym c.in-Func.is) c.with_nodes-in-Func.ensures.adds

pub returns-in_err-ty-in-Constant-clause-adds : goal.returns-in_err-ty-in-Constant-clause-adds
returns-in_err-ty-in-Constant-clause-adds c =
    subst (λ (x : DeclParts). AddsOnly (map (named_by c.args.version c.args.arena.now.nodes c.args.table.now) (form_types (decl_form x))) c.args.arena.now c.with_nodes-in-Constant.new.arena) (sym c.in-Constant.is) c.with_nodes-in-Constant.ensures.adds

pub returns-in_err-with_nodes-in-Defined-clause-adds : goal.returns-in_err-with_nodes-in-Defined-clause-adds
returns-in_err-with_nodes-in-Defined-clause-adds c =
    subst (λ (x : DeclParts). AddsOnly (map (named_by c.args.version c.args.arena.now.nodes c.args.table.now) (form_types (decl_form x))) c.args.arena.now c.with_nodes-in-Defined.new.arena) (sym c.in-Defined.is) c.with_nodes-in-Defined.ensures.adds

pub returns-in_err-with_nodes-in-Alias-clause-adds : goal.returns-in_err-with_nodes-in-Alias-clause-adds
returns-in_err-with_nodes-in-Alias-clause-adds c =
    subst (λ (x : DeclParts). AddsOnly (map (named_by c.args.version c.args.arena.now.nodes c.args.table.now) (form_types (decl_form x))) c.args.arena.now c.with_nodes-in-Alias.new.arena) (sym c.in-Alias.is) c.with_nodes-in-Alias.ensures.adds

pub returns-in_err-constraint-in-Parameter-clause-adds : goal.returns-in_err-constraint-in-Parameter-clause-adds
returns-in_err-constraint-in-Parameter-clause-adds c =
    subst (λ (x : DeclParts). AddsOnly (map (named_by c.args.version c.args.arena.now.nodes c.args.table.now) (form_types (decl_form x))) c.args.arena.now c.with_nodes-in-Parameter.new.arena) (sym c.in-Parameter.is) c.with_nodes-in-Parameter.ensures.adds

pub returns-in_ok-ty-in-Var-clause-adds : goal.returns-in_ok-ty-in-Var-clause-adds
returns-in_ok-ty-in-Var-clause-adds c =
    subst (λ (x : DeclParts). AddsOnly (map (named_by c.args.version c.args.arena.now.nodes c.args.table.now) (form_types (decl_form x))) c.args.arena.now c.with_nodes.new.arena) (sym c.in-Var.is) c.with_nodes.ensures.adds

pub returns-in_ok-with_nodes-in-Func-clause-adds : goal.returns-in_ok-with_nodes-in-Func-clause-adds
returns-in_ok-with_nodes-in-Func-clause-adds c =
    subst (λ (x : DeclParts). AddsOnly (map (named_by c.args.version c.args.arena.now.nodes c.args.table.now) (form_types (decl_form x))) c.args.arena.now c.with_nodes-in-Func.new.arena) (sym c.in-Func.is) c.with_nodes-in-Func.ensures.adds

pub returns-in_ok-ty-in-Constant-clause-adds : goal.returns-in_ok-ty-in-Constant-clause-adds
returns-in_ok-ty-in-Constant-clause-adds c =
    subst (λ (x : DeclParts). AddsOnly (map (named_by c.args.version c.args.arena.now.nodes c.args.table.now) (form_types (decl_form x))) c.args.arena.now c.with_nodes-in-Constant.new.arena) (sym c.in-Constant.is) c.with_nodes-in-Constant.ensures.adds

pub returns-in_ok-with_nodes-in-Defined-clause-adds : goal.returns-in_ok-with_nodes-in-Defined-clause-adds
returns-in_ok-with_nodes-in-Defined-clause-adds c =
    subst (λ (x : DeclParts). AddsOnly (map (named_by c.args.version c.args.arena.now.nodes c.args.table.now) (form_types (decl_form x))) c.args.arena.now c.with_nodes-in-Defined.new.arena) (sym c.in-Defined.is) c.with_nodes-in-Defined.ensures.adds

pub returns-in_ok-with_nodes-in-Alias-clause-adds : goal.returns-in_ok-with_nodes-in-Alias-clause-adds
returns-in_ok-with_nodes-in-Alias-clause-adds c =
    subst (λ (x : DeclParts). AddsOnly (map (named_by c.args.version c.args.arena.now.nodes c.args.table.now) (form_types (decl_form x))) c.args.arena.now c.with_nodes-in-Alias.new.arena) (sym c.in-Alias.is) c.with_nodes-in-Alias.ensures.adds

pub returns-in_ok-constraint-in-Parameter-clause-adds : goal.returns-in_ok-constraint-in-Parameter-clause-adds
returns-in_ok-constraint-in-Parameter-clause-adds c =
    subst (λ (x : DeclParts). AddsOnly (map (named_by c.args.version c.args.arena.now.nodes c.args.table.now) (form_types (decl_form x))) c.args.arena.now c.with_nodes-in-Parameter.new.arena) (sym c.in-Parameter.is) c.with_nodes-in-Parameter.ensures.adds
