use Rattle.std.proofs.Common.{◌∙◌, ◌≤◌, ◌++◌, [], ◌∷◌, min, false, refl, sym, arith}
use Rattle.std.proofs.lemmas.Result.{err_from_is_err_and}
use Rattle.go_type_syntax.specs.declared.params.Param.{Param}
use Rattle.go_type_syntax.specs.declared.tree.FieldExpr.{FieldExpr}
use Rattle.go_type_syntax.specs.declared.tree.ElemExpr.{ElemExpr}
use Rattle.go_type_syntax.specs.declared.tree.TermExpr.{TermExpr}
use Rattle.go_type_syntax.specs.declared.tree.TypeExpr.{TypeExpr}
use Rattle.go_expr_syntax.specs.Reading.{is_semicolon, is_comma, is_bar, is_close_brace, is_close_paren, is_close_bracket, series, Fit, with_fit}
use Rattle.go_type_syntax.specs.Params.{param_at, params_row}
use Rattle.go_type_syntax.specs.Elements.{type_list, term_at, terms_at, more_terms, elem_at, elems_at}
use Rattle.go_type_syntax.specs.Types.{field_by, fields_at, type_at, lower_at}
use Rattle.go_expr_syntax.proofs.Turns.{fit_closed, fit_stops, fit_last, fit_stuck, fit_goes, fit_ends, fit_refuses, series_smaller, chain_stops, chain_done, chain_goes}
use Rattle.go_type_syntax.proofs.TypeReads.{field_eats, param_eats, term_eats, elem_eats, type_none, type_some, lower_none, lower_is}
use Rattle.go_type_syntax.proofs.ParamTurns.{from_open, from_goes, union_of, terms_join}
use Rattle.go_type_syntax.proofs.InstanceTurns.{type_eats, args_give, lone_stops, lone_gives, types_stop, types_give, star_stops, star_gives, elem_stops, union_stops, elem_gives}
use Rattle.go_type_syntax.proofs.SmallFits.{fields_start, elems_start}
use Rattle.go_type_syntax.proofs.+types.Goals as goal

pub types::fields-returns-in-Ok : goal.types::fields-returns-in-Ok
types::fields-returns-in-Ok t c =
    let n = c.args.left in
    fit_closed n is_semicolon is_close_brace (λ (x : Fit FieldExpr). false) (λ x. x.0) (λ x. x.1) (field_by n (type_at n)) (field_eats n) c.loop-after.found c.loop-after.fit c.loop-after.rest.now c.in-Ok.after.now (fields_at n (type_at n) c.args.tokens.now) c.loop-after.invariant.small c.in-Ok.ensures c.loop-after.invariant.same

pub types::fields-returns-in_err-field : goal.types::fields-returns-in_err-field
types::fields-returns-in_err-field t c =
    let n = c.args.left in
    let p = err_from_is_err_and c.from_residual.result c.from_residual.ensures.1 in
    rw (p.1, p.2) (fit_stops n is_semicolon is_close_brace (λ (x : Fit FieldExpr). false) (λ x. x.0) (λ x. x.1) (field_by n (type_at n)) (field_eats n) c.loop-after.found c.loop-after.fit c.loop-after.rest.now c.in_default.field-0 c.in_err-field.field-0.0 (fields_at n (type_at n) c.args.tokens.now) c.in_default.ensures c.in_err-field.ensures c.loop-after.invariant.same)

pub types::fields-returns-in-Ok-past : goal.types::fields-returns-in-Ok-past
types::fields-returns-in-Ok-past t c =
    let n = c.args.left in
    rw (c.in_ok-push.ensures.ok, c.min-fit.ensures) (fit_last n is_semicolon is_close_brace (λ (x : Fit FieldExpr). false) (λ x. x.0) (λ x. x.1) (field_by n (type_at n)) (field_eats n) c.loop-after.found c.loop-after.fit c.loop-after.rest.now c.in_default.field-0 (c.in_ok-field.field, c.in_ok-field.inside) c.in_ok-field.behind.now c.in-Ok-past.after.now (fields_at n (type_at n) c.args.tokens.now) c.loop-after.invariant.small c.in_default.ensures c.in_ok-field.ensures c.in-Ok-past.ensures c.loop-after.invariant.same)

pub types::fields-returns-in_err-next : goal.types::fields-returns-in_err-next
types::fields-returns-in_err-next t c =
    let n = c.args.left in
    let p = err_from_is_err_and c.from_residual-in_err-next.result c.from_residual-in_err-next.ensures.1 in
    rw (p.1, p.2) (fit_stuck n is_semicolon is_close_brace (λ (x : Fit FieldExpr). false) (λ x. x.0) (λ x. x.1) (field_by n (type_at n)) (field_eats n) c.loop-after.found c.loop-after.fit c.loop-after.rest.now c.in_default.field-0 (c.in_ok-field.field, c.in_ok-field.inside) c.in_ok-field.behind.now c.in_default-past.field-0 c.in_err-next.field-0.0 (fields_at n (type_at n) c.args.tokens.now) c.in_default.ensures c.in_ok-field.ensures c.in_default-past.ensures c.in_err-next.ensures c.loop-after.invariant.same)

pub types::fields-loop-after-smaller : goal.types::fields-loop-after-smaller
types::fields-loop-after-smaller t c =
    let n = c.args.left in
    rw c.onward-rest.ensures (series_smaller is_semicolon (field_by n (type_at n)) (field_eats n) c.loop-after.rest.now (c.in_ok-field.field, c.in_ok-field.inside) c.in_ok-field.behind.now c.in_ok-next.next.now c.in_ok-field.ensures c.in_ok-next.ensures)

pub types::fields-loop-after-preserved : goal.types::fields-loop-after-preserved
types::fields-loop-after-preserved t c =
    let n = c.args.left in
    let less : min c.loop-after.fit c.in_ok-field.inside ≤ n = omega (arith, c.loop-after.invariant.small) in
    rw (c.onward-rest.ensures, c.in_ok-push.ensures.ok, c.min-fit.ensures) (record {
      small = less;
      same = fit_goes n is_semicolon is_close_brace (λ (x : Fit FieldExpr). false) (λ x. x.0) (λ x. x.1) (field_by n (type_at n)) (field_eats n) c.loop-after.found c.loop-after.fit c.loop-after.rest.now c.in_default.field-0 (c.in_ok-field.field, c.in_ok-field.inside) c.in_ok-field.behind.now c.in_ok-next.next.now c.in_default-past.field-0 (fields_at n (type_at n) c.args.tokens.now) refl c.in_default.ensures c.in_ok-field.ensures c.in_default-past.ensures c.in_ok-next.ensures c.loop-after.invariant.same;
    })

pub elements::elems-returns-in-Ok : goal.elements::elems-returns-in-Ok
elements::elems-returns-in-Ok t c =
    let n = c.args.left in
    fit_closed n is_semicolon is_close_brace (λ (x : Fit ElemExpr). false) (λ x. x.0) (λ x. x.1) (elem_at n (type_at n) (lower_at n)) (elem_eats n) c.loop-after.found c.loop-after.fit c.loop-after.rest.now c.in-Ok.after.now (elems_at n (type_at n) (lower_at n) c.args.tokens.now) c.loop-after.invariant.small c.in-Ok.ensures c.loop-after.invariant.same

pub elements::elems-returns-in_err-elem : goal.elements::elems-returns-in_err-elem
elements::elems-returns-in_err-elem t c =
    let n = c.args.left in
    let p = err_from_is_err_and c.from_residual.result c.from_residual.ensures.1 in
    rw (p.1, p.2) (fit_stops n is_semicolon is_close_brace (λ (x : Fit ElemExpr). false) (λ x. x.0) (λ x. x.1) (elem_at n (type_at n) (lower_at n)) (elem_eats n) c.loop-after.found c.loop-after.fit c.loop-after.rest.now c.in_default.field-0 c.in_err-elem.field-0.0 (elems_at n (type_at n) (lower_at n) c.args.tokens.now) c.in_default.ensures c.in_err-elem.ensures c.loop-after.invariant.same)

pub elements::elems-returns-in-Ok-past : goal.elements::elems-returns-in-Ok-past
elements::elems-returns-in-Ok-past t c =
    let n = c.args.left in
    rw (c.in_ok-push.ensures.ok, c.min-fit.ensures) (fit_last n is_semicolon is_close_brace (λ (x : Fit ElemExpr). false) (λ x. x.0) (λ x. x.1) (elem_at n (type_at n) (lower_at n)) (elem_eats n) c.loop-after.found c.loop-after.fit c.loop-after.rest.now c.in_default.field-0 (c.in_ok-elem.elem, c.in_ok-elem.inside) c.in_ok-elem.behind.now c.in-Ok-past.after.now (elems_at n (type_at n) (lower_at n) c.args.tokens.now) c.loop-after.invariant.small c.in_default.ensures c.in_ok-elem.ensures c.in-Ok-past.ensures c.loop-after.invariant.same)

pub elements::elems-returns-in_err-next : goal.elements::elems-returns-in_err-next
elements::elems-returns-in_err-next t c =
    let n = c.args.left in
    let p = err_from_is_err_and c.from_residual-in_err-next.result c.from_residual-in_err-next.ensures.1 in
    rw (p.1, p.2) (fit_stuck n is_semicolon is_close_brace (λ (x : Fit ElemExpr). false) (λ x. x.0) (λ x. x.1) (elem_at n (type_at n) (lower_at n)) (elem_eats n) c.loop-after.found c.loop-after.fit c.loop-after.rest.now c.in_default.field-0 (c.in_ok-elem.elem, c.in_ok-elem.inside) c.in_ok-elem.behind.now c.in_default-past.field-0 c.in_err-next.field-0.0 (elems_at n (type_at n) (lower_at n) c.args.tokens.now) c.in_default.ensures c.in_ok-elem.ensures c.in_default-past.ensures c.in_err-next.ensures c.loop-after.invariant.same)

pub elements::elems-loop-after-smaller : goal.elements::elems-loop-after-smaller
elements::elems-loop-after-smaller t c =
    let n = c.args.left in
    rw c.onward-rest.ensures (series_smaller is_semicolon (elem_at n (type_at n) (lower_at n)) (elem_eats n) c.loop-after.rest.now (c.in_ok-elem.elem, c.in_ok-elem.inside) c.in_ok-elem.behind.now c.in_ok-next.next.now c.in_ok-elem.ensures c.in_ok-next.ensures)

pub elements::elems-loop-after-preserved : goal.elements::elems-loop-after-preserved
elements::elems-loop-after-preserved t c =
    let n = c.args.left in
    let less : min c.loop-after.fit c.in_ok-elem.inside ≤ n = omega (arith, c.loop-after.invariant.small) in
    rw (c.onward-rest.ensures, c.in_ok-push.ensures.ok, c.min-fit.ensures) (record {
      small = less;
      same = fit_goes n is_semicolon is_close_brace (λ (x : Fit ElemExpr). false) (λ x. x.0) (λ x. x.1) (elem_at n (type_at n) (lower_at n)) (elem_eats n) c.loop-after.found c.loop-after.fit c.loop-after.rest.now c.in_default.field-0 (c.in_ok-elem.elem, c.in_ok-elem.inside) c.in_ok-elem.behind.now c.in_ok-next.next.now c.in_default-past.field-0 (elems_at n (type_at n) (lower_at n) c.args.tokens.now) refl c.in_default.ensures c.in_ok-elem.ensures c.in_default-past.ensures c.in_ok-next.ensures c.loop-after.invariant.same;
    })

pub params::param_row-returns-in-Ok : goal.params::param_row-returns-in-Ok
params::param_row-returns-in-Ok t c =
    let n = c.args.left in
    fit_closed n is_comma is_close_paren (λ (x : Param). x.last) (λ x. x.expr) (λ x. x.fit) (param_at c.args.named c.args.variadic (type_at n)) (param_eats c.args.named c.args.variadic n) c.loop-after.params c.loop-after.fit c.loop-after.rest.now c.in-Ok.after.now (with_fit c.args.found (params_row c.args.named c.args.variadic n (type_at n) c.args.tokens.now)) c.loop-after.invariant.small c.in-Ok.ensures c.loop-after.invariant.same

pub params::param_row-returns-in_err-param : goal.params::param_row-returns-in_err-param
params::param_row-returns-in_err-param t c =
    let n = c.args.left in
    let p = err_from_is_err_and c.from_residual.result c.from_residual.ensures.1 in
    rw (p.1, p.2) (fit_stops n is_comma is_close_paren (λ (x : Param). x.last) (λ x. x.expr) (λ x. x.fit) (param_at c.args.named c.args.variadic (type_at n)) (param_eats c.args.named c.args.variadic n) c.loop-after.params c.loop-after.fit c.loop-after.rest.now c.in_default.field-0 c.in_err-param.field-0.0 (with_fit c.args.found (params_row c.args.named c.args.variadic n (type_at n) c.args.tokens.now)) c.in_default.ensures c.in_err-param.ensures c.loop-after.invariant.same)

pub params::param_row-returns-in-Ok-past : goal.params::param_row-returns-in-Ok-past
params::param_row-returns-in-Ok-past t c =
    let n = c.args.left in
    rw (c.in_ok-push.ensures.ok, c.min-fit.ensures) (fit_last n is_comma is_close_paren (λ (x : Param). x.last) (λ x. x.expr) (λ x. x.fit) (param_at c.args.named c.args.variadic (type_at n)) (param_eats c.args.named c.args.variadic n) c.loop-after.params c.loop-after.fit c.loop-after.rest.now c.in_default.field-0 c.in_ok-param.param c.in_ok-param.behind.now c.in-Ok-past.after.now (with_fit c.args.found (params_row c.args.named c.args.variadic n (type_at n) c.args.tokens.now)) c.loop-after.invariant.small c.in_default.ensures c.in_ok-param.ensures c.in-Ok-past.ensures c.loop-after.invariant.same)

pub params::param_row-returns-in_err-next : goal.params::param_row-returns-in_err-next
params::param_row-returns-in_err-next t c =
    let n = c.args.left in
    let p = err_from_is_err_and c.from_residual-in_err-next.result c.from_residual-in_err-next.ensures.1 in
    rw (p.1, p.2) (fit_stuck n is_comma is_close_paren (λ (x : Param). x.last) (λ x. x.expr) (λ x. x.fit) (param_at c.args.named c.args.variadic (type_at n)) (param_eats c.args.named c.args.variadic n) c.loop-after.params c.loop-after.fit c.loop-after.rest.now c.in_default.field-0 c.in_ok-param.param c.in_ok-param.behind.now c.in_default-past.field-0 c.in_err-next.field-0.0 (with_fit c.args.found (params_row c.args.named c.args.variadic n (type_at n) c.args.tokens.now)) c.in_default.ensures c.in_ok-param.ensures c.in_default-past.ensures c.in_err-next.ensures c.loop-after.invariant.same)

pub params::param_row-loop-after-smaller : goal.params::param_row-loop-after-smaller
params::param_row-loop-after-smaller t c =
    let n = c.args.left in
    rw c.onward-rest.ensures (series_smaller is_comma (param_at c.args.named c.args.variadic (type_at n)) (param_eats c.args.named c.args.variadic n) c.loop-after.rest.now c.in_ok-param.param c.in_ok-param.behind.now c.in_ok-next.next.now c.in_ok-param.ensures c.in_ok-next.ensures)

pub params::param_row-loop-after-preserved : goal.params::param_row-loop-after-preserved
params::param_row-loop-after-preserved t c =
    let n = c.args.left in
    let less : min c.loop-after.fit c.in_ok-param.param.fit ≤ n = omega (arith, c.loop-after.invariant.small) in
    rw (c.onward-rest.ensures, c.in_ok-push.ensures.ok, c.min-fit.ensures) (record {
      small = less;
      same = fit_goes n is_comma is_close_paren (λ (x : Param). x.last) (λ x. x.expr) (λ x. x.fit) (param_at c.args.named c.args.variadic (type_at n)) (param_eats c.args.named c.args.variadic n) c.loop-after.params c.loop-after.fit c.loop-after.rest.now c.in_default.field-0 c.in_ok-param.param c.in_ok-param.behind.now c.in_ok-next.next.now c.in_default-past.field-0 (with_fit c.args.found (params_row c.args.named c.args.variadic n (type_at n) c.args.tokens.now)) c.if-last.false c.in_default.ensures c.in_ok-param.ensures c.in_default-past.ensures c.in_ok-next.ensures c.loop-after.invariant.same;
    })

pub types::fields-loop-after-init : goal.types::fields-loop-after-init
types::fields-loop-after-init t c =
    let n = c.args.left in
    let small : n ≤ n = omega arith in
    rw c.new-found.ensures (record { small = small; same = fields_start n c.args.tokens.now })

pub elements::elems-loop-after-init : goal.elements::elems-loop-after-init
elements::elems-loop-after-init t c =
    let n = c.args.left in
    let small : n ≤ n = omega arith in
    rw c.new-found.ensures (record { small = small; same = elems_start n c.args.tokens.now })

pub params::param_row-returns-in_err-after : goal.params::param_row-returns-in_err-after
params::param_row-returns-in_err-after t c =
    let n = c.args.left in
    let p = err_from_is_err_and c.from_residual-in_err-after.result c.from_residual-in_err-after.ensures.1 in
    rw (p.1, p.2) (fit_refuses n is_comma is_close_paren (λ (x : Param). x.last) (λ x. x.expr) (λ x. x.fit) (param_at c.args.named c.args.variadic (type_at n)) (param_eats c.args.named c.args.variadic n) c.loop-after.params c.loop-after.fit c.loop-after.rest.now c.in_default.field-0 c.in_ok-param.param c.in_ok-param.behind.now c.in_ok-next.next.now c.in_default-past.field-0 c.in_err-after.field-0.0 (with_fit c.args.found (params_row c.args.named c.args.variadic n (type_at n) c.args.tokens.now)) c.if-last.true c.in_default.ensures c.in_ok-param.ensures c.in_default-past.ensures c.in_ok-next.ensures c.in_err-after.ensures c.loop-after.invariant.same)

pub params::param_row-returns-then-last : goal.params::param_row-returns-then-last
params::param_row-returns-then-last t c =
    let n = c.args.left in
    rw (c.in_ok-push.ensures.ok, c.min-fit.ensures) (fit_ends n is_comma is_close_paren (λ (x : Param). x.last) (λ x. x.expr) (λ x. x.fit) (param_at c.args.named c.args.variadic (type_at n)) (param_eats c.args.named c.args.variadic n) c.loop-after.params c.loop-after.fit c.loop-after.rest.now c.in_default.field-0 c.in_ok-param.param c.in_ok-param.behind.now c.in_ok-next.next.now c.in_ok-after.after.now c.in_default-past.field-0 (with_fit c.args.found (params_row c.args.named c.args.variadic n (type_at n) c.args.tokens.now)) c.loop-after.invariant.small c.if-last.true c.in_default.ensures c.in_ok-param.ensures c.in_default-past.ensures c.in_ok-next.ensures c.in_ok-after.ensures c.loop-after.invariant.same)

pub params::params-returns-in_default-past : goal.params::params-returns-in_default-past
params::params-returns-in_default-past t c =
    let n = c.args.left in
    rw (sym c.loop-name.invariant, from_open c.args.variadic n (type_at n) c.loop-name.names c.loop-name.rest.now c.in-Ok.name c.in-Ok.after.now c.in_default-past.field-0 c.in-Ok.ensures c.in_default-past.ensures) c.after_ident.ensures

pub params::params-loop-name-preserved : goal.params::params-loop-name-preserved
params::params-loop-name-preserved t c =
    let n = c.args.left in
    rw (c.in_ok-push.ensures.ok, c.onward-rest.ensures) (sym (from_goes c.args.variadic n (type_at n) c.loop-name.names c.loop-name.rest.now c.in-Ok.name c.in-Ok.after.now c.in-Ok-past.next.now c.in-Ok.ensures c.in-Ok-past.ensures) ∙ c.loop-name.invariant)

pub elements::more_terms-returns-in_err-term : goal.elements::more_terms-returns-in_err-term
elements::more_terms-returns-in_err-term t c =
    let n = c.args.left in
    let p = err_from_is_err_and c.from_residual-in_err-term.result c.from_residual-in_err-term.ensures.1 in
    rw (p.1, p.2) (chain_stops is_bar (λ (x : Fit TermExpr). (x.0 ∷ [], x.1)) (λ x xs. (x.0 ∷ xs.0, min x.1 xs.1)) (term_at (lower_at n)) (term_eats n) (λ xs. union_of (c.loop-terms.terms ++ xs.0) (min c.loop-terms.fit xs.1) c.args.at) c.loop-terms.rest.now c.in_err-term.field-0.0 (more_terms (lower_at n) c.args.first c.args.at c.args.tokens.now) c.in_err-term.ensures c.loop-terms.invariant)

pub elements::more_terms-returns-in_default : goal.elements::more_terms-returns-in_default
elements::more_terms-returns-in_default t c =
    let n = c.args.left in
    rw (c.in_ok-push.ensures.ok, c.min-fit.ensures) (chain_done is_bar (λ (x : Fit TermExpr). (x.0 ∷ [], x.1)) (λ x xs. (x.0 ∷ xs.0, min x.1 xs.1)) (term_at (lower_at n)) (term_eats n) (λ xs. union_of (c.loop-terms.terms ++ xs.0) (min c.loop-terms.fit xs.1) c.args.at) c.loop-terms.rest.now (c.in_ok-term.term, c.in_ok-term.inside) c.in_ok-term.after.now c.in_default.field-0 (more_terms (lower_at n) c.args.first c.args.at c.args.tokens.now) c.in_ok-term.ensures c.in_default.ensures c.loop-terms.invariant)

pub elements::more_terms-loop-terms-smaller : goal.elements::more_terms-loop-terms-smaller
elements::more_terms-loop-terms-smaller t c =
    let n = c.args.left in
    rw c.onward-rest.ensures (series_smaller is_bar (term_at (lower_at n)) (term_eats n) c.loop-terms.rest.now (c.in_ok-term.term, c.in_ok-term.inside) c.in_ok-term.after.now c.in-Ok.next.now c.in_ok-term.ensures c.in-Ok.ensures)

pub elements::more_terms-loop-terms-preserved : goal.elements::more_terms-loop-terms-preserved
elements::more_terms-loop-terms-preserved t c =
    let n = c.args.left in
    rw (c.onward-rest.ensures, c.in_ok-push.ensures.ok, c.min-fit.ensures) (sym (terms_join c.loop-terms.terms c.loop-terms.fit c.args.at (c.in_ok-term.term, c.in_ok-term.inside) (terms_at (lower_at n) c.in-Ok.next.now)) ∙ chain_goes is_bar (λ (x : Fit TermExpr). (x.0 ∷ [], x.1)) (λ x xs. (x.0 ∷ xs.0, min x.1 xs.1)) (term_at (lower_at n)) (term_eats n) (λ xs. union_of (c.loop-terms.terms ++ xs.0) (min c.loop-terms.fit xs.1) c.args.at) c.loop-terms.rest.now (c.in_ok-term.term, c.in_ok-term.inside) c.in_ok-term.after.now c.in-Ok.next.now (more_terms (lower_at n) c.args.first c.args.at c.args.tokens.now) c.in_ok-term.ensures c.in-Ok.ensures c.loop-terms.invariant)

pub types::type_expr-returns-then-left-eq0 : goal.types::type_expr-returns-then-left-eq0
types::type_expr-returns-then-left-eq0 t c =
    type_none c.args.left c.args.tokens.now c.if-left-eq0.true ∙ c.no_type.ensures

pub types::type_expr-returns : goal.types::type_expr-returns
types::type_expr-returns t c =
    rw (type_some c.args.left c.args.tokens.now c.if-left-eq0.false, sym c.start.ensures) (c.told_at.ensures _ c.type_inside.ensures)

pub types::base_type-returns : goal.types::base_type-returns
types::base_type-returns t c = c.told_at.ensures _ c.type_expr.ensures

pub instances::begun_type-returns : goal.instances::begun_type-returns
instances::begun_type-returns t c = c.told_at.ensures _ c.named_type.ensures

pub types::lower_type-returns-then-left-eq0 : goal.types::lower_type-returns-then-left-eq0
types::lower_type-returns-then-left-eq0 t c =
    lower_none c.args.left c.args.tokens.now c.if-left-eq0.true ∙ c.no_type.ensures

pub types::lower_type-returns : goal.types::lower_type-returns
types::lower_type-returns t c =
    rw (lower_is c.args.left c.args.tokens.now c.if-left-eq0.false) c.type_expr.ensures

pub instances::arg_row-returns-in-Ok : goal.instances::arg_row-returns-in-Ok
instances::arg_row-returns-in-Ok t c =
    let n = c.args.left in
    fit_closed n is_comma is_close_bracket (λ (x : Fit TypeExpr). false) (λ x. x.0) (λ x. x.1) (type_at n) (type_eats n) c.loop-after.args c.loop-after.fit c.loop-after.rest.now c.in-Ok.after.now (with_fit c.args.found (series (type_list n) (type_at n) c.args.tokens.now)) c.loop-after.invariant.small c.in-Ok.ensures c.loop-after.invariant.same

pub instances::arg_row-returns-in_err-arg : goal.instances::arg_row-returns-in_err-arg
instances::arg_row-returns-in_err-arg t c =
    let n = c.args.left in
    let p = err_from_is_err_and c.from_residual.result c.from_residual.ensures.1 in
    rw (p.1, p.2) (fit_stops n is_comma is_close_bracket (λ (x : Fit TypeExpr). false) (λ x. x.0) (λ x. x.1) (type_at n) (type_eats n) c.loop-after.args c.loop-after.fit c.loop-after.rest.now c.in_default.field-0 c.in_err-arg.field-0.0 (with_fit c.args.found (series (type_list n) (type_at n) c.args.tokens.now)) c.in_default.ensures c.in_err-arg.ensures c.loop-after.invariant.same)

pub instances::arg_row-returns-in-Ok-past : goal.instances::arg_row-returns-in-Ok-past
instances::arg_row-returns-in-Ok-past t c =
    let n = c.args.left in
    rw (c.in_ok-push.ensures.ok, c.min-fit.ensures) (fit_last n is_comma is_close_bracket (λ (x : Fit TypeExpr). false) (λ x. x.0) (λ x. x.1) (type_at n) (type_eats n) c.loop-after.args c.loop-after.fit c.loop-after.rest.now c.in_default.field-0 (c.in_ok-arg.arg, c.in_ok-arg.inside) c.in_ok-arg.behind.now c.in-Ok-past.after.now (with_fit c.args.found (series (type_list n) (type_at n) c.args.tokens.now)) c.loop-after.invariant.small c.in_default.ensures c.in_ok-arg.ensures c.in-Ok-past.ensures c.loop-after.invariant.same)

pub instances::arg_row-returns-in_err-next : goal.instances::arg_row-returns-in_err-next
instances::arg_row-returns-in_err-next t c =
    let n = c.args.left in
    let p = err_from_is_err_and c.from_residual-in_err-next.result c.from_residual-in_err-next.ensures.1 in
    rw (p.1, p.2) (fit_stuck n is_comma is_close_bracket (λ (x : Fit TypeExpr). false) (λ x. x.0) (λ x. x.1) (type_at n) (type_eats n) c.loop-after.args c.loop-after.fit c.loop-after.rest.now c.in_default.field-0 (c.in_ok-arg.arg, c.in_ok-arg.inside) c.in_ok-arg.behind.now c.in_default-past.field-0 c.in_err-next.field-0.0 (with_fit c.args.found (series (type_list n) (type_at n) c.args.tokens.now)) c.in_default.ensures c.in_ok-arg.ensures c.in_default-past.ensures c.in_err-next.ensures c.loop-after.invariant.same)

pub instances::arg_row-loop-after-smaller : goal.instances::arg_row-loop-after-smaller
instances::arg_row-loop-after-smaller t c =
    let n = c.args.left in
    rw c.onward-rest.ensures (series_smaller is_comma (type_at n) (type_eats n) c.loop-after.rest.now (c.in_ok-arg.arg, c.in_ok-arg.inside) c.in_ok-arg.behind.now c.in_ok-next.next.now c.in_ok-arg.ensures c.in_ok-next.ensures)

pub instances::arg_row-loop-after-preserved : goal.instances::arg_row-loop-after-preserved
instances::arg_row-loop-after-preserved t c =
    let n = c.args.left in
    let less : min c.loop-after.fit c.in_ok-arg.inside ≤ n = omega (arith, c.loop-after.invariant.small) in
    rw (c.onward-rest.ensures, c.in_ok-push.ensures.ok, c.min-fit.ensures) (record {
      small = less;
      same = fit_goes n is_comma is_close_bracket (λ (x : Fit TypeExpr). false) (λ x. x.0) (λ x. x.1) (type_at n) (type_eats n) c.loop-after.args c.loop-after.fit c.loop-after.rest.now c.in_default.field-0 (c.in_ok-arg.arg, c.in_ok-arg.inside) c.in_ok-arg.behind.now c.in_ok-next.next.now c.in_default-past.field-0 (with_fit c.args.found (series (type_list n) (type_at n) c.args.tokens.now)) refl c.in_default.ensures c.in_ok-arg.ensures c.in_default-past.ensures c.in_ok-next.ensures c.loop-after.invariant.same;
    })

pub params::first_type-returns : goal.params::first_type-returns
params::first_type-returns t c =
    let n = c.args.left in
    types_give c.param_end.result (λ x. (x.0, x.1.now)) c.args.variadic n c.args.names.now c.args.name c.args.tokens.now (c.in_ok-ty.ty, c.in_ok-ty.fit) c.in_ok-ty.rest.now c.in_ok-params.params c.bare_type-param.result
    c.if-left-eq0.false c.in_ok-ty.ensures c.in_ok-params.ensures c.bare_type-param.ensures c.param_end.ensures

pub elements::embedded_elem-returns-in_err-ty : goal.elements::embedded_elem-returns-in_err-ty
elements::embedded_elem-returns-in_err-ty t c =
    let n = c.args.left in
    let p = err_from_is_err_and c.from_residual-in_err-ty.result c.from_residual-in_err-ty.ensures.1 in
    rw (p.1, p.2) (union_stops n c.args.name c.args.tokens.now c.in_ok-first.first c.in_ok-first.rest.now c.in_err-ty.field-0.0 c.if-left-eq0.false c.in_ok-first.ensures c.in_err-ty.ensures)

pub elements::embedded_elem-returns : goal.elements::embedded_elem-returns
elements::embedded_elem-returns t c =
    let n = c.args.left in
    elem_gives n c.args.name c.args.tokens.now c.in_ok-first.first c.in_ok-first.rest.now c.in_ok-ty.ty c.in_ok-ty.fit c.in_ok-ty.rest.now c.if-left-eq0.false c.in_ok-first.ensures c.in_ok-ty.ensures

pub elements::embedded_elem-returns-in_err-first : goal.elements::embedded_elem-returns-in_err-first
elements::embedded_elem-returns-in_err-first t c =
    let n = c.args.left in
    let p = err_from_is_err_and c.from_residual.result c.from_residual.ensures.1 in
    rw (p.1, p.2) (elem_stops n c.args.name c.args.tokens.now c.in_err-first.field-0.0 c.if-left-eq0.false c.in_err-first.ensures)

pub params::first_type-returns-in_err-ty : goal.params::first_type-returns-in_err-ty
params::first_type-returns-in_err-ty t c =
    let n = c.args.left in
    let p = err_from_is_err_and c.from_residual.result c.from_residual.ensures.1 in
    rw (p.1, p.2) (types_stop c.args.variadic n c.args.names.now c.args.name c.args.tokens.now c.in_err-ty.field-0.0 c.if-left-eq0.false c.in_err-ty.ensures)

pub types::embedded_name-returns-in_err-ty : goal.types::embedded_name-returns-in_err-ty
types::embedded_name-returns-in_err-ty t c =
    let n = c.args.left in
    let p = err_from_is_err_and c.from_residual.result c.from_residual.ensures.1 in
    rw (p.1, p.2) (lone_stops n c.args.first c.args.tokens.now c.in_err-ty.field-0.0 c.if-left-eq0.false c.in_err-ty.ensures)

pub types::embedded_name-returns : goal.types::embedded_name-returns
types::embedded_name-returns t c =
    let n = c.args.left in
    rw (lone_gives n c.args.first c.args.tokens.now (c.in_ok-ty.ty, c.in_ok-ty.fit) c.in_ok-ty.rest.now c.if-left-eq0.false c.in_ok-ty.ensures, c.in_ok-tag.ensures, c.new.ensures) refl

pub types::embedded_pointer-returns-in_err-base : goal.types::embedded_pointer-returns-in_err-base
types::embedded_pointer-returns-in_err-base t c =
    let n = c.args.left in
    let p = err_from_is_err_and c.from_residual.result c.from_residual.ensures.1 in
    rw (p.1, p.2) (star_stops n c.args.at c.args.tokens.now c.in_err-base.field-0.0 (λ e. omega arith) (sym c.if-not-starts.ensures) c.in_err-base.ensures)

pub types::embedded_pointer-returns : goal.types::embedded_pointer-returns
types::embedded_pointer-returns t c =
    let n = c.args.left in
    rw (star_gives n c.args.at c.args.tokens.now (c.in_ok-base.base, c.in_ok-base.fit) c.in_ok-base.rest.now (λ e. omega arith) (sym c.if-not-starts.ensures) c.in_ok-base.ensures, c.in_ok-tag.ensures, c.new-2.ensures, c.in_ok-new.ensures) refl

pub instances::type_args-returns : goal.instances::type_args-returns
instances::type_args-returns t c =
    let n = c.args.left in
    args_give c.arg_row.result (λ x. (x.0, x.1.now)) n c.args.tokens.now (c.in_ok-first.first, c.in_ok-first.fit) c.in_ok-first.rest.now c.in_ok-rest.rest.now c.in_default.field-0 c.in_ok-args.args c.min-fit.result
    c.in_ok-first.ensures c.in_default.ensures c.in_ok-rest.ensures c.in_ok-args.ensures c.min-fit.ensures c.arg_row.ensures
