use Rattle.std.proofs.Common.{◌++◌, ◌∙◌, ap}
use Rattle.std.proofs.lemmas.List.{append-nil}
use Rattle.std.proofs.lemmas.Result.{err_from_is_err_and}
use Rattle.go_expr_syntax.specs.Names.{ident_at}
use Rattle.go_syntax.specs.Functions.{idents, idents_row}
use Rattle.go_syntax.proofs.FuncReads.{ident_eats}
use Rattle.go_expr_syntax.proofs.Turns.{gives, series_closed, series_fails, series_last, series_stuck}
use Rattle.go_syntax.proofs.FuncTurns.{idents_more}
use Rattle.go_syntax.proofs.functions.ident_row.Goals as goal

pub returns-in-Ok : goal.returns-in-Ok
returns-in-Ok c =
    series_closed idents ident_at ident_eats (λ xs. c.loop-after.found ++ xs) c.loop-after.rest.now c.in-Ok.after.now (idents_row c.args.found c.args.tokens.now) c.in-Ok.ensures c.loop-after.invariant
    ∙ ap (λ xs. gives xs c.in-Ok.after.now) (append-nil c.loop-after.found)

pub returns-in_err-name : goal.returns-in_err-name
returns-in_err-name c =
    let p = err_from_is_err_and c.from_residual.result c.from_residual.ensures.1 in
    rw (p.1, p.2) (series_fails idents ident_at ident_eats (λ xs. c.loop-after.found ++ xs) c.loop-after.rest.now c.in_default.field-0 c.in_err-name.field-0.0 (idents_row c.args.found c.args.tokens.now)
    c.in_default.ensures c.in_err-name.ensures c.loop-after.invariant)

pub returns-in-Ok-past : goal.returns-in-Ok-past
returns-in-Ok-past c =
    rw c.in_ok-push.ensures.ok (series_last idents ident_at ident_eats (λ xs. c.loop-after.found ++ xs) c.loop-after.rest.now c.in_default.field-0 c.in_ok-name.name c.in_ok-name.behind.now c.in-Ok-past.after.now
    (idents_row c.args.found c.args.tokens.now) c.in_default.ensures c.in_ok-name.ensures c.in-Ok-past.ensures c.loop-after.invariant)

pub returns-in_err-next : goal.returns-in_err-next
returns-in_err-next c =
    let p = err_from_is_err_and c.from_residual-in_err-next.result c.from_residual-in_err-next.ensures.1 in
    rw (p.1, p.2) (series_stuck idents ident_at ident_eats (λ xs. c.loop-after.found ++ xs) c.loop-after.rest.now c.in_default.field-0 c.in_ok-name.name c.in_ok-name.behind.now c.in_default-past.field-0 c.in_err-next.field-0.0
    (idents_row c.args.found c.args.tokens.now) c.in_default.ensures c.in_ok-name.ensures c.in_default-past.ensures c.in_err-next.ensures c.loop-after.invariant)

pub loop-after-preserved : goal.loop-after-preserved
loop-after-preserved c =
    rw (c.in_ok-push.ensures.ok, c.onward-rest.ensures) (idents_more c.loop-after.found c.loop-after.rest.now c.in_default.field-0 c.in_ok-name.name c.in_ok-name.behind.now c.in_ok-next.next.now c.in_default-past.field-0
    (idents_row c.args.found c.args.tokens.now) c.in_default.ensures c.in_ok-name.ensures c.in_default-past.ensures c.in_ok-next.ensures c.loop-after.invariant)
