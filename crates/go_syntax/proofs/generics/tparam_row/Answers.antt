use Rattle.std.proofs.Common.{◌++◌, ◌∙◌, ap}
use Rattle.std.proofs.lemmas.List.{append-nil}
use Rattle.std.proofs.lemmas.Result.{err_from_is_err_and}
use Rattle.go_expr_syntax.specs.Reading.{is_comma}
use Rattle.go_syntax.specs.Generics.{tparam_at, tparams, tparams_row}
use Rattle.go_syntax.proofs.GenericReads.{tparam_eats}
use Rattle.go_expr_syntax.proofs.Turns.{gives, series_closed, series_stops, series_last, series_stuck, series_smaller}
use Rattle.go_syntax.proofs.GenericTurns.{tparams_more}
use Rattle.go_syntax.proofs.generics.tparam_row.Goals as goal

pub returns-in-Ok : goal.returns-in-Ok
returns-in-Ok c =
    series_closed tparams (tparam_at c.args.left) (tparam_eats c.args.left) (λ xs. c.loop-after.found ++ xs) c.loop-after.rest.now c.in-Ok.after.now (tparams_row c.args.left c.args.found c.args.tokens.now) c.in-Ok.ensures c.loop-after.invariant
    ∙ ap (λ xs. gives xs c.in-Ok.after.now) (append-nil c.loop-after.found)

pub returns-in_err-tparam : goal.returns-in_err-tparam
returns-in_err-tparam c =
    let p = err_from_is_err_and c.from_residual.result c.from_residual.ensures.1 in
    rw (p.1, p.2) (series_stops tparams (tparam_at c.args.left) (tparam_eats c.args.left) (λ xs. c.loop-after.found ++ xs) c.loop-after.rest.now c.in_default.field-0 c.in_err-tparam.field-0.0 (tparams_row c.args.left c.args.found c.args.tokens.now)
    c.in_default.ensures c.in_err-tparam.ensures c.loop-after.invariant)

pub returns-in-Ok-past : goal.returns-in-Ok-past
returns-in-Ok-past c =
    rw c.in_ok-push.ensures.ok (series_last tparams (tparam_at c.args.left) (tparam_eats c.args.left) (λ xs. c.loop-after.found ++ xs) c.loop-after.rest.now c.in_default.field-0 c.in_ok-tparam.tparam c.in_ok-tparam.behind.now c.in-Ok-past.after.now
    (tparams_row c.args.left c.args.found c.args.tokens.now) c.in_default.ensures c.in_ok-tparam.ensures c.in-Ok-past.ensures c.loop-after.invariant)

pub returns-in_err-next : goal.returns-in_err-next
returns-in_err-next c =
    let p = err_from_is_err_and c.from_residual-in_err-next.result c.from_residual-in_err-next.ensures.1 in
    rw (p.1, p.2) (series_stuck tparams (tparam_at c.args.left) (tparam_eats c.args.left) (λ xs. c.loop-after.found ++ xs) c.loop-after.rest.now c.in_default.field-0 c.in_ok-tparam.tparam c.in_ok-tparam.behind.now c.in_default-past.field-0 c.in_err-next.field-0.0
    (tparams_row c.args.left c.args.found c.args.tokens.now) c.in_default.ensures c.in_ok-tparam.ensures c.in_default-past.ensures c.in_err-next.ensures c.loop-after.invariant)

pub loop-after-smaller : goal.loop-after-smaller
loop-after-smaller c =
    rw c.onward-rest.ensures (series_smaller is_comma (tparam_at c.args.left) (tparam_eats c.args.left) c.loop-after.rest.now c.in_ok-tparam.tparam c.in_ok-tparam.behind.now c.in_ok-next.next.now c.in_ok-tparam.ensures c.in_ok-next.ensures)

pub loop-after-preserved : goal.loop-after-preserved
loop-after-preserved c =
    rw (c.in_ok-push.ensures.ok, c.onward-rest.ensures) (tparams_more c.args.left c.loop-after.found c.loop-after.rest.now c.in_default.field-0 c.in_ok-tparam.tparam c.in_ok-tparam.behind.now c.in_ok-next.next.now c.in_default-past.field-0
    (tparams_row c.args.left c.args.found c.args.tokens.now) c.in_default.ensures c.in_ok-tparam.ensures c.in_default-past.ensures c.in_ok-next.ensures c.loop-after.invariant)
