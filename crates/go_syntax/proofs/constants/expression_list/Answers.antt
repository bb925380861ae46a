use Rattle.std.proofs.lemmas.Result.{err_from_is_err_and}
use Rattle.go_syntax.specs.Constants.{exprs_at}
use Rattle.go_syntax.proofs.ConstTurns.{exprs_stop, exprs_done, exprs_go, exprs_smaller}
use Rattle.go_syntax.proofs.constants.expression_list.Goals as goal

pub returns-in_err-value : goal.returns-in_err-value
returns-in_err-value c =
    let p = err_from_is_err_and c.from_residual.result c.from_residual.ensures.1 in
    rw (p.1, p.2) (exprs_stop c.args.left c.loop-found.found c.loop-found.rest.now c.in_err-value.field-0.0 (exprs_at c.args.left c.args.tokens.now) c.in_err-value.ensures c.loop-found.invariant)

pub returns-in_default : goal.returns-in_default
returns-in_default c =
    rw c.in_ok-push.ensures.ok (exprs_done c.args.left c.loop-found.found c.loop-found.rest.now c.in_ok-value.value c.in_ok-value.field-0-0-1 c.in_ok-value.after.now c.in_default.field-0 (exprs_at c.args.left c.args.tokens.now)
    c.in_ok-value.ensures c.in_default.ensures c.loop-found.invariant)

pub loop-found-smaller : goal.loop-found-smaller
loop-found-smaller c =
    rw c.onward-rest.ensures (exprs_smaller c.args.left c.loop-found.rest.now c.in_ok-value.value c.in_ok-value.field-0-0-1 c.in_ok-value.after.now c.in-Ok.next.now c.in_ok-value.ensures c.in-Ok.ensures)

pub loop-found-preserved : goal.loop-found-preserved
loop-found-preserved c =
    rw (c.in_ok-push.ensures.ok, c.onward-rest.ensures) (exprs_go c.args.left c.loop-found.found c.loop-found.rest.now c.in_ok-value.value c.in_ok-value.field-0-0-1 c.in_ok-value.after.now c.in-Ok.next.now (exprs_at c.args.left c.args.tokens.now)
    c.in_ok-value.ensures c.in-Ok.ensures c.loop-found.invariant)
