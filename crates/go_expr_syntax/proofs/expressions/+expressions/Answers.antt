use Rattle.std.proofs.Common.{◌-◌, ◌∙◌, arith}
use Rattle.std.proofs.lemmas.Result.{err_from_is_err_and}
use Rattle.go_expr_syntax.specs.Operands.{climb, expr_of}
use Rattle.go_expr_syntax.proofs.ExprTurns.{climb_stops, climb_deep, climb_fails, climb_goes, level_stops, levels_stop, expr_none, expr_some}
use Rattle.go_expr_syntax.proofs.expressions.+expressions.Goals as goal

pub expression-returns-then-left-eq0 : goal.expression-returns-then-left-eq0
expression-returns-then-left-eq0 t c = expr_none c.args.left c.args.level c.args.tokens.now c.if-left-eq0.true ∙ c.no_expr.ensures

pub expression-returns : goal.expression-returns
expression-returns t c = rw (expr_some c.args.left c.args.level c.args.tokens.now c.if-left-eq0.false) c.up_to_level.ensures

pub operators-returns-in_default : goal.operators-returns-in_default
operators-returns-in_default t c =
    let inner = expr_of c.args.left (c.args.level - 1) in
    climb_stops c.args.level inner (c.loop-op.found, c.loop-op.spare) c.loop-op.rest.now c.in_default.field-0 (climb c.args.level inner c.args.first c.args.tokens.now) c.in_default.ensures c.loop-op.invariant

pub operators-returns-then-spare-eq0 : goal.operators-returns-then-spare-eq0
operators-returns-then-spare-eq0 t c =
    let inner = expr_of c.args.left (c.args.level - 1) in
    rw c.too_deep.ensures (climb_deep c.args.level inner c.loop-op.found c.loop-op.spare c.loop-op.rest.now c.in-Ok.op c.in-Ok.after.now (climb c.args.level inner c.args.first c.args.tokens.now) c.in-Ok.ensures c.if-spare-eq0.true c.loop-op.invariant)

pub operators-returns-in_err-right : goal.operators-returns-in_err-right
operators-returns-in_err-right t c =
    let inner = expr_of c.args.left (c.args.level - 1) in
    let p = err_from_is_err_and c.from_residual.result c.from_residual.ensures.1 in
    rw (p.1, p.2) (climb_fails c.args.level inner c.loop-op.found c.loop-op.spare c.loop-op.rest.now c.in-Ok.op c.in-Ok.after.now c.in_err-right.field-0.0 (climb c.args.level inner c.args.first c.args.tokens.now)
    c.in-Ok.ensures c.if-spare-eq0.false c.in_err-right.ensures c.loop-op.invariant)

pub operators-loop-op-preserved : goal.operators-loop-op-preserved
operators-loop-op-preserved t c =
    let inner = expr_of c.args.left (c.args.level - 1) in
    rw (c.onward-rest.ensures, c.in_ok-found.ensures, c.start.ensures, c.min-spare.ensures) (climb_goes c.args.level inner c.loop-op.found c.loop-op.spare c.loop-op.rest.now c.in-Ok.op c.in-Ok.after.now (c.in_ok-right.right, c.in_ok-right.other) c.in_ok-right.next.now
    (climb c.args.level inner c.args.first c.args.tokens.now) c.in-Ok.ensures c.if-spare-eq0.false c.in_ok-right.ensures c.loop-op.invariant)

pub up_to_level-returns-in_err-found : goal.up_to_level-returns-in_err-found
up_to_level-returns-in_err-found t c =
    let n = c.args.left in
    let p = err_from_is_err_and c.from_residual.result c.from_residual.ensures.1 in
    rw (p.1, p.2) (level_stops n (expr_of n) 0 c.args.level c.args.tokens.now c.in_err-found.field-0.0 (omega arith) c.in_err-found.ensures)

pub up_to_level-returns-in_err-more : goal.up_to_level-returns-in_err-more
up_to_level-returns-in_err-more t c =
    let n = c.args.left in
    let p = err_from_is_err_and c.from_residual-in_err-more.result c.from_residual-in_err-more.ensures.1 in
    rw (p.1, p.2) (levels_stop n (expr_of n) c.loop-reached.reached c.args.level c.args.tokens.now c.loop-reached.found c.loop-reached.rest.now c.in_err-more.field-0.0 c.loop-reached.invariant.1 c.loop-reached-test.true c.in_err-more.ensures)
