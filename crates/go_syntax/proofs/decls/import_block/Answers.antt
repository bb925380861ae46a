use Rattle.std.proofs.lemmas.Result.{err_from_is_err_and}
use Rattle.go_expr_syntax.specs.Reading.{row, is_close_paren}
use Rattle.go_syntax.specs.Files.{import_at}
use Rattle.go_syntax.proofs.ImportReads.{import_eats}
use Rattle.go_expr_syntax.proofs.Turns.{turn_closed, turn_stops, turn_last, turn_stuck, turn_more, turn_smaller}
use Rattle.go_syntax.proofs.decls.import_block.Goals as goal

pub returns-in-Ok : goal.returns-in-Ok
returns-in-Ok c =
    turn_closed is_close_paren import_at import_eats c.loop-after.found c.loop-after.rest.now c.in-Ok.after.now (row is_close_paren import_at c.args.tokens.now) c.in-Ok.ensures c.loop-after.invariant

pub returns-in_err-import : goal.returns-in_err-import
returns-in_err-import c =
    let p = err_from_is_err_and c.from_residual.result c.from_residual.ensures.1 in
    rw (p.1, p.2) (turn_stops is_close_paren import_at import_eats c.loop-after.found c.loop-after.rest.now c.in_default.field-0 c.in_err-import.field-0.0 (row is_close_paren import_at c.args.tokens.now)
    c.in_default.ensures c.in_err-import.ensures c.loop-after.invariant)

pub returns-in-Ok-past : goal.returns-in-Ok-past
returns-in-Ok-past c =
    rw c.in_ok-push.ensures.ok (turn_last is_close_paren import_at import_eats c.loop-after.found c.loop-after.rest.now c.in_default.field-0 c.in_ok-import.import c.in_ok-import.behind.now c.in-Ok-past.after.now
    (row is_close_paren import_at c.args.tokens.now) c.in_default.ensures c.in_ok-import.ensures c.in-Ok-past.ensures c.loop-after.invariant)

pub returns-in_err-next : goal.returns-in_err-next
returns-in_err-next c =
    let p = err_from_is_err_and c.from_residual-in_err-next.result c.from_residual-in_err-next.ensures.1 in
    rw (p.1, p.2) (turn_stuck is_close_paren import_at import_eats c.loop-after.found c.loop-after.rest.now c.in_default.field-0 c.in_ok-import.import c.in_ok-import.behind.now c.in_default-past.field-0 c.in_err-next.field-0.0
    (row is_close_paren import_at c.args.tokens.now) c.in_default.ensures c.in_ok-import.ensures c.in_default-past.ensures c.in_err-next.ensures c.loop-after.invariant)

pub loop-after-smaller : goal.loop-after-smaller
loop-after-smaller c =
    rw c.onward-rest.ensures (turn_smaller import_at import_eats c.loop-after.rest.now c.in_ok-import.import c.in_ok-import.behind.now c.in_ok-next.next.now c.in_ok-import.ensures c.in_ok-next.ensures)

pub loop-after-preserved : goal.loop-after-preserved
loop-after-preserved c =
    rw (c.in_ok-push.ensures.ok, c.onward-rest.ensures) (turn_more is_close_paren import_at import_eats c.loop-after.found c.loop-after.rest.now c.in_default.field-0 c.in_ok-import.import c.in_ok-import.behind.now c.in_ok-next.next.now c.in_default-past.field-0
    (row is_close_paren import_at c.args.tokens.now) c.in_default.ensures c.in_ok-import.ensures c.in_default-past.ensures c.in_ok-next.ensures c.loop-after.invariant)
