use Rattle.go_expr_syntax.specs.Names.{names_at, names_more}
use Rattle.go_expr_syntax.proofs.NameTurns.{names_go}
use Rattle.go_expr_syntax.proofs.names.more_names.Goals as goal

pub loop-names-preserved : goal.loop-names-preserved
loop-names-preserved c =
    rw (c.in_ok-push-2.ensures.ok, c.onward-rest.ensures) (names_go c.loop-names.names c.loop-names.rest.now c.in_ok-name.name c.in_ok-name.after.now c.in-Ok.next.now (names_more names_at c.args.first c.args.tokens.now) c.in_ok-name.ensures c.in-Ok.ensures c.loop-names.invariant)
