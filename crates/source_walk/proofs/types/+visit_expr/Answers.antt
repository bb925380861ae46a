use Rattle.std.proofs.Common.{ap, refl, ◌∙◌}
use Rattle.source_trees.specs.Literals.{literal_of}
use Rattle.source_trees.specs.Trees.{written_expr}
use Rattle.source_trees.specs.Words.{word}
use Rattle.go_expr_syntax.proofs.PlainLaws.{plain_binary}
use Rattle.source_walk.specs.Rows.{scope_in}
use Rattle.source_walk.specs.Visits.{expr_visits, an_expr}
use Rattle.source_walk.proofs.SeenLaws.{two_more}
use Rattle.source_walk.proofs.types.+visit_expr.Goals as goal

pub returns-in_ok-visit_expr-in-Binary-clause-told : goal.returns-in_ok-visit_expr-in-Binary-clause-told
returns-in_ok-visit_expr-in-Binary-clause-told g t c = two_more g.V.Visitor.join _ _ _ _ _ _ _ (expr_visits c.args.spot (scope_in c.args.around.now.source.now c.args.around.now.top.now)) (an_expr c.args.spot (scope_in c.args.around.now.source.now c.args.around.now.top.now)) _ _
    (expr_visits c.args.spot (scope_in c.args.around.now.source.now c.args.around.now.top.now) (written_expr c.args.around.now.source.now c.in-Binary.left)) (expr_visits c.args.spot (scope_in c.args.around.now.source.now c.args.around.now.top.now) (written_expr c.args.around.now.source.now c.in-Binary.right)) _
    (ap (written_expr c.args.around.now.source.now) c.in-Binary.is ∙ plain_binary (word c.args.around.now.source.now) (literal_of c.args.around.now.source.now) _ _ _ _ _) refl
    c.in_ok-at_expr.ensures.told c.in_ok-at_expr.ensures.kept (rw (c.get-in-Binary.ensures) at c.in_ok-visit_expr-in-Binary.ensures.told) c.in_ok-visit_expr-in-Binary.ensures.kept
    (rw (c.get-in-Binary-2.ensures) at c.visit_expr-in-Binary-2.ensures.told)
