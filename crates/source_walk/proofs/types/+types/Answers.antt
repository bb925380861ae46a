use Rattle.std.proofs.Common.{map, ap, refl, ◌∙◌}
use Rattle.source_trees.specs.Literals.{literal_of}
use Rattle.source_trees.specs.Trees.{written_expr, written_type, written_param}
use Rattle.source_trees.specs.Words.{word}
use Rattle.go_type_syntax.specs.PlainTypes.{params_of}
use Rattle.go_type_syntax.proofs.PlainTypeLaws.{plain_array, plain_map, plain_having, plain_sharing, plain_of_type}
use Rattle.go_type_syntax.specs.declared.tree.SigExpr.{out-SigExpr}
use Rattle.source_walk.specs.Spots.{inside}
use Rattle.source_walk.specs.Rows.{scope_in}
use Rattle.source_walk.specs.Visits.{expr_visits, type_visits, params_visits, sig_visits, param_visits, field_visits, term_visits, a_type}
use Rattle.source_walk.proofs.SeenLaws.{two_more, two_lists}
use Rattle.source_walk.proofs.RowLaws.{turn}
use Rattle.source_walk.proofs.SigLaws.{plain_sig_out}
use Rattle.source_walk.proofs.types.+types.Goals as goal

pub visit_type-returns-in_ok-visit_expr-in-Array-clause-told : goal.visit_type-returns-in_ok-visit_expr-in-Array-clause-told
visit_type-returns-in_ok-visit_expr-in-Array-clause-told g t c = two_more g.V.Visitor.join _ _ _ _ _ _ _ (type_visits c.args.spot (scope_in c.args.around.now.source.now c.args.around.now.top.now)) (a_type c.args.spot (scope_in c.args.around.now.source.now c.args.around.now.top.now)) _ _
    (expr_visits (inside c.args.spot) (scope_in c.args.around.now.source.now c.args.around.now.top.now) (written_expr c.args.around.now.source.now c.in-Array.length)) (type_visits (inside c.args.spot) (scope_in c.args.around.now.source.now c.args.around.now.top.now) (written_type c.args.around.now.source.now c.in-Array.ty)) _
    (ap (written_type c.args.around.now.source.now) c.in-Array.is ∙ plain_array (word c.args.around.now.source.now) (literal_of c.args.around.now.source.now) _ _ _) refl
    c.in_ok-at_type.ensures.told c.in_ok-at_type.ensures.kept (rw (c.get-in-Array.ensures, c.inside-inside.ensures) at c.in_ok-visit_expr-in-Array.ensures.told) c.in_ok-visit_expr-in-Array.ensures.kept
    (rw (c.get-in-Array-2.ensures, c.inside-inside.ensures) at c.visit_type-in-Array.ensures.told)

pub visit_type-returns-in_ok-visit_type-in-MapOf-clause-told : goal.visit_type-returns-in_ok-visit_type-in-MapOf-clause-told
visit_type-returns-in_ok-visit_type-in-MapOf-clause-told g t c = two_more g.V.Visitor.join _ _ _ _ _ _ _ (type_visits c.args.spot (scope_in c.args.around.now.source.now c.args.around.now.top.now)) (a_type c.args.spot (scope_in c.args.around.now.source.now c.args.around.now.top.now)) _ _
    (type_visits (inside c.args.spot) (scope_in c.args.around.now.source.now c.args.around.now.top.now) (written_type c.args.around.now.source.now c.in-MapOf.key)) (type_visits (inside c.args.spot) (scope_in c.args.around.now.source.now c.args.around.now.top.now) (written_type c.args.around.now.source.now c.in-MapOf.ty)) _
    (ap (written_type c.args.around.now.source.now) c.in-MapOf.is ∙ plain_map (word c.args.around.now.source.now) (literal_of c.args.around.now.source.now) _ _ _) refl
    c.in_ok-at_type.ensures.told c.in_ok-at_type.ensures.kept (rw (c.get-in-MapOf.ensures, c.inside-inside.ensures) at c.in_ok-visit_type-in-MapOf.ensures.told) c.in_ok-visit_type-in-MapOf.ensures.kept
    (rw (c.get-in-MapOf-2.ensures, c.inside-inside.ensures) at c.visit_type-in-MapOf-2.ensures.told)

pub visit_sig-returns-clause-told : goal.visit_sig-returns-clause-told
visit_sig-returns-clause-told g t c = two_lists g.V.Visitor.join _ _ _ _ _ _
    (params_visits c.args.spot (scope_in c.args.around.now.source.now c.args.around.now.top.now) (params_of (map (written_param c.args.around.now.source.now) (out-SigExpr c.args.sig.now).params)))
    (params_visits c.args.spot (scope_in c.args.around.now.source.now c.args.around.now.top.now) (params_of (map (written_param c.args.around.now.source.now) (out-SigExpr c.args.sig.now).results))) _
    (ap (sig_visits c.args.spot (scope_in c.args.around.now.source.now c.args.around.now.top.now)) (plain_sig_out (word c.args.around.now.source.now) (literal_of c.args.around.now.source.now) c.args.sig.now))
    (rw c.as_slice.ensures at c.in_ok-visit_params.ensures.told) c.in_ok-visit_params.ensures.kept (rw c.as_slice-2.ensures at c.visit_params-2.ensures.told)

pub visit_types-loop-ty-preserved : goal.visit_types-loop-ty-preserved
visit_types-loop-ty-preserved g t c = turn g.V.Visitor.join _ _ _ _ _ _ _ _ _ _ _ _ c.loop-ty.invariant c.loop-ty-test.true c.ty-item.is (λ ys. refl) (refl)
    c.in_ok-visit_type.ensures.told c.in_ok-visit_type.ensures.kept

pub visit_params-loop-param-preserved : goal.visit_params-loop-param-preserved
visit_params-loop-param-preserved g t c = turn g.V.Visitor.join _ _ _ _ _ _ _ _ _ _ _ _ c.loop-param.invariant c.loop-param-test.true c.param-item.is (λ ys. refl) (ap (param_visits c.args.spot (scope_in c.args.around.now.source.now c.args.around.now.top.now)) (plain_sharing (word c.args.around.now.source.now) (literal_of c.args.around.now.source.now) _))
    c.in_ok-visit_type.ensures.told c.in_ok-visit_type.ensures.kept

pub visit_fields-loop-field-preserved : goal.visit_fields-loop-field-preserved
visit_fields-loop-field-preserved g t c = turn g.V.Visitor.join _ _ _ _ _ _ _ _ _ _ _ _ c.loop-field.invariant c.loop-field-test.true c.field-item.is (λ ys. refl) (ap (field_visits c.args.spot (scope_in c.args.around.now.source.now c.args.around.now.top.now)) (plain_having (word c.args.around.now.source.now) (literal_of c.args.around.now.source.now) _))
    c.in_ok-visit_type.ensures.told c.in_ok-visit_type.ensures.kept

pub visit_elems-loop-elem-preserved : goal.visit_elems-loop-elem-preserved
visit_elems-loop-elem-preserved g t c = turn g.V.Visitor.join _ _ _ _ _ _ _ _ _ _ _ _ c.loop-elem.invariant c.loop-elem-test.true c.elem-item.is (λ ys. refl) (refl)
    c.in_ok-visit_elem.ensures.told c.in_ok-visit_elem.ensures.kept

pub visit_terms-loop-term-preserved : goal.visit_terms-loop-term-preserved
visit_terms-loop-term-preserved g t c = turn g.V.Visitor.join _ _ _ _ _ _ _ _ _ _ _ _ c.loop-term.invariant c.loop-term-test.true c.term-item.is (λ ys. refl) (ap (term_visits c.args.spot (scope_in c.args.around.now.source.now c.args.around.now.top.now)) (plain_of_type (word c.args.around.now.source.now) (literal_of c.args.around.now.source.now) _))
    c.in_ok-visit_type.ensures.told c.in_ok-visit_type.ensures.kept
