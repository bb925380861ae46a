use Rattle.std.proofs.Common.{map}
use Rattle.go_type_syntax.specs.PlainTypes.{types_of, params_of, fields_of, elems_of, terms_of}
use Rattle.source_trees.specs.Trees.{written_type, written_field, written_param, written_elem, written_term}
use Rattle.source_walk.specs.Rows.{scope_in}
use Rattle.source_walk.specs.Visits.{types_visits, params_visits, fields_visits, elems_visits, terms_visits}
use Rattle.source_walk.proofs.RowLaws.{Going}
use Rattle.source_walk.proofs.types.+types.Given as goal

abbrev pub invariant-visit_types-loop-ty : goal.invariant-visit_types-loop-ty
invariant-visit_types-loop-ty g l = Going g.V.Visitor.join (g.V.Visitor.tells l.fn.visitor) (g.V.Visitor.told l.fn.visitor)
    (λ i ts. types_visits l.spot (scope_in l.around.source.now l.around.top.now) (types_of (map (written_type l.around.source.now) ts)))
    l.types l.ty-index (g.V.Visitor.tells l.visitor) (g.V.Visitor.told l.visitor)

abbrev pub invariant-visit_params-loop-param : goal.invariant-visit_params-loop-param
invariant-visit_params-loop-param g l = Going g.V.Visitor.join (g.V.Visitor.tells l.fn.visitor) (g.V.Visitor.told l.fn.visitor)
    (λ i ps. params_visits l.spot (scope_in l.around.source.now l.around.top.now) (params_of (map (written_param l.around.source.now) ps)))
    l.params l.param-index (g.V.Visitor.tells l.visitor) (g.V.Visitor.told l.visitor)

abbrev pub invariant-visit_fields-loop-field : goal.invariant-visit_fields-loop-field
invariant-visit_fields-loop-field g l = Going g.V.Visitor.join (g.V.Visitor.tells l.fn.visitor) (g.V.Visitor.told l.fn.visitor)
    (λ i fs. fields_visits l.spot (scope_in l.around.source.now l.around.top.now) (fields_of (map (written_field l.around.source.now) fs)))
    l.fields l.field-index (g.V.Visitor.tells l.visitor) (g.V.Visitor.told l.visitor)

abbrev pub invariant-visit_elems-loop-elem : goal.invariant-visit_elems-loop-elem
invariant-visit_elems-loop-elem g l = Going g.V.Visitor.join (g.V.Visitor.tells l.fn.visitor) (g.V.Visitor.told l.fn.visitor)
    (λ i es. elems_visits l.spot (scope_in l.around.source.now l.around.top.now) (elems_of (map (written_elem l.around.source.now) es)))
    l.elems l.elem-index (g.V.Visitor.tells l.visitor) (g.V.Visitor.told l.visitor)

abbrev pub invariant-visit_terms-loop-term : goal.invariant-visit_terms-loop-term
invariant-visit_terms-loop-term g l = Going g.V.Visitor.join (g.V.Visitor.tells l.fn.visitor) (g.V.Visitor.told l.fn.visitor)
    (λ i xs. terms_visits l.spot (scope_in l.around.source.now l.around.top.now) (terms_of (map (written_term l.around.source.now) xs)))
    l.terms l.term-index (g.V.Visitor.tells l.visitor) (g.V.Visitor.told l.visitor)
