use Rattle.std.proofs.Common.{map, refl}
use Rattle.source_trees.specs.Trees.{written_expr, type_if_any}
use Rattle.source_walk.specs.Visits.{numbered, type_if_any_visits, value_visits}
use Rattle.source_walk.specs.Rows.{scope_in}
use Rattle.source_walk.proofs.SeenLaws.{two_lists}
use Rattle.source_walk.proofs.tops.visit_constants.Goals as goal

pub returns-clause-told : goal.returns-clause-told
returns-clause-told g c = two_lists g.V.Visitor.join _ _ _ _ _ _
    (type_if_any_visits c.args.spot (scope_in c.args.around.now.source.now c.args.around.now.top.now) (type_if_any c.args.around.now.source.now c.args.found.now.ty))
    (numbered (value_visits c.args.spot (scope_in c.args.around.now.source.now c.args.around.now.top.now)) 0 (map (written_expr c.args.around.now.source.now) c.args.found.now.values)) _
    refl c.in_ok-visit_type_if_any.ensures.told c.in_ok-visit_type_if_any.ensures.kept (rw c.as_slice.ensures at c.visit_values.ensures.told)
