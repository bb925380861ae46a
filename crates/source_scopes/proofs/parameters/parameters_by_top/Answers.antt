use Rattle.std.proofs.Common.{[], ◌∷◌, ◌++◌, map, refl, ap, ◌∙◌}
use Rattle.std.proofs.lemmas.List.{map-append}
use Rattle.source_walk.proofs.ListedRows.{listed_turn, listed_end}
use Rattle.source_scopes.specs.Imports.{parameter_table}
use Rattle.source_scopes.proofs.parameters.parameters_by_top.Goals as goal

pub loop-top-preserved : goal.loop-top-preserved
loop-top-preserved c = listed_turn _ _ _ _ _ _ _ _ _ c.loop-top.invariant c.loop-top-test.true c.top-item.is (λ ys. refl)
    (ap (map parameter_table) c.in_ok-push.ensures.items ∙ map-append parameter_table _ _
    ∙ ap (λ k. map parameter_table c.loop-top.tables.items ++ k ∷ []) (c.in_ok-parameters_of.ensures c.args.tops.now c.loop-top.top-index))

pub returns : goal.returns
returns c = listed_end _ _ _ _ _ c.loop-top.invariant c.loop-top-test.false refl
