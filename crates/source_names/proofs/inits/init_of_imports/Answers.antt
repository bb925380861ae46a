use Rattle.std.proofs.Common.{refl, ap, ◌∙◌}
use Rattle.repeated_names.specs.Firsts.{first_of_two}
use Rattle.source_names.proofs.RowLaws.{searched_turn, searched_end}
use Rattle.source_names.proofs.inits.init_of_imports.Goals as goal

pub loop-import-preserved : goal.loop-import-preserved
loop-import-preserved c = searched_turn _ _ _ _ _ _ _ _ c.loop-import.invariant c.loop-import-test.true c.import-item.is
    (λ ys. refl) (c.first_of_two-found.ensures ∙ ap (first_of_two c.loop-import.found) c.init_of_import.ensures)

pub returns : goal.returns
returns c = searched_end _ _ _ _ c.loop-import.invariant c.loop-import-test.false refl
