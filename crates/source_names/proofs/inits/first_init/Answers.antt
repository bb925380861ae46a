use Rattle.std.proofs.Common.{refl, ap, ◌∙◌}
use Rattle.repeated_names.specs.Firsts.{first_of_two}
use Rattle.source_names.proofs.RowLaws.{searched_turn, searched_end}
use Rattle.source_names.proofs.inits.first_init.Goals as goal

pub loop-name-preserved : goal.loop-name-preserved
loop-name-preserved c = searched_turn _ _ _ _ _ _ _ _ c.loop-name.invariant c.loop-name-test.true refl
    (λ ys. refl) (c.first_of_two-found.ensures ∙ ap (first_of_two c.loop-name.found) c.init_at.ensures)

pub returns : goal.returns
returns c = searched_end _ _ _ _ c.loop-name.invariant c.loop-name-test.false refl
