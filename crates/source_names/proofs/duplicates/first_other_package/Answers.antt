use Rattle.std.proofs.Common.{refl, sym, ap, map, ◌∙◌}
use Rattle.repeated_names.specs.Firsts.{first_of_two, first}
use Rattle.source_walk.specs.Rows.{written_parsed}
use Rattle.source_names.specs.Duplicates.{differing}
use Rattle.source_names.proofs.RowLaws.{searched_turn, searched_end}
use Rattle.source_names.proofs.duplicates.first_other_package.Goals as goal

pub loop-number-preserved : goal.loop-number-preserved
loop-number-preserved c = searched_turn _ _ _ _ _ _ _ _ c.loop-number.invariant c.loop-number-test.true c.index-files-number.is
    (λ ys. refl) (c.first_of_two-found.ensures ∙ ap (first_of_two c.loop-number.found) c.other_package.ensures)

pub returns : goal.returns
returns c = searched_end _ _ _ _ c.loop-number.invariant c.loop-number-test.false refl
    ∙ ap (λ o. first (differing o (map written_parsed c.args.files.now))) c.in_ok-name.ensures
