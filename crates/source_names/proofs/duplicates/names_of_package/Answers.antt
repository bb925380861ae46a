use Rattle.std.proofs.Common.{◌++◌, map, refl, ap, ◌∙◌}
use Rattle.repeated_names.specs.Names.{named}
use Rattle.source_walk.proofs.ListedRows.{listed_turn, listed_end}
use Rattle.source_names.specs.Names.{words_at}
use Rattle.source_names.proofs.WordLaws.{each_top}
use Rattle.source_names.proofs.duplicates.names_of_package.Goals as goal

pub loop-number-preserved : goal.loop-number-preserved
loop-number-preserved c =
    let tops = c.index-files-number.result.tree.tops in
    listed_turn _ _ _ _ _ _ _ _ _ c.loop-number.invariant c.loop-number-test.true c.index-files-number.is (λ ys. refl)
    ((rw c.as_slice.ensures at c.in_ok-add_all.ensures) ∙ ap (λ k. map named c.loop-number.names.items ++ words_at c.loop-number.number k) (each_top c.index-files-number.result.source.now tops 0 tops))

pub returns : goal.returns
returns c = listed_end _ _ _ _ _ c.loop-number.invariant c.loop-number-test.false refl
