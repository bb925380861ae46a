use Rattle.std.proofs.Common.{refl}
use Rattle.source_walk.proofs.ListedRows.{listed_turn, listed_end}
use Rattle.source_scopes.proofs.objects.add_all.Goals as goal

pub loop-name-preserved : goal.loop-name-preserved
loop-name-preserved c = listed_turn _ _ _ _ _ _ _ _ _ c.loop-name.invariant c.loop-name-test.true refl (λ ys. refl) c.in_ok-add.ensures

pub returns : goal.returns
returns c = listed_end _ _ _ _ _ c.loop-name.invariant c.loop-name-test.false refl
