use Rattle.std.proofs.Common.{refl}
use Rattle.source_walk.proofs.ListedRows.{listed_turn, listed_end}
use Rattle.source_scopes.proofs.objects.add_tops.Goals as goal

pub loop-top-preserved : goal.loop-top-preserved
loop-top-preserved c = listed_turn _ _ _ _ _ _ _ _ _ c.loop-top.invariant c.loop-top-test.true c.top-item.is (λ ys. refl) (c.in_ok-add_top.ensures _ _)

pub returns : goal.returns
returns c = listed_end _ _ _ _ _ c.loop-top.invariant c.loop-top-test.false refl
