use Rattle.std.proofs.Common.{refl}
use Rattle.source_walk.proofs.ListedRows.{listed_turn, listed_end}
use Rattle.source_scopes.proofs.parameters.add_tparams.Goals as goal

pub loop-tparam-preserved : goal.loop-tparam-preserved
loop-tparam-preserved c = listed_turn _ _ _ _ _ _ _ _ _ c.loop-tparam.invariant c.loop-tparam-test.true c.tparam-item.is (λ ys. refl) (rw c.as_slice.ensures at c.in_ok-add_names.ensures)

pub returns : goal.returns
returns c = listed_end _ _ _ _ _ c.loop-tparam.invariant c.loop-tparam-test.false refl
