use Rattle.std.proofs.Common.{refl, flat_map}
use Rattle.source_walk.proofs.ListedRows.{listed_turn, listed_end}
use Rattle.source_names.proofs.WordLaws.{words_at_append}
use Rattle.source_names.proofs.declared.add_all.Goals as goal

pub loop-item-preserved : goal.loop-item-preserved
loop-item-preserved g c = listed_turn _ _ _ _ _ _ _ _ _ c.loop-item.invariant c.loop-item-test.true c.item-item.is
    (λ ys. words_at_append c.args.source.file (g.T.Declares.words c.args.source.bytes.now c.item-item.result) (flat_map (g.T.Declares.words c.args.source.bytes.now) ys)) c.in_ok-add_to.ensures

pub returns : goal.returns
returns g c = listed_end _ _ _ _ _ c.loop-item.invariant c.loop-item-test.false refl
