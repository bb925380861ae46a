use Rattle.std.proofs.Common.{◌+◌, sym, subst}
use Rattle.cycle_rules.specs.Cycles.{AreFirstKinds}
use Rattle.cycle_rules.proofs.RankLemmas.{kinds_more}
use Rattle.cycle_rules.proofs.cycles.Graphs.kinds.Goals as goal

pub loop-item-preserved : goal.loop-item-preserved
loop-item-preserved c =
    let shapes = c.args.self.now.shapes.now in
    subst (AreFirstKinds shapes (c.loop-item.item + 1)) (sym c.in_ok-push.ensures.items) (kinds_more shapes c.loop-item.item c.loop-item.kinds.items c.kind_of.result c.loop-item.invariant c.kind_of.ensures)
