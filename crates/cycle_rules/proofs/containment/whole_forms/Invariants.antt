use Rattle.std.proofs.Common.{take}
use Rattle.cycle_rules.specs.Containment.{AreWhole}
use Rattle.cycle_rules.proofs.containment.whole_forms.Given as goal

abbrev pub invariant-loop-owner : goal.invariant-loop-owner
invariant-loop-owner l = AreWhole (take l.owner l.shapes) l.places.items
