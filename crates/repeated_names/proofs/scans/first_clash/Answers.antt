use Rattle.std.proofs.Common.{map, ap, sym, ◌∙◌}
use Rattle.repeated_names.specs.Firsts.{first, first_of_two}
use Rattle.repeated_names.specs.Names.{named, named_group}
use Rattle.repeated_names.specs.Repeats.{repeats, group_clashes}
use Rattle.repeated_names.proofs.FirstLaws.{first_append}
use Rattle.repeated_names.proofs.ScanLaws.{clash_turn}
use Rattle.repeated_names.proofs.scans.first_clash.Goals as goal

pub loop-group-init : goal.loop-group-init
loop-group-init c = (
  c.in_ok-places.ensures.knows,
  ap (λ k. first_of_two k (first (group_clashes (map named c.args.names.now) (map named_group c.args.groups.now)))) c.in_ok-places.ensures.repeat
      ∙ sym (first_append (repeats (map named c.args.names.now)) (group_clashes (map named c.args.names.now) (map named_group c.args.groups.now))),
)

pub loop-group-preserved : goal.loop-group-preserved
loop-group-preserved c = (
  c.loop-group.invariant.0,
  clash_turn (map named c.args.names.now) c.args.groups.now c.loop-group.group-index c.group-item.result _ _ _ _ c.loop-group-test.true c.group-item.is c.loop-group.invariant.1
      (rw c.as_slice.ensures.value at (c.in_ok-first_of_group.ensures (map named c.args.names.now) c.loop-group.invariant.0)) c.first_of_two-found.ensures,
)
