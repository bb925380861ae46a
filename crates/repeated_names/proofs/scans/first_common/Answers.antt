use Rattle.std.proofs.Common.{rules, refl, get_or, ◌-◌}
use Rattle.repeated_names.specs.Tables.{place_in}
use Rattle.repeated_names.proofs.ScanLaws.{common_turn, no_name}
use Rattle.repeated_names.proofs.scans.first_common.Goals as goal

pub loop-left-preserved : goal.loop-left-preserved
loop-left-preserved c = common_turn c.args.names.now c.loop-left.left (get_or c.args.names.now (c.loop-left.left - 1) no_name) no_name (place_in c.args.places.now) _ _ (search rules) refl c.loop-left.invariant (search rules)
