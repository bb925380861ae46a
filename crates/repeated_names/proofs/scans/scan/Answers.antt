use Rattle.std.proofs.Common.{rules, refl, get_or, ◌-◌}
use Rattle.repeated_names.specs.Tables.{place_in}
use Rattle.repeated_names.proofs.ScanLaws.{scan_turn, no_name}
use Rattle.repeated_names.proofs.scans.scan.Goals as goal

pub loop-left-preserved : goal.loop-left-preserved
loop-left-preserved c = scan_turn c.args.names.now c.loop-left.left (get_or c.args.names.now (c.loop-left.left - 1) no_name) no_name (place_in c.loop-left.places) (place_in c.note.new.places) _ _ _ (search rules) refl c.loop-left.invariant c.in_ok-again.ensures.met c.in_ok-again.ensures.noted c.first_of_two-repeat.ensures
