use Rattle.std.proofs.Common.{◌≡◌, map, drop}
use Rattle.repeated_names.specs.Firsts.{first, first_of_two}
use Rattle.repeated_names.specs.Names.{named, named_group}
use Rattle.repeated_names.specs.Repeats.{clashes, group_clashes}
use Rattle.repeated_names.specs.Tables.{Knows}
use Rattle.repeated_names.proofs.scans.first_clash.Given as goal

abbrev pub invariant-loop-group : goal.invariant-loop-group
invariant-loop-group l = Knows l.places (map named l.names) × (first_of_two l.found (first (group_clashes (map named l.names) (map named_group (drop l.group-index l.groups)))) ≡ first (clashes (map named l.names) (map named_group l.groups)))
