use Rattle.std.proofs.Common.{◌≡◌, map, take}
use Rattle.interface_opener.specs.Numbered.{event_of}
use Rattle.free_interfaces.specs.AllTypes.{share_of, all_after, none_yet}
use Rattle.free_interfaces.proofs.all_types.has_all_types.Given as goal

abbrev pub invariant-loop-event : goal.invariant-loop-event
invariant-loop-event l = share_of l.shares.entries ≡ all_after (map event_of (take l.event-index l.events)) none_yet
