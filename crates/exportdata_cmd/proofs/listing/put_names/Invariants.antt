use Rattle.std.proofs.Common.{take}
use Rattle.std.specs.List.{concat, flat_map}
use Rattle.exportdata_cmd.specs.Listing.{entries_at}
use Rattle.outside.specs.Sinks.{Wrote}
use Rattle.exportdata_cmd.proofs.ListingLemmas.{line_of_name}
use Rattle.exportdata_cmd.proofs.listing.put_names.Given as goal

-- the lines of the names before the place were put
abbrev pub invariant-loop-j : goal.invariant-loop-j
invariant-loop-j g l =
    Wrote (g.S.Sink.state l.fn.out) (g.S.Sink.state l.out)
    (concat (flat_map line_of_name (take l.j (entries_at l.image.packages l.k))))
