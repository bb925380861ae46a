use Rattle.std.proofs.Common.{take}
use Rattle.std.specs.List.{concat, flat_map}
use Rattle.exportdata_cmd.specs.Listing.{lines_of_package}
use Rattle.outside.specs.Sinks.{Wrote}
use Rattle.exportdata_cmd.proofs.listing.put_packages.Given as goal

-- the lines of the packages before the place were put
abbrev pub invariant-loop-k : goal.invariant-loop-k
invariant-loop-k g l =
    Wrote (g.S.Sink.state l.fn.out) (g.S.Sink.state l.out)
    (concat (flat_map lines_of_package (take l.k l.image.packages)))
