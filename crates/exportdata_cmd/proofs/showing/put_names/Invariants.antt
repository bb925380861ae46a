use Rattle.std.proofs.Common.{take}
use Rattle.std.specs.List.{concat, flat_map}
use Rattle.outside.specs.Sinks.{Wrote}
use Rattle.exportdata_cmd.proofs.LookedUpLemmas.{pairs, lines_of_pair}
use Rattle.exportdata_cmd.proofs.showing.put_names.Given as goal

-- the texts of what was found before the place were put
abbrev pub invariant-loop-k : goal.invariant-loop-k
invariant-loop-k g l =
    Wrote (g.S.Sink.state l.fn.out) (g.S.Sink.state l.out)
    (concat (flat_map (lines_of_pair l.arena.nodes) (take l.k (pairs l.names l.found))))
