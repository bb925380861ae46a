use Rattle.std.proofs.Common.{◌<◌, length}
use Rattle.type_terms.specs.Arenas.{Extends}
use Rattle.set_bench.proofs.chain.Given as goal

abbrev pub invariant-loop : goal.invariant-loop
invariant-loop l = (l.last < length l.arena.nodes) × Extends l.initial.arena l.arena
