use Rattle.written_nodes.proofs.MadeLemmas.{pool_later}
use Rattle.written_nodes.proofs.laws.a_longer_arena_keeps_what_was_made.Goals as goal

pub returns : goal.returns
returns c = λ old new pool grown was. pool_later old new pool.nodes.nodes pool.made grown was
