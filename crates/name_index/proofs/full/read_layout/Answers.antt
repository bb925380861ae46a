use Rattle.std.proofs.Common.{arith}
use Rattle.name_index.proofs.EnvelopeLemmas.{is_envelope}
use Rattle.name_index.proofs.full.read_layout.Goals as goal

pub returns-clause-found : goal.returns-clause-found
returns-clause-found c = is_envelope c.args.own.now c.args.bytes.now c.read_parts.result (λ i. omega (arith, c.type_inv.bytes i)) c.read_parts.ensures.exact
