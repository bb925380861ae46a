use Rattle.std.proofs.Common.{arith}
use Rattle.wire_bytes.proofs.TextLemmas.{is_found, is_none}
use Rattle.wire_bytes.proofs.text.text_at.Goals as goal

pub returns-clause-found : goal.returns-clause-found
returns-clause-found c = is_found c.args.strings.now c.args.offset c.lent_at.result (λ i. omega (arith, c.type_inv.strings i)) c.lent_at.ensures

pub returns-clause-none : goal.returns-clause-none
returns-clause-none c = is_none c.args.strings.now c.args.offset c.lent_at.result c.lent_at.ensures
