use Rattle.std.proofs.Common.{arith}
use Rattle.wire_bytes.proofs.Spellings.{is_number, is_cut, is_wrong}
use Rattle.wire_bytes.proofs.number.leading_uvarint.Goals as goal

pub returns-clause-found : goal.returns-clause-found
returns-clause-found c = is_number c.args.bytes.now c.sum_of_groups.result (λ i. omega (arith, c.type_inv.bytes i)) c.sum_of_groups.ensures.exact

pub returns-clause-cut : goal.returns-clause-cut
returns-clause-cut c = is_cut c.args.bytes.now c.sum_of_groups.result (λ i. omega (arith, c.type_inv.bytes i)) c.sum_of_groups.ensures.exact

pub returns-clause-wrong : goal.returns-clause-wrong
returns-clause-wrong c = is_wrong c.args.bytes.now c.sum_of_groups.result c.sum_of_groups.ensures.exact
