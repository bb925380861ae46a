use Rattle.std.proofs.Common.{arith}
use Rattle.wire_bytes.proofs.WholeLemmas.{is_long}
use Rattle.wire_bytes.proofs.whole.judge.Goals as goal

pub returns-clause-spelled : goal.returns-clause-spelled
returns-clause-spelled c = is_long c.args.signed c.args.max c.args.at c.args.prefix c.args.size.now c.value_of_size.result (λ i. omega (arith, c.type_inv.size i)) (omega arith) c.requires.length c.requires.behind c.requires.above c.value_of_size.ensures
