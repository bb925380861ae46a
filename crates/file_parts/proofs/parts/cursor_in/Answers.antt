use Rattle.std.proofs.Common.{arith}
use Rattle.file_parts.proofs.parts.cursor_in.Goals as goal

pub returns-clause-bytes : goal.returns-clause-bytes
returns-clause-bytes c = λ i. omega (arith, c.type_inv.file i)
