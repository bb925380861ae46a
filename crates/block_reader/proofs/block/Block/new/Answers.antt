use Rattle.block_reader.proofs.FileBytes.{holds_bytes}
use Rattle.block_reader.proofs.block.Block.new.Goals as goal

pub returns-clause-bytes : goal.returns-clause-bytes
returns-clause-bytes c = holds_bytes c.args.parts.now c.cursor.ensures.bytes
