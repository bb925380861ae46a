use Rattle.block_reader.proofs.FileBytes.{holds_bytes}
use Rattle.decl_reader.proofs.heads.cursor_at.Goals as goal

pub returns-clause-bytes : goal.returns-clause-bytes
returns-clause-bytes c = holds_bytes c.args.parts.now c.cursor.ensures.bytes
