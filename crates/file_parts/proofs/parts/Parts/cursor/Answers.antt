use Rattle.std.proofs.Common.{◌∙◌}
use Rattle.file_parts.proofs.Windows.{window_is}
use Rattle.file_parts.proofs.parts.Parts.cursor.Goals as goal

pub returns-clause-left : goal.returns-clause-left
returns-clause-left c =
    let p = c.args.self.now in
    c.cursor_in.ensures.left ∙ window_is p.file.now p.body_at p.body_len c.args.from c.args.to c.requires.order c.requires.inside
