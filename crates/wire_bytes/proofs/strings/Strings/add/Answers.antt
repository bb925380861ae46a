use Rattle.std.proofs.Common.{arith}
use Rattle.wire_bytes.proofs.SectionLemmas.{is_standing, is_kept}
use Rattle.wire_bytes.proofs.strings.Strings.add.Goals as goal

pub returns-clause-stands : goal.returns-clause-stands
returns-clause-stands c = is_standing c.mention.result c.mention.new.self c.args.text.now (omega arith) c.mention.ensures.offset

pub returns-clause-kept : goal.returns-clause-kept
returns-clause-kept c = is_kept c.mention.result c.args.self.now c.mention.new.self c.args.text.now c.mention.ensures.texts
