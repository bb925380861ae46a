use Rattle.wire_bytes.proofs.SectionLemmas.{added}
use Rattle.wire_bytes.proofs.strings.append_text.Goals as goal

pub returns-clause-added : goal.returns-clause-added
returns-clause-added c = added _ _ _ _ _ c.spell_uvarint-len.ensures.spelled c.in_ok-extend_from_slice.ensures.items c.in-Ok.ensures.items
