use Rattle.wire_bytes.proofs.SectionLemmas.{text_stands, text_stays}
use Rattle.wire_bytes.proofs.codes.texts_stand.Goals as goal

pub returns-clause-each : goal.returns-clause-each
returns-clause-each c = text_stands

pub returns-clause-still : goal.returns-clause-still
returns-clause-still c = text_stays
