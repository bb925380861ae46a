use Rattle.wire_bytes.proofs.TextLemmas.{same_text}
use Rattle.wire_bytes.proofs.laws.one_text.Goals as goal

pub returns : goal.returns
returns c = same_text
