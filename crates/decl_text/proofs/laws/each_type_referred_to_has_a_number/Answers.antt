use Rattle.decl_text.proofs.MentionLemmas.{referred_has}
use Rattle.decl_text.proofs.laws.each_type_referred_to_has_a_number.Goals as goal

pub returns : goal.returns
returns c = referred_has
