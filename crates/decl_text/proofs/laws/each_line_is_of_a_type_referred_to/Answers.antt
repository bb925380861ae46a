use Rattle.decl_text.proofs.MentionLemmas.{lines_owned}
use Rattle.decl_text.proofs.laws.each_line_is_of_a_type_referred_to.Goals as goal

pub returns : goal.returns
returns c = lines_owned
