use Rattle.decl_text.proofs.LineLemmas.{nothing_added}
use Rattle.decl_text.proofs.laws.a_finished_type_adds_nothing.Goals as goal

pub returns : goal.returns
returns c = nothing_added
