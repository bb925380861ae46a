use Rattle.decl_reader.proofs.HeadLemmas.{one_lead}
use Rattle.decl_reader.proofs.heads.one_head.Goals as goal

pub returns : goal.returns
returns c = one_lead
