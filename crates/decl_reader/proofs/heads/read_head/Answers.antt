use Rattle.decl_reader.proofs.HeadLemmas.{is_head, is_no_head}
use Rattle.decl_reader.proofs.heads.read_head.Goals as goal

pub returns-clause-found : goal.returns-clause-found
returns-clause-found c = is_head c.args.parts.now c.args.offset c.lead_from.result c.lead_from.ensures.bytes c.lead_from.ensures.exact

pub returns-clause-none : goal.returns-clause-none
returns-clause-none c = is_no_head c.args.parts.now c.args.offset c.lead_from.result c.lead_from.ensures.exact
