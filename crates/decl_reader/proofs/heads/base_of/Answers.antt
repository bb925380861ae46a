use Rattle.std.proofs.Common.{sym, ◌∙◌}
use Rattle.block_reader.specs.Calls.{sections_of}
use Rattle.decl_reader.proofs.TypeOffLemmas.{base_is}
use Rattle.decl_reader.proofs.heads.base_of.Goals as goal

pub returns-in-At : goal.returns-in-At
returns-in-At c = c.name_at.ensures ∙ sym (base_is c.args.number c.in-At.offset c.in-At.ensures (sections_of c.args.parts.now))
