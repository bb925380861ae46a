use Rattle.decl_reader.proofs.ListedLemmas.{slot_is}
use Rattle.decl_reader.proofs.places.listed.slot.Goals as goal

pub returns-then-is_new : goal.returns-then-is_new
returns-then-is_new c = slot_is c.args.offset c.count_begun-begun.result c.args.listed.now c.count_begun-begun.ensures (c.is_new.ensures c.if-is_new.true)
