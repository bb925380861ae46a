use Rattle.std.proofs.Common.{arith}
use Rattle.decl_reader.proofs.ListedLemmas.{starts_next}
use Rattle.decl_reader.proofs.places.listed.next_start.Goals as goal

pub returns : goal.returns
returns c = starts_next c.args.begun c.args.listed.now _ (omega (arith, c.if-begun-listed.false, c.requires.within))
