use Rattle.std.proofs.Common.{arith, ◌-◌}
use Rattle.decl_reader.proofs.ListedLemmas.{last_covers}
use Rattle.decl_reader.proofs.places.listed.covers.Goals as goal

pub returns : goal.returns
returns c = last_covers c.args.offset c.args.begun (c.args.begun - 1) c.args.listed.now _ (omega (arith, c.if-begun-eq0.false)) c.requires.within
