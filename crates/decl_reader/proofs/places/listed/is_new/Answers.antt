use Rattle.std.proofs.Common.{arith, ltb-true, ◌-◌}
use Rattle.decl_reader.proofs.ListedLemmas.{new_front}
use Rattle.decl_reader.proofs.places.listed.is_new.Goals as goal

pub returns : goal.returns
returns c less =
    new_front c.args.offset c.args.listed.now c.requires.order c.args.begun (c.args.begun - 1) c.requires.divided (omega (arith, c.if-begun-eq0.false)) _ (ltb-true _ c.args.offset less)
