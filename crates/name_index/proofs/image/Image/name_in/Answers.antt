use Rattle.name_index.proofs.OffsetLemmas.{name_below}
use Rattle.name_index.proofs.image.Image.name_in.Goals as goal

pub returns-clause-inside : goal.returns-clause-inside
returns-clause-inside c =
    rw (← c.self.view_is)
    (name_below c.self.inside.own.items c.self.inside.bytes.items c.self.inside.layout c.self.invariant.envelope c.args.k c.args.i c.name.result (rw (c.as_slice.ensures.value, c.strings.ensures, ← c.self.view_is) at c.name.ensures))
