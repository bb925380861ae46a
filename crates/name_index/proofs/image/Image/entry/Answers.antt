use Rattle.name_index.proofs.SortedLemmas.{searchable}
use Rattle.name_index.proofs.OffsetLemmas.{number_below}
use Rattle.name_index.proofs.image.Image.entry.Goals as goal

pub entry-requires : goal.entry-requires
entry-requires c = rw (c.as_slice.ensures.value, c.as_slice-2.ensures.value, c.strings.ensures, ← c.self.view_is) (searchable c.self.inside.own.items c.self.inside.bytes.items c.self.inside.layout c.self.invariant)

pub returns-clause-inside : goal.returns-clause-inside
returns-clause-inside c =
    rw (← c.self.view_is)
    (number_below c.self.inside.own.items c.self.inside.bytes.items c.self.inside.layout c.self.invariant.envelope c.args.k c.entry.result
    (rw (c.as_slice.ensures.value, c.as_slice-2.ensures.value, c.strings.ensures, ← c.self.view_is) at c.entry.ensures))
