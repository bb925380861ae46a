use Rattle.name_index.proofs.SortedLemmas.{searchable}
use Rattle.name_index.proofs.OffsetLemmas.{found_below}
use Rattle.name_index.proofs.image.Image.look_up.Goals as goal

pub look_up-requires : goal.look_up-requires
look_up-requires c = rw (c.as_slice.ensures.value, c.as_slice-2.ensures.value, c.strings.ensures, ← c.self.view_is) (searchable c.self.inside.own.items c.self.inside.bytes.items c.self.inside.layout c.self.invariant)

pub returns-clause-inside : goal.returns-clause-inside
returns-clause-inside c =
    rw (← c.self.view_is)
    (found_below c.self.inside.own.items c.self.inside.bytes.items c.self.inside.layout c.self.invariant.envelope c.args.path.now c.args.name.now c.look_up.result
    (rw (c.as_slice.ensures.value, c.as_slice-2.ensures.value, c.strings.ensures, ← c.self.view_is) at c.look_up.ensures.found))
