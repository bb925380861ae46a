use Rattle.decl_reader.specs.Progress.{known}
use Rattle.block_reader.specs.Calls.{sections_of}
use Rattle.decl_reader.proofs.ClosedLemmas.{generic_flat, own_is, own_ends, closed_if}
use Rattle.decl_reader.proofs.reading.Reading.close.Goals as goal

pub finish-requires-clause-generic : goal.finish-requires-clause-generic
finish-requires-clause-generic g c =
    let src = sections_of c.args.parts.now in
    let done = known c.args.parts.now c.args.self.now in
    let own = own_is src done c.args.block c.in-Ok.flat c.in-Ok.end c.requires.is_open c.in-Ok.is in
    generic_flat src done c.args.block.start c.args.block.known c.args.block.mentions.items c.in-Ok.flat c.requires.all c.requires.is_open.answered own.0 own.1

pub returns-in-Ok-clause-closed : goal.returns-in-Ok-clause-closed
returns-in-Ok-clause-closed g c =
    closed_if (sections_of c.args.parts.now) _ _ c.args.block c.in-Ok.flat c.in-Ok.end c.finish.result c.in-Ok.is c.finish.ensures.finished

pub finish-requires-clause-inside : goal.finish-requires-clause-inside
finish-requires-clause-inside g c =
    own_ends (sections_of c.args.parts.now) (known c.args.parts.now c.args.self.now) c.args.block c.in-Ok.flat c.in-Ok.end c.requires.is_open c.in-Ok.is
