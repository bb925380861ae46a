use Rattle.std.proofs.Common.{length, arith}
use Rattle.file_parts.specs.FileParts.{body_of}
use Rattle.decl_reader.specs.Finished.{type_at}
use Rattle.decl_reader.specs.Progress.{remembered}
use Rattle.decl_reader.proofs.JoinedLemmas.{free_known}
use Rattle.decl_reader.proofs.reading.Reading.free_to.Goals as goal

pub returns-then-own-remembered : goal.returns-then-own-remembered
returns-then-own-remembered g c =
    let p = c.args.parts.now in
    let r = c.args.self.now in
    let ds = r.finished.items in
    let less = c.if-own-remembered.true in
    let both = free_known p.version (length (body_of p)) (remembered r) ds r.places c.requires.ready.held.stacked c.requires.ready.own c.args.offset c.args.limit c.requires.order in
    omega (arith, both, less, c.free_to-remembered.ensures r.arena.now.nodes c.requires.ready.held.stacked, c.free_to-own.ensures (type_at p.version (remembered r) ds) c.requires.ready.own.stacked_own)

pub returns-else-own-remembered : goal.returns-else-own-remembered
returns-else-own-remembered g c =
    let p = c.args.parts.now in
    let r = c.args.self.now in
    let ds = r.finished.items in
    let more = c.if-own-remembered.false in
    let both = free_known p.version (length (body_of p)) (remembered r) ds r.places c.requires.ready.held.stacked c.requires.ready.own c.args.offset c.args.limit c.requires.order in
    omega (arith, both, more, c.free_to-remembered.ensures r.arena.now.nodes c.requires.ready.held.stacked, c.free_to-own.ensures (type_at p.version (remembered r) ds) c.requires.ready.own.stacked_own)
