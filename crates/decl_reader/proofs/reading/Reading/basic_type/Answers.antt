use Rattle.std.proofs.Common.{length, sym, ap, ◌∙◌}
use Rattle.decl_spelling.specs.Constants.{basic_type}
use Rattle.block_reader.specs.Calls.{sections_of}
use Rattle.decl_reader.specs.Finished.{type_at}
use Rattle.decl_reader.specs.Places.{placed_as}
use Rattle.decl_reader.specs.Progress.{remembered, known}
use Rattle.decl_reader.specs.Blocks.{finished_of}
use Rattle.decl_reader.proofs.KnownLemmas.{read_found, read_there, remembered_found}
use Rattle.decl_reader.proofs.BasicLemmas.{basic_stays}
use Rattle.decl_reader.proofs.FinishedLemmas.{is_at}
use Rattle.decl_reader.proofs.MeantLemmas.{tree_is}
use Rattle.decl_reader.proofs.TypeOffLemmas.{finished_is}
use Rattle.decl_reader.proofs.reading.Reading.basic_type.Goals as goal

pub returns-in-Some-Read : goal.returns-in-Some-Read
returns-in-Some-Read g c =
    let p = c.args.parts.now in
    let v = p.version in
    let ds = c.args.self.now.finished.items in
    let done = known p c.args.self.now in
    let d = c.index-descriptor.result.now in
    let place = c.in-Some-Read.place in
    let f = placed_as (type_at v (remembered c.args.self.now) ds) place in
    let basics = g.B.Basics.meaning c.args.basics.now in
    let its_nodes = c.args.self.now.arena.now.nodes in
    let there_in = read_there (length its_nodes) (length ds) c.in-Some-Read.field-0 c.in-Some-Read.ensures.there place c.in-Some-Read.field-0-is in
    let found = read_found its_nodes (type_at v (remembered c.args.self.now) ds) c.in-Some-Read.field-0 _ c.in-Some-Read.ensures.found place c.in-Some-Read.field-0-is in
    let there = is_at v (remembered c.args.self.now) ds place.index d c.index-descriptor.ensures c.requires.ready.own.turn there_in in
    let named = finished_is c.args.ty c.in-At.offset c.in-At.ensures v done f found in
    c.flat_basic.ensures ∙ basic_stays (sections_of p) basics there.before done d.flat there.kept (there.may).generic ∙ ap (basic_type basics) (sym (there.type_is ∙ tree_is v there.before d.flat) ∙ sym named)

pub returns-in-Some-Remembered : goal.returns-in-Some-Remembered
returns-in-Some-Remembered g c =
    let p = c.args.parts.now in
    let r = c.args.self.now in
    let nodes = r.arena.now.nodes in
    let k = c.in-Some-Remembered in
    let basics = g.B.Basics.meaning c.args.basics.now in
    let found = remembered_found nodes (type_at p.version (remembered r) r.finished.items) k.field-0 _ k.ensures.found k.finished k.field-0-is in
    let named = finished_is c.args.ty c.in-At.offset c.in-At.ensures p.version (known p r) (finished_of nodes k.finished) found in
    c.node_basic.ensures ∙ ap (basic_type basics) (sym named)
