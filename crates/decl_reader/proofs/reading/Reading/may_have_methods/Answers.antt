use Rattle.std.proofs.Common.{length, sym, ap, ◌∙◌}
use Rattle.decl_spelling.specs.Declarations.{has_methods}
use Rattle.decl_reader.specs.Finished.{type_at}
use Rattle.decl_reader.specs.Places.{placed_as}
use Rattle.decl_reader.specs.Progress.{remembered, known}
use Rattle.type_terms.specs.Denotation.{tree}
use Rattle.decl_reader.specs.Blocks.{finished_of}
use Rattle.decl_reader.proofs.KnownLemmas.{read_found, read_there, remembered_found}
use Rattle.decl_reader.proofs.FinishedLemmas.{spelled_at}
use Rattle.decl_reader.proofs.TypeOffLemmas.{finished_is}
use Rattle.decl_reader.proofs.reading.Reading.may_have_methods.Goals as goal

pub returns-in-Some-Read : goal.returns-in-Some-Read
returns-in-Some-Read g c =
    let p = c.args.parts.now in
    let v = p.version in
    let ds = c.args.self.now.finished.items in
    let done = known p c.args.self.now in
    let d = c.index-descriptor.result.now in
    let place = c.in-Some-Read.place in
    let f = placed_as (type_at v (remembered c.args.self.now) ds) place in
    let its_nodes = c.args.self.now.arena.now.nodes in
    let there_in = read_there (length its_nodes) (length ds) c.in-Some-Read.field-0 c.in-Some-Read.ensures.there place c.in-Some-Read.field-0-is in
    let found = read_found its_nodes (type_at v (remembered c.args.self.now) ds) c.in-Some-Read.field-0 _ c.in-Some-Read.ensures.found place c.in-Some-Read.field-0-is in
    let there = spelled_at v (remembered c.args.self.now) ds place.index d c.index-descriptor.ensures c.requires.ready.own.turn there_in in
    let named = finished_is c.args.underlying c.in-At.offset c.in-At.ensures v done f found in
    c.flat_has_methods.ensures there.0 ∙ ap has_methods (sym there.1 ∙ sym named)

pub returns-in-Some-Remembered : goal.returns-in-Some-Remembered
returns-in-Some-Remembered g c =
    let p = c.args.parts.now in
    let r = c.args.self.now in
    let nodes = r.arena.now.nodes in
    let k = c.in-Some-Remembered in
    let found = remembered_found nodes (type_at p.version (remembered r) r.finished.items) k.field-0 _ k.ensures.found k.finished k.field-0-is in
    let named = finished_is c.args.underlying c.in-At.offset c.in-At.ensures p.version (known p r) (finished_of nodes k.finished) found in
    c.node_has_methods.ensures (tree nodes) ∙ ap has_methods (sym c.node.ensures.denotes ∙ sym named)
