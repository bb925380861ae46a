use Rattle.std.proofs.Common.{length, sym, ap, ◌∙◌, arith}
use Rattle.decl_spelling.specs.Codes.{basic_of}
use Rattle.decl_spelling.specs.Constants.{generic_basic}
use Rattle.decl_spelling.proofs.KnownTypeLemmas.{named_basic}
use Rattle.block_reader.specs.Calls.{sections_of}
use Rattle.decl_reader.specs.Finished.{type_at}
use Rattle.decl_reader.specs.Places.{placed_as}
use Rattle.decl_reader.specs.Progress.{remembered, known}
use Rattle.type_terms.specs.Denotation.{tree}
use Rattle.decl_reader.specs.Blocks.{finished_of}
use Rattle.decl_reader.proofs.KnownLemmas.{read_found, read_there, remembered_found}
use Rattle.decl_reader.proofs.BasicLemmas.{generic_none}
use Rattle.decl_reader.proofs.FinishedLemmas.{spelled_at}
use Rattle.decl_reader.proofs.TypeOffLemmas.{finished_is, none_is}
use Rattle.decl_reader.proofs.reading.Reading.base_basic.Goals as goal

pub returns-in-Basic : goal.returns-in-Basic
returns-in-Basic g c =
    let p = c.args.parts.now in
    let basics = g.B.Basics.meaning c.args.basics.now in
    sym (ap (generic_basic basics) (named_basic (sections_of p) (known p c.args.self.now) c.args.base (omega (arith, c.in-Basic.ensures))) ∙ generic_none basics (basic_of p.version c.args.base))

pub returns-in-Some-Read : goal.returns-in-Some-Read
returns-in-Some-Read g c =
    let p = c.args.parts.now in
    let v = p.version in
    let ds = c.args.self.now.finished.items in
    let done = known p c.args.self.now in
    let d = c.index-descriptor.result.now in
    let place = c.in-Some-Read.place in
    let f = placed_as (type_at v (remembered c.args.self.now) ds) place in
    let basics = g.B.Basics.meaning c.args.basics.now in
    let its_nodes = c.args.self.now.arena.now.nodes in
    let there_in = read_there (length its_nodes) (length ds) c.in-Some-Read.field-0 c.in-Some-Read.ensures.there place c.in-Some-Read.field-0-is in
    let found = read_found its_nodes (type_at v (remembered c.args.self.now) ds) c.in-Some-Read.field-0 _ c.in-Some-Read.ensures.found place c.in-Some-Read.field-0-is in
    let there = spelled_at v (remembered c.args.self.now) ds place.index d c.index-descriptor.ensures c.requires.ready.own.turn there_in in
    let named = finished_is c.args.base c.in-At.offset c.in-At.ensures v done f found in
    c.named_basic.ensures there.0 ∙ ap (generic_basic basics) (sym there.1 ∙ sym named)

pub returns-in-None : goal.returns-in-None
returns-in-None g c =
    let p = c.args.parts.now in
    let basics = g.B.Basics.meaning c.args.basics.now in
    sym (ap (generic_basic basics) (none_is c.args.base c.in-At.offset c.in-At.ensures p.version (known p c.args.self.now) c.in-None.ensures.found))

pub returns-in-Some-Remembered : goal.returns-in-Some-Remembered
returns-in-Some-Remembered g c =
    let p = c.args.parts.now in
    let r = c.args.self.now in
    let nodes = r.arena.now.nodes in
    let k = c.in-Some-Remembered in
    let basics = g.B.Basics.meaning c.args.basics.now in
    let found = remembered_found nodes (type_at p.version (remembered r) r.finished.items) k.field-0 _ k.ensures.found k.finished k.field-0-is in
    let named = finished_is c.args.base c.in-At.offset c.in-At.ensures p.version (known p r) (finished_of nodes k.finished) found in
    c.named_node_basic.ensures (tree nodes) ∙ ap (generic_basic basics) (sym c.node.ensures.denotes ∙ sym named)
