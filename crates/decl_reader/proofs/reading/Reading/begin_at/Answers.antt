use Rattle.std.proofs.Common.{◌≡◌, ◌-◌, ◌<◌, length, sym, ap, ◌∙◌, Some, arith}
use Rattle.std.specs.Prelude.{option_map}
use Rattle.std.proofs.lemmas.Result.{err_from_is_err_and}
use Rattle.type_terms.specs.Trees.{Tree}
use Rattle.type_terms.specs.Denotation.{tree}
use Rattle.decl_spelling.specs.Tables.{at}
use Rattle.decl_reader.specs.Blocks.{known_as}
use Rattle.decl_reader.specs.Finished.{type_at}
use Rattle.decl_reader.specs.Opens.{checked_finished}
use Rattle.decl_reader.specs.Places.{placed_as}
use Rattle.decl_reader.specs.Progress.{remembered, known}
use Rattle.block_reader.specs.Calls.{sections_of}
use Rattle.decl_reader.proofs.CheckedTypeLemmas.{finished_fault, finished_known}
use Rattle.decl_reader.specs.Blocks.{finished_of}
use Rattle.decl_reader.proofs.KnownLemmas.{read_found, read_there, remembered_found}
use Rattle.decl_reader.proofs.FinishedLemmas.{spelled_at}
use Rattle.decl_reader.proofs.reading.Reading.begin_at.Goals as goal

pub open_at-requires-clause-new : goal.open_at-requires-clause-new
open_at-requires-clause-new g c =
    sym c.known_at.ensures.found ∙ ap (option_map (known_as c.args.self.now.arena.now.nodes (type_at c.args.parts.now.version (remembered c.args.self.now) c.args.self.now.finished.items))) c.in-None.is

pub returns-in_err-check_finished-in-Some-Read : goal.returns-in_err-check_finished-in-Some-Read
returns-in_err-check_finished-in-Some-Read g c =
    let p = c.args.parts.now in
    let v = p.version in
    let ds = c.args.self.now.finished.items in
    let types = type_at v (remembered c.args.self.now) ds in
    let done = known p c.args.self.now in
    let place = c.in-Some-Read.place in
    let its_nodes = c.args.self.now.arena.now.nodes in
    let d = c.index-descriptor.result.now in
    let f = placed_as types place in
    let same : c.args.named.value - 32 ≡ c.args.start = omega (arith, c.requires.its_start) in
    let before : c.args.start < c.args.holder = c.requires.before in
    let found : at done (c.args.named.value - 32) ≡ Some f = ap (at done) same ∙ sym (read_found its_nodes types c.in-Some-Read.field-0 _ c.in-Some-Read.ensures.found place c.in-Some-Read.field-0-is) in
    let there = spelled_at v (remembered c.args.self.now) ds place.index d c.index-descriptor.ensures c.requires.ready.own.turn (read_there (length its_nodes) (length ds) c.in-Some-Read.field-0 c.in-Some-Read.ensures.there place c.in-Some-Read.field-0-is) in
    let checked = ap (λ (t : Tree). checked_finished c.args.holder c.args.named (record { end = place.end; tree = t })) there.1 ∙ sym (c.check_finished.ensures there.0) in
    let e = err_from_is_err_and c.from_residual-in_err-check_finished-in-Some-Read.result c.from_residual-in_err-check_finished-in-Some-Read.ensures.1 in
    rw (e.1, e.2) (finished_fault (sections_of p) c.args.holder c.args.named done f c.in_err-check_finished-in-Some-Read.field-0.0 (omega (arith, c.requires.its_start)) (omega (arith, same)) found
    (checked ∙ c.in_err-check_finished-in-Some-Read.was))

pub returns-in_ok-check_finished-in-Some-Read : goal.returns-in_ok-check_finished-in-Some-Read
returns-in_ok-check_finished-in-Some-Read g c =
    let p = c.args.parts.now in
    let v = p.version in
    let ds = c.args.self.now.finished.items in
    let types = type_at v (remembered c.args.self.now) ds in
    let done = known p c.args.self.now in
    let place = c.in-Some-Read.place in
    let its_nodes = c.args.self.now.arena.now.nodes in
    let d = c.index-descriptor.result.now in
    let f = placed_as types place in
    let same : c.args.named.value - 32 ≡ c.args.start = omega (arith, c.requires.its_start) in
    let before : c.args.start < c.args.holder = c.requires.before in
    let found : at done (c.args.named.value - 32) ≡ Some f = ap (at done) same ∙ sym (read_found its_nodes types c.in-Some-Read.field-0 _ c.in-Some-Read.ensures.found place c.in-Some-Read.field-0-is) in
    let there = spelled_at v (remembered c.args.self.now) ds place.index d c.index-descriptor.ensures c.requires.ready.own.turn (read_there (length its_nodes) (length ds) c.in-Some-Read.field-0 c.in-Some-Read.ensures.there place c.in-Some-Read.field-0-is) in
    let checked = ap (λ (t : Tree). checked_finished c.args.holder c.args.named (record { end = place.end; tree = t })) there.1 ∙ sym (c.check_finished.ensures there.0) in
    finished_known (sections_of p) c.args.holder c.args.named done f c.in_ok-check_finished-in-Some-Read.field-0 (omega (arith, c.requires.its_start)) (omega (arith, same)) found
    (checked ∙ c.in_ok-check_finished-in-Some-Read.was)

pub returns-in_err-check_remembered-in-Some-Remembered : goal.returns-in_err-check_remembered-in-Some-Remembered
returns-in_err-check_remembered-in-Some-Remembered g c =
    let p = c.args.parts.now in
    let r = c.args.self.now in
    let nodes = r.arena.now.nodes in
    let k = c.in-Some-Remembered in
    let done = known p r in
    let f = finished_of nodes k.finished in
    let same : c.args.named.value - 32 ≡ c.args.start = omega (arith, c.requires.its_start) in
    let before : c.args.start < c.args.holder = c.requires.before in
    let found : at done (c.args.named.value - 32) ≡ Some f = ap (at done) same ∙ sym (remembered_found nodes (type_at p.version (remembered r) r.finished.items) k.field-0 _ k.ensures.found k.finished k.field-0-is) in
    let checked = ap (λ (t : Tree). checked_finished c.args.holder c.args.named (record { end = k.finished.end; tree = t })) c.node-node.ensures.denotes ∙ sym (c.check_remembered.ensures (tree nodes)) in
    let e = err_from_is_err_and c.from_residual.result c.from_residual.ensures.1 in
    rw (e.1, e.2) (finished_fault (sections_of p) c.args.holder c.args.named done f c.in_err-check_remembered-in-Some-Remembered.field-0.0 (omega (arith, c.requires.its_start)) (omega (arith, same)) found
    (checked ∙ c.in_err-check_remembered-in-Some-Remembered.was))

pub returns-in_ok-check_remembered-in-Some-Remembered : goal.returns-in_ok-check_remembered-in-Some-Remembered
returns-in_ok-check_remembered-in-Some-Remembered g c =
    let p = c.args.parts.now in
    let r = c.args.self.now in
    let nodes = r.arena.now.nodes in
    let k = c.in-Some-Remembered in
    let done = known p r in
    let f = finished_of nodes k.finished in
    let same : c.args.named.value - 32 ≡ c.args.start = omega (arith, c.requires.its_start) in
    let before : c.args.start < c.args.holder = c.requires.before in
    let found : at done (c.args.named.value - 32) ≡ Some f = ap (at done) same ∙ sym (remembered_found nodes (type_at p.version (remembered r) r.finished.items) k.field-0 _ k.ensures.found k.finished k.field-0-is) in
    let checked = ap (λ (t : Tree). checked_finished c.args.holder c.args.named (record { end = k.finished.end; tree = t })) c.node-node.ensures.denotes ∙ sym (c.check_remembered.ensures (tree nodes)) in
    finished_known (sections_of p) c.args.holder c.args.named done f c.in_ok-check_remembered-in-Some-Remembered.field-0 (omega (arith, c.requires.its_start)) (omega (arith, same)) found
    (checked ∙ c.in_ok-check_remembered-in-Some-Remembered.was)
