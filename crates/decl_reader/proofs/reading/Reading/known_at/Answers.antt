use Rattle.std.proofs.Common.{◌≡◌, length, Option, None, Some, subst, sym, rules}
use Rattle.std.specs.Prelude.{option_map}
use Rattle.file_parts.specs.FileParts.{body_of}
use Rattle.decl_spelling.specs.Tables.{at}
use Rattle.decl_reader.specs.declared.reading.Known.{Known}
use Rattle.decl_reader.specs.Blocks.{finished_of, known_as}
use Rattle.decl_reader.specs.Finished.{type_at}
use Rattle.decl_reader.specs.Places.{placed_as, placed_of}
use Rattle.decl_reader.specs.Progress.{remembered, known}
use Rattle.decl_reader.proofs.JoinedLemmas.{found_known}
use Rattle.decl_reader.proofs.KnownLemmas.{in_memory, in_own}
use Rattle.decl_reader.proofs.reading.Reading.known_at.Goals as goal

pub returns-in-Some-clause-found : goal.returns-in-Some-clause-found
returns-in-Some-clause-found g c =
    let p = c.args.parts.now in
    let r = c.args.self.now in
    let ds = r.finished.items in
    let own = placed_of (type_at p.version (remembered r) ds) r.places in
    in_memory (remembered r) own (known p r) c.args.offset (found_known p.version (length (body_of p)) (remembered r) ds r.places c.requires.ready.held.stacked c.requires.ready.own c.args.offset) (finished_of r.arena.now.nodes c.in-Some.finished) (c.in-Some.ensures.found r.arena.now.nodes)

pub returns-in-Some-clause-there : goal.returns-in-Some-clause-there
returns-in-Some-clause-there g c = c.in-Some.ensures.inside (length c.args.self.now.arena.now.nodes) c.requires.ready.held.inside

pub returns-in_ok-at-in-None-clause-found : goal.returns-in_ok-at-in-None-clause-found
returns-in_ok-at-in-None-clause-found g c =
    let p = c.args.parts.now in
    let r = c.args.self.now in
    let ds = r.finished.items in
    let types = type_at p.version (remembered r) ds in
    in_own (remembered r) (placed_of types r.places) (known p r) c.args.offset (found_known p.version (length (body_of p)) (remembered r) ds r.places c.requires.ready.held.stacked c.requires.ready.own c.args.offset) (Some (placed_as types c.in_ok-at-in-None.field-0))
    (c.in-None.ensures.found r.arena.now.nodes) (c.in_ok-at-in-None.ensures.found types)

pub returns-in_ok-at-in-None-clause-there : goal.returns-in_ok-at-in-None-clause-there
returns-in_ok-at-in-None-clause-there g c = c.in_ok-at-in-None.ensures.inside (length c.args.self.now.finished.items) c.requires.ready.own.inside

pub returns-in_err-at-in-None-clause-found : goal.returns-in_err-at-in-None-clause-found
returns-in_err-at-in-None-clause-found g c =
    let p = c.args.parts.now in
    let r = c.args.self.now in
    let ds = r.finished.items in
    let types = type_at p.version (remembered r) ds in
    let none : c.from_residual.result ≡ None = search rules in
    subst (λ (a : Option Known). option_map (known_as r.arena.now.nodes types) a ≡ at (known p r) c.args.offset) (sym none)
    (in_own (remembered r) (placed_of types r.places) (known p r) c.args.offset (found_known p.version (length (body_of p)) (remembered r) ds r.places c.requires.ready.held.stacked c.requires.ready.own c.args.offset) None
    (c.in-None.ensures.found r.arena.now.nodes) (c.in_err-at-in-None.ensures.found types))
