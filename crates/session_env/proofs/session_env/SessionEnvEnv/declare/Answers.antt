use Rattle.std.proofs.Common.{List, Err, sym, subst}
use Rattle.type_terms.specs.Trees.{Tree}
use Rattle.type_terms.specs.Additions.{AddsOnly, Outgrows}
use Rattle.decl_spelling.specs.Leaving.{types_read}
use Rattle.session_files.specs.FileSections.{sections_in}
use Rattle.session_files.specs.Names.{comes_down}
use Rattle.session_files.proofs.Standing.{not_stood}
use Rattle.session_env.proofs.EntryLemmas.{types_here, outcome_here, none_here, unknown_answers, damaged_answers}
use Rattle.session_env.proofs.session_env.SessionEnvEnv.declare.Goals as goal

pub returns-in-None-clause-answer : goal.returns-in-None-clause-answer
returns-in-None-clause-answer c =
    let files = c.args.self.now.session.now in
    let none = none_here files c.args.q.now c.as_slice.result.now c.as_slice-2.result.now c.as_slice.ensures c.as_slice-2.ensures (not_stood files c.as_slice.result.now c.as_slice-2.result.now c.in-None.ensures.none) in
    unknown_answers _ c.args.q.now _ _ _ c.unknown.ensures none

pub returns-in-Ok-clause-adds : goal.returns-in-Ok-clause-adds
returns-in-Ok-clause-adds c =
    let place = c.in-Some.place in
    let types = types_here c.args.self.now.session.now c.args.q.now c.as_slice.result.now c.as_slice-2.result.now c.as_slice.ensures c.as_slice-2.ensures place.image.now place.offset c.in-Some.ensures.found.at in
    subst (λ (types : List Tree). AddsOnly types c.args.arena.now c.read_at.new.arena) (sym types) c.read_at.ensures.adds

pub returns-in-Err-Bytes-clause-answer : goal.returns-in-Err-Bytes-clause-answer
returns-in-Err-Bytes-clause-answer c =
    let place = c.in-Some.place in
    let files = c.args.self.now.session.now in
    let is = rw c.in-Err-Bytes.field-0-is at c.in-Err-Bytes.ensures.exact in
    let entry = outcome_here files c.args.q.now c.as_slice.result.now c.as_slice-2.result.now c.as_slice.ensures c.as_slice-2.ensures place.image.now place.offset c.in-Some.ensures.found.at (Err c.in-Err-Bytes.fault) is in
    damaged_answers _ c.args.q.now _ _ _ c.in-Err-Bytes.fault (types_read (sections_in place.image.now) (comes_down files) place.offset) c.damaged.ensures entry

pub returns-in-Err-Bytes-clause-adds : goal.returns-in-Err-Bytes-clause-adds
returns-in-Err-Bytes-clause-adds c =
    let place = c.in-Some.place in
    let types = types_here c.args.self.now.session.now c.args.q.now c.as_slice.result.now c.as_slice-2.result.now c.as_slice.ensures c.as_slice-2.ensures place.image.now place.offset c.in-Some.ensures.found.at in
    subst (λ (types : List Tree). AddsOnly types c.args.arena.now c.read_at.new.arena) (sym types) c.read_at.ensures.adds

pub returns-in-Err-Nodes-clause-adds : goal.returns-in-Err-Nodes-clause-adds
returns-in-Err-Nodes-clause-adds c =
    let place = c.in-Some.place in
    let types = types_here c.args.self.now.session.now c.args.q.now c.as_slice.result.now c.as_slice-2.result.now c.as_slice.ensures c.as_slice-2.ensures place.image.now place.offset c.in-Some.ensures.found.at in
    subst (λ (types : List Tree). AddsOnly types c.args.arena.now c.read_at.new.arena) (sym types) c.read_at.ensures.adds

pub returns-in-Err-Nodes-clause-outgrown : goal.returns-in-Err-Nodes-clause-outgrown
returns-in-Err-Nodes-clause-outgrown c =
    let place = c.in-Some.place in
    let types = types_here c.args.self.now.session.now c.args.q.now c.as_slice.result.now c.as_slice-2.result.now c.as_slice.ensures c.as_slice-2.ensures place.image.now place.offset c.in-Some.ensures.found.at in
    λ is. subst (λ (types : List Tree). Outgrows c.args.arena.now types) (sym types) (c.read_at.ensures.outgrown (rw c.in-Err-Nodes.field-0-is at c.in-Err-Nodes.is))

pub returns-in-Err-OutOfMemory-clause-adds : goal.returns-in-Err-OutOfMemory-clause-adds
returns-in-Err-OutOfMemory-clause-adds c =
    let place = c.in-Some.place in
    let types = types_here c.args.self.now.session.now c.args.q.now c.as_slice.result.now c.as_slice-2.result.now c.as_slice.ensures c.as_slice-2.ensures place.image.now place.offset c.in-Some.ensures.found.at in
    subst (λ (types : List Tree). AddsOnly types c.args.arena.now c.read_at.new.arena) (sym types) c.read_at.ensures.adds
