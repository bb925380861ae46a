use Rattle.std.proofs.Common.{◌+◌, sym, subst}
use Rattle.std.proofs.lemmas.Result.{err_from_is_err_and}
use Rattle.name_index.specs.Lookup.{as_listed}
use Rattle.session_files.specs.FileSections.{sections_in}
use Rattle.checked_files.specs.declared.fault.CheckFault.TheVariants.{Nodes}
use Rattle.checked_files.proofs.ZipLemmas.{not_none}
use Rattle.checked_files.proofs.ReadingLemmas.{ReadSoFar, nothing_read, added, one_read, outgrown_here, passed}
use Rattle.checked_files.proofs.reading.read_file.Goals as goal

pub loop-number-init : goal.loop-number-init
loop-number-init c =
    let file = c.args.image.now in
    let arena = c.args.arena.now in
    subst (λ reads. ReadSoFar c.args.session.now file 0 reads c.new-reader.result arena arena) (sym c.new-reads.ensures.items)
    (nothing_read c.args.session.now file c.new-reader.result arena (c.new-reader.ensures.kept (sections_in file) arena.nodes))

pub unreachable-requires : goal.unreachable-requires
unreachable-requires c = not_none _ c.loop-number.number _ c.in_default.ensures.exact c.name_count-number-end.ensures c.loop-number-test.true

pub returns-in_err-read_at-clause-adds : goal.returns-in_err-read_at-clause-adds
returns-in_err-read_at-clause-adds c =
    added c.args.session.now c.args.image.now c.loop-number.number (as_listed c.in-Some.field-0-0.now c.in-Some.field-0-1.now c.in-Some.offset) (sym c.in-Some.ensures.exact)
    c.loop-number.reads.items c.loop-number.reader c.args.arena.now c.loop-number.arena c.loop-number.invariant _ c.read_at.ensures.extends c.read_at.ensures.adds

pub returns-in_err-read_at-clause-outgrown : goal.returns-in_err-read_at-clause-outgrown
returns-in_err-read_at-clause-outgrown c =
    let p = err_from_is_err_and c.from_residual.result c.from_residual.ensures.1 in
    λ wants.
    outgrown_here c.args.session.now c.args.image.now c.loop-number.number (as_listed c.in-Some.field-0-0.now c.in-Some.field-0-1.now c.in-Some.offset) (sym c.in-Some.ensures.exact)
    c.loop-number.reads.items c.loop-number.reader c.args.arena.now c.loop-number.arena c.loop-number.invariant
    (c.read_at.ensures.outgrown (passed c.from_residual.result c.read_at.result p.0 c.in_err-read_at.field-0.0 Nodes p.1 p.2 c.in_err-read_at.was wants))

pub returns-in_err-push-clause-adds : goal.returns-in_err-push-clause-adds
returns-in_err-push-clause-adds c =
    added c.args.session.now c.args.image.now c.loop-number.number (as_listed c.in-Some.field-0-0.now c.in-Some.field-0-1.now c.in-Some.offset) (sym c.in-Some.ensures.exact)
    c.loop-number.reads.items c.loop-number.reader c.args.arena.now c.loop-number.arena c.loop-number.invariant _ c.read_at.ensures.extends c.read_at.ensures.adds

pub loop-number-preserved : goal.loop-number-preserved
loop-number-preserved c =
    subst (λ reads. ReadSoFar c.args.session.now c.args.image.now (c.loop-number.number + 1) reads c.read_at.new.reader c.args.arena.now c.read_at.new.arena) (sym c.in_ok-push.ensures.items)
    (one_read c.args.session.now c.args.image.now c.loop-number.number (as_listed c.in-Some.field-0-0.now c.in-Some.field-0-1.now c.in-Some.offset) (sym c.in-Some.ensures.exact)
    c.loop-number.reads.items c.loop-number.reader c.args.arena.now c.loop-number.arena c.loop-number.invariant _ c.read_at.ensures.extends c.read_at.ensures.adds
    c.in_ok-read_at.field-0 _ c.in_ok-read_at.ensures.read c.read_at.ensures.keeps)
