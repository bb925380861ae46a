use Rattle.std.proofs.Common.{◌+◌, map, sym, ap, ◌∙◌, subst}
use Rattle.std.proofs.lemmas.Result.{err_from_is_err_and}
use Rattle.checked_files.specs.declared.fault.CheckFault.TheVariants.{Nodes}
use Rattle.checked_files.proofs.ZipLemmas.{map_push}
use Rattle.checked_files.proofs.ReadingLemmas.{FilesReadSoFar, lent_added, lent_read, lent_outgrown, passed}
use Rattle.checked_files.proofs.reading.read_all.Goals as goal

pub returns-in_err-read_file-clause-adds : goal.returns-in_err-read_file-clause-adds
returns-in_err-read_file-clause-adds c =
    lent_added c.args.session.now c.loop-file.file c.in-Some.image.now c.in-Some.ensures _ c.args.arena.now c.loop-file.arena c.loop-file.invariant _ c.read_file.ensures.extends c.read_file.ensures.adds

pub returns-in_err-read_file-clause-outgrown : goal.returns-in_err-read_file-clause-outgrown
returns-in_err-read_file-clause-outgrown c =
    let p = err_from_is_err_and c.from_residual.result c.from_residual.ensures.1 in
    λ wants.
    lent_outgrown c.args.session.now c.loop-file.file c.in-Some.image.now c.in-Some.ensures _ c.args.arena.now c.loop-file.arena c.loop-file.invariant
    (c.read_file.ensures.outgrown (passed c.from_residual.result c.read_file.result p.0 c.in_err-read_file.field-0.0 Nodes p.1 p.2 c.in_err-read_file.was wants))

pub returns-in_err-push-clause-adds : goal.returns-in_err-push-clause-adds
returns-in_err-push-clause-adds c =
    lent_added c.args.session.now c.loop-file.file c.in-Some.image.now c.in-Some.ensures _ c.args.arena.now c.loop-file.arena c.loop-file.invariant _ c.read_file.ensures.extends c.read_file.ensures.adds

pub loop-file-preserved : goal.loop-file-preserved
loop-file-preserved c =
    subst (λ all. FilesReadSoFar c.args.session.now (c.loop-file.file + 1) all c.args.arena.now c.read_file.new.arena)
    (sym (ap (map (λ reads. reads.items)) c.in_ok-push.ensures.items ∙ map_push (λ reads. reads.items) c.loop-file.all.items c.in_ok-read_file.field-0))
    (lent_read c.args.session.now c.loop-file.file c.in-Some.image.now c.in-Some.ensures _ c.args.arena.now c.loop-file.arena c.loop-file.invariant _ c.read_file.ensures.extends c.read_file.ensures.adds
    c.in_ok-read_file.field-0.items c.in_ok-read_file.ensures.read)
