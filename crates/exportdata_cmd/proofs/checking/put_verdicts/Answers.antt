use Rattle.std.proofs.Common.{List, Err, refl, sym, ap, ◌∙◌, subst, option_map, arith}
use Rattle.std.proofs.lemmas.List.{length-map}
use Rattle.std.proofs.lemmas.Option.{slice_get_read, slice_get-map}
use Rattle.std.proofs.lemmas.Result.{err_from_is_err_and}
use Rattle.session_files.specs.Sessions.{Opened}
use Rattle.checked_files.specs.Checking.{AreSaid}
use Rattle.checked_files.specs.declared.checking.Verdict.{Verdict}
use Rattle.exportdata_cmd.specs.Checking.{checked_lines}
use Rattle.exportdata_cmd.proofs.CheckingLemmas.{said_at, said_of, opened_there}
use Rattle.exportdata_cmd.proofs.PuttingLemmas.{puts_as, loop_goes_on, loop_stops}
use Rattle.exportdata_cmd.proofs.checking.put_verdicts.Goals as goal

pub bounds-verdicts-file : goal.bounds-verdicts-file
bounds-verdicts-file g c =
    let files = c.args.session.now in
    let o : Opened = record { label = c.in-Some-label.label.now; file = c.in-Some.image.now } in
    let at = opened_there files c.loop-file.file o.label o.file c.in-Some.ensures c.in-Some-label.ensures in
    let s = said_at (λ (verdicts : List Verdict) (o : Opened). AreSaid c.args.arena.now.nodes files o.file verdicts) _ files c.loop-file.file o c.requires at in
    omega (arith, s.inside, length-map c.args.verdicts.now (λ v. v.items))

pub put_file-requires : goal.put_file-requires
put_file-requires g c =
    let files = c.args.session.now in
    let o : Opened = record { label = c.in-Some-label.label.now; file = c.in-Some.image.now } in
    let at = opened_there files c.loop-file.file o.label o.file c.in-Some.ensures c.in-Some-label.ensures in
    let R = λ (verdicts : List Verdict) (o : Opened). AreSaid c.args.arena.now.nodes files o.file verdicts in
    let s = said_at R _ files c.loop-file.file o c.requires at in
    let here = slice_get_read c.args.verdicts.now _ c.loop-file.file c.index-verdicts-file.result refl (omega (arith, s.inside, length-map c.args.verdicts.now (λ v. v.items))) c.index-verdicts-file.is in
    let there = slice_get-map (λ v. v.items) c.args.verdicts.now c.loop-file.file ∙ ap (option_map (λ v. v.items)) here in
    subst (AreSaid c.args.arena.now.nodes files o.file) (sym c.as_slice-verdicts.ensures.value)
    (said_of R _ files c.loop-file.file c.index-verdicts-file.result.items o c.requires at there)

pub returns-in_err-put_file : goal.returns-in_err-put_file
returns-in_err-put_file g c =
    let p = err_from_is_err_and c.from_residual.result c.from_residual.ensures.1 in
    let files = c.args.session.now in
    let o : Opened = record { label = c.in-Some-label.label.now; file = c.in-Some.image.now } in
    let at = opened_there files c.loop-file.file o.label o.file c.in-Some.ensures c.in-Some-label.ensures in
    puts_as _ _ _ _ _ _ refl (p.1 ∙ ap Err p.2)
    (loop_stops (checked_lines files) files _ _ _ c.loop-file.file o _ at c.loop-file.invariant c.in_err-put_file.ensures)

pub loop-file-preserved : goal.loop-file-preserved
loop-file-preserved g c =
    let files = c.args.session.now in
    let o : Opened = record { label = c.in-Some-label.label.now; file = c.in-Some.image.now } in
    let at = opened_there files c.loop-file.file o.label o.file c.in-Some.ensures c.in-Some-label.ensures in
    loop_goes_on (checked_lines files) files _ _ _ c.loop-file.file o at c.loop-file.invariant c.in_ok-put_file.ensures
