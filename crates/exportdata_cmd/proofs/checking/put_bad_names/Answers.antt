use Rattle.std.proofs.Common.{Err, refl, sym, ap, ◌∙◌}
use Rattle.std.proofs.lemmas.Option.{slice_get_read}
use Rattle.std.proofs.lemmas.Result.{err_from_is_err_and}
use Rattle.name_index.specs.FullFile.{Listed, listed}
use Rattle.name_index.specs.Lookup.{as_listed}
use Rattle.session_files.specs.Sessions.{qualified}
use Rattle.checked_files.specs.Checking.{flaw_at, Says}
use Rattle.checked_files.specs.declared.checking.Verdict.{Verdict}
use Rattle.exportdata_cmd.specs.Checking.{flaw_lines}
use Rattle.exportdata_cmd.proofs.CheckingLemmas.{said_at, said_of, has_reference}
use Rattle.exportdata_cmd.proofs.PuttingLemmas.{puts_as, loop_goes_on, loop_stops}
use Rattle.exportdata_cmd.proofs.checking.put_bad_names.Goals as goal

pub bounds-verdicts-number : goal.bounds-verdicts-number
bounds-verdicts-number g c =
    let file = c.args.file.now in
    let l = as_listed c.in-Some.path.now c.in-Some.name.now c.in-Some.field-0-2 in
    (said_at (λ (verdict : Verdict) (l : Listed). Says c.args.arena.now.nodes verdict (flaw_at file.session.now file.image.now l)) c.args.verdicts.now (listed file.image.now.packages) c.loop-number.number l
    c.requires (sym c.in-Some.ensures.exact)).inside

pub put_verdict-requires : goal.put_verdict-requires
put_verdict-requires g c =
    let file = c.args.file.now in
    let l = as_listed c.in-Some.path.now c.in-Some.name.now c.in-Some.field-0-2 in
    let R = λ (verdict : Verdict) (l : Listed). Says c.args.arena.now.nodes verdict (flaw_at file.session.now file.image.now l) in
    let below = (said_at R c.args.verdicts.now (listed file.image.now.packages) c.loop-number.number l c.requires (sym c.in-Some.ensures.exact)).inside in
    let here = slice_get_read c.args.verdicts.now _ c.loop-number.number c.index-verdicts-number.result refl below c.index-verdicts-number.is in
    has_reference c.args.arena.now.nodes c.index-verdicts-number.result (flaw_at file.session.now file.image.now l)
    (said_of R c.args.verdicts.now (listed file.image.now.packages) c.loop-number.number c.index-verdicts-number.result l c.requires (sym c.in-Some.ensures.exact) here)

pub returns-in_err-put_verdict : goal.returns-in_err-put_verdict
returns-in_err-put_verdict g c =
    let p = err_from_is_err_and c.from_residual.result c.from_residual.ensures.1 in
    let file = c.args.file.now in
    let l = as_listed c.in-Some.path.now c.in-Some.name.now c.in-Some.field-0-2 in
    let R = λ (verdict : Verdict) (l : Listed). Says c.args.arena.now.nodes verdict (flaw_at file.session.now file.image.now l) in
    let below = (said_at R c.args.verdicts.now (listed file.image.now.packages) c.loop-number.number l c.requires (sym c.in-Some.ensures.exact)).inside in
    let here = slice_get_read c.args.verdicts.now _ c.loop-number.number c.index-verdicts-number.result refl below c.index-verdicts-number.is in
    let says = said_of R c.args.verdicts.now (listed file.image.now.packages) c.loop-number.number c.index-verdicts-number.result l c.requires (sym c.in-Some.ensures.exact) here in
    puts_as _ _ _ _ _ _ refl (p.1 ∙ ap Err p.2)
    (loop_stops (λ n. flaw_lines file.label.now (qualified n) (flaw_at file.session.now file.image.now n)) (listed file.image.now.packages) _ _ _ c.loop-number.number l _ (sym c.in-Some.ensures.exact) c.loop-number.invariant
    (c.in_err-put_verdict.ensures (flaw_at file.session.now file.image.now l) says))

pub loop-number-preserved : goal.loop-number-preserved
loop-number-preserved g c =
    let file = c.args.file.now in
    let l = as_listed c.in-Some.path.now c.in-Some.name.now c.in-Some.field-0-2 in
    let R = λ (verdict : Verdict) (l : Listed). Says c.args.arena.now.nodes verdict (flaw_at file.session.now file.image.now l) in
    let below = (said_at R c.args.verdicts.now (listed file.image.now.packages) c.loop-number.number l c.requires (sym c.in-Some.ensures.exact)).inside in
    let here = slice_get_read c.args.verdicts.now _ c.loop-number.number c.index-verdicts-number.result refl below c.index-verdicts-number.is in
    let says = said_of R c.args.verdicts.now (listed file.image.now.packages) c.loop-number.number c.index-verdicts-number.result l c.requires (sym c.in-Some.ensures.exact) here in
    loop_goes_on (λ n. flaw_lines file.label.now (qualified n) (flaw_at file.session.now file.image.now n)) (listed file.image.now.packages) _ _ _ c.loop-number.number l (sym c.in-Some.ensures.exact) c.loop-number.invariant
    (c.in_ok-put_verdict.ensures (flaw_at file.session.now file.image.now l) says)
