use Rattle.std.proofs.Common.{List, map, sym, ap, ◌∙◌, subst}
use Rattle.std.specs.List.{flat_map}
use Rattle.command_words.specs.Forms.{check}
use Rattle.session_files.specs.Sessions.{Opened}
use Rattle.checked_files.specs.Checking.{AreSaid}
use Rattle.checked_files.specs.declared.checking.Verdict.{Verdict}
use Rattle.exportdata_cmd.specs.Endings.{output_end}
use Rattle.exportdata_cmd.specs.Checking.{checked_lines, AreSaidOf}
use Rattle.exportdata_cmd.proofs.CheckingLemmas.{zip_mapped, status_said}
use Rattle.exportdata_cmd.proofs.command.check_files.Goals as goal

pub put_verdicts-put-requires : goal.put_verdicts-put-requires
put_verdicts-put-requires g c =
    let files = c.args.session.now in
    let nodes = c.check_all.new.arena.nodes in
    subst (λ all. AreSaidOf nodes files files (map (λ v. v.items) all)) (sym c.deref.ensures.value)
    (zip_mapped (λ (verdicts : List Verdict) (o : Opened). AreSaid nodes files o.file verdicts) (λ v. v.items) c.in-Ok.verdicts.items files c.in-Ok.ensures.verdicts)

pub returns : goal.returns
returns g c sources =
    let files = c.args.session.now in
    let nodes = c.check_all.new.arena.nodes in
    let said = subst (λ all. AreSaidOf nodes files files (map (λ v. v.items) all)) (sym c.deref-2.ensures.value)
    (zip_mapped (λ (verdicts : List Verdict) (o : Opened). AreSaid nodes files o.file verdicts) (λ v. v.items) c.in-Ok.verdicts.items files c.in-Ok.ensures.verdicts) in
    c.finish.ensures files (check sources) (flat_map (checked_lines files) files) _ _
    (ap (λ s. output_end s (flat_map (checked_lines files) files)) (c.verdict_status.ensures ∙ status_said nodes files files _ said))
    c.put_verdicts-put.ensures
