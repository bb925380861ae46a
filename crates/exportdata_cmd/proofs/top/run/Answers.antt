use Rattle.std.proofs.Common.{inr}
use Rattle.exportdata_cmd.specs.declared.exits.Status.TheVariants.{Files, Output}
use Rattle.exportdata_cmd.proofs.CarriedLemmas.{ended, broke_off, never_ended, ended_complete, reported, cut}
use Rattle.exportdata_cmd.proofs.CarriedLemmas.{reported_failed, reported_unread, reported_complete}
use Rattle.exportdata_cmd.proofs.top.run.Goals as goal

pub returns-in-Ok-clause-ends : goal.returns-in-Ok-clause-ends
returns-in-Ok-clause-ends g c _ = ended _ _ _ _ _ _ _ _ c.in-Ok.ensures.carried

pub returns-in-Ok-clause-complete : goal.returns-in-Ok-clause-complete
returns-in-Ok-clause-complete g c due is told readable _ _ =
    ended_complete _ _ _ _ _ _ _ _ c.in-Ok.ensures.carried due is told readable

pub returns-in-Ok-clause-output : goal.returns-in-Ok-clause-output
returns-in-Ok-clause-output g c is =
    absurd (never_ended _ _ 0 0 _ _ _ c.in-Ok.ensures.carried Output (λ e. cc) (λ e. cc) is)

pub returns-in-Ok-clause-cut_short : goal.returns-in-Ok-clause-cut_short
returns-in-Ok-clause-cut_short g c is =
    absurd (never_ended _ _ 0 0 _ _ _ c.in-Ok.ensures.carried Output (λ e. cc) (λ e. cc) is)

pub returns-in-Ok-clause-files : goal.returns-in-Ok-clause-files
returns-in-Ok-clause-files g c is =
    absurd (never_ended _ _ 0 0 _ _ _ c.in-Ok.ensures.carried Files (λ e. cc) (λ e. cc) is)

pub returns-in-Err-Output-clause-cut_short : goal.returns-in-Err-Output-clause-cut_short
returns-in-Err-Output-clause-cut_short g c _ =
    broke_off _ _ _ _ _ _ _ (rw c.in-Err-Output.field-0-is at c.in-Err-Output.ensures.carried)

pub returns-in-Err-Error-clause-ends : goal.returns-in-Err-Error-clause-ends
returns-in-Err-Error-clause-ends g c =
    reported _ _ _ _ _ _ _ (rw c.in-Err-Error.field-0-is at c.in-Err-Error.ensures.carried) _ _ _ c.report.ensures

pub returns-in-Err-Error-clause-complete : goal.returns-in-Err-Error-clause-complete
returns-in-Err-Error-clause-complete g c due is told readable on_out on_err =
    reported_complete _ _ _ _ _ _ _ (rw c.in-Err-Error.field-0-is at c.in-Err-Error.ensures.carried) _ _ _ c.report.ensures due is told readable on_err

pub returns-in-Err-Error-clause-output : goal.returns-in-Err-Error-clause-output
returns-in-Err-Error-clause-output g c is =
    inr (reported_failed _ _ _ _ _ _ _ (rw c.in-Err-Error.field-0-is at c.in-Err-Error.ensures.carried) _ _ _ c.report.ensures is)

pub returns-in-Err-Error-clause-cut_short : goal.returns-in-Err-Error-clause-cut_short
returns-in-Err-Error-clause-cut_short g c =
    cut _ _ _ _ _ _ _ (rw c.in-Err-Error.field-0-is at c.in-Err-Error.ensures.carried) _ _ _ c.report.ensures

pub returns-in-Err-Error-clause-files : goal.returns-in-Err-Error-clause-files
returns-in-Err-Error-clause-files g c =
    reported_unread _ _ _ _ _ _ _ (rw c.in-Err-Error.field-0-is at c.in-Err-Error.ensures.carried) _ _ _ c.report.ensures
