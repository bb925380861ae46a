use Rattle.exportdata_cmd.proofs.OpeningLemmas.{missing_ends, failed_ends}
use Rattle.exportdata_cmd.proofs.opening.fetch.Goals as goal

pub returns-in-Err-Missing-clause-cause : goal.returns-in-Err-Missing-clause-cause
returns-in-Err-Missing-clause-cause g c =
    let kind = c.in-Err-Missing.field-0-is in
    let is = c.in-Err-Missing.is in
    missing_ends _ _ _ _ _ (c.in-Err-Missing.ensures.missing cc) c.in-Ok.ensures.ok

pub returns-in-Err-Failed-clause-cause : goal.returns-in-Err-Failed-clause-cause
returns-in-Err-Failed-clause-cause g c =
    let kind = c.in-Err-Failed.field-0-is in
    let is = c.in-Err-Failed.is in
    failed_ends _ _ _ _ _ (c.in-Err-Failed.ensures.failed cc) c.in-Ok.ensures.ok
