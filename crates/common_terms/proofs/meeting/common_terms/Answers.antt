use Rattle.std.proofs.Common.{sym, subst}
use Rattle.std.proofs.lemmas.Result.{err_from_is_err_and}
use Rattle.common_terms.specs.Calls.{AllWithin}
use Rattle.common_terms.proofs.meeting.common_terms.Goals as goal

pub returns-in_err-meet_lists-clause-exact : goal.returns-in_err-meet_lists-clause-exact
returns-in_err-meet_lists-clause-exact g c =
    let p = err_from_is_err_and c.from_residual.result c.from_residual.ensures.1 in
    rw (p.1, p.2) (rw c.new-found.ensures.empty at c.in_err-meet_lists.ensures.exact)

pub returns-in_err-meet_lists-clause-kept : goal.returns-in_err-meet_lists-clause-kept
returns-in_err-meet_lists-clause-kept g c = rw c.new-found.ensures.empty at c.in_err-meet_lists.ensures.kept

pub returns-in-Ok-clause-within : goal.returns-in-Ok-clause-within
returns-in-Ok-clause-within g c n first second =
    subst (AllWithin n) (sym c.in-Ok.ensures) (c.in_ok-meet_lists.ensures.within n first second (subst (AllWithin n) (sym c.new-found.ensures.empty) tt))

pub returns-in-Ok-clause-kept : goal.returns-in-Ok-clause-kept
returns-in-Ok-clause-kept g c = rw c.new-found.ensures.empty at c.in_ok-meet_lists.ensures.kept

pub returns-in-Err-clause-kept : goal.returns-in-Err-clause-kept
returns-in-Err-clause-kept g c = rw c.new-found.ensures.empty at c.in_ok-meet_lists.ensures.kept
