use Rattle.std.proofs.Common.{◌∙◌, sym, map}
use Rattle.session_files.proofs.Standing.{not_stood}
use Rattle.checked_files.proofs.RoleLemmas.{role_of_none, there_by, role_there}
use Rattle.checked_files.proofs.roles.SessionRolesRoles.role.Goals as goal

pub returns-in_err-place : goal.returns-in_err-place
returns-in_err-place c =
    let files = c.args.self.now.session.now in
    c.from_residual.ensures
    ∙ sym (role_of_none files c.args.q.now c.as_slice.result.now c.as_slice-2.result.now c.as_slice.ensures c.as_slice-2.ensures
    (not_stood files c.as_slice.result.now c.as_slice-2.result.now c.in_err-place.ensures.none))

pub returns : goal.returns
returns c =
    let files = c.args.self.now.session.now in
    let place = c.in_ok-place.place in
    role_there c.requires.stands.0 files (map (λ reads. reads.items) c.args.self.now.reads.now) c.requires.stands.1 c.args.q.now c.as_slice.result.now c.as_slice-2.result.now
    c.as_slice.ensures c.as_slice-2.ensures place c.in_ok-place.ensures.found c.role_at.result
    (λ read at. c.role_at.ensures c.requires.stands.0 read (there_by (λ reads. reads.items) c.args.self.now.reads.now place.file place.number ∙ at))
