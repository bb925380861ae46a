use Rattle.std.proofs.Common.{length, sym, ◌∙◌}
use Rattle.session_files.specs.OpenSessions.{all_opened}
use Rattle.session_files.specs.Sessions.{all_listed}
use Rattle.session_files.proofs.WayLemmas.{unknown_none, basic_there}
use Rattle.session_files.proofs.basics.basic_in.Goals as goal

pub returns-in_err-place : goal.returns-in_err-place
returns-in_err-place c =
    let files = all_opened c.args.files.now in
    c.from_residual.ensures ∙ sym (unknown_none files c.args.path.now c.args.name.now c.in_err-place.ensures.none (length (all_listed files)))

pub returns : goal.returns
returns c = basic_there (all_opened c.args.files.now) c.args.index.now c.args.basics.now c.in_ok-place.place _ c.args.path.now c.args.name.now c.requires.known c.in_ok-place.ensures.found
