use Rattle.std.proofs.Common.{◌∙◌}
use Rattle.session_files.specs.OpenSessions.{all_opened}
use Rattle.session_files.proofs.PathLemmas.{named_there}
use Rattle.session_files.proofs.packages.package_in.Goals as goal

pub returns : goal.returns
returns c =
    c.package_name_at.ensures ∙ named_there (all_opened c.args.files.now) c.args.paths.now c.requires c.args.path.now c.in_ok-place.place _ c.in_ok-place.ensures.inside c.in_ok-place.ensures.found
