use Rattle.session_files.specs.OpenSessions.{all_opened}
use Rattle.session_files.proofs.IndexLemmas.{found_stands}
use Rattle.session_files.proofs.index.find_in.Goals as goal

pub returns-clause-found : goal.returns-clause-found
returns-clause-found c = found_stands (all_opened c.args.files.now) c.args.index.now c.requires c.args.path.now c.args.name.now c.in_ok-place.place _ c.in_ok-place.ensures.inside c.in_ok-place.ensures.found
