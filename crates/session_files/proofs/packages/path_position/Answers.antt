use Rattle.std.proofs.Common.{Ok, Err}
use Rattle.std.proofs.lemmas.Fn.{always_returns_same}
use Rattle.wire_bytes.proofs.RiseLemmas.{beside, found_there, none_there}
use Rattle.session_files.specs.OpenSessions.{all_opened}
use Rattle.session_files.specs.PathIndex.{path_at}
use Rattle.session_files.proofs.PathLemmas.{unnamed}
use Rattle.session_files.proofs.packages.path_position.Goals as goal

pub returns-in-Ok-clause-found : goal.returns-in-Ok-clause-found
returns-in-Ok-clause-found c =
    let text = path_at (all_opened c.args.files.now) in
    let paths = c.args.paths.now in
    let path = c.args.path.now in
    let by_text = c.in-Ok.ensures.position (beside text paths c.requires.rise path) (always_returns_same _ _ _ (λ a r f k. (k.met.1, λ j. (k.met.0.0 j, k.met.0.1 j)))) in
    found_there text paths c.requires.rise path (Ok c.in-Ok.place) c.in-Ok.ensures.bound by_text

pub returns-in-Err-clause-none : goal.returns-in-Err-clause-none
returns-in-Err-clause-none c =
    let files = all_opened c.args.files.now in
    let text = path_at files in
    let paths = c.args.paths.now in
    let path = c.args.path.now in
    let by_text = c.in-Err.ensures.position (beside text paths c.requires.rise path) (always_returns_same _ _ _ (λ a r f k. (k.met.1, λ j. (k.met.0.0 j, k.met.0.1 j)))) in
    unnamed files paths c.requires path (none_there text paths c.requires.rise path (Err c.in-Err.field-0) c.in-Err.ensures.bound by_text)
