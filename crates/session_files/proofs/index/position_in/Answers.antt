use Rattle.std.proofs.lemmas.Fn.{always_returns_same}
use Rattle.session_files.specs.OpenSessions.{all_opened}
use Rattle.session_files.proofs.IndexLemmas.{beside, found_there, none_stands}
use Rattle.session_files.proofs.index.position_in.Goals as goal

pub returns-in-Ok-clause-found : goal.returns-in-Ok-clause-found
returns-in-Ok-clause-found c =
    let files = all_opened c.args.files.now in
    let index = c.args.index.now in
    let path = c.args.path.now in
    let name = c.args.name.now in
    let position = c.in-Ok.ensures.position (beside files index c.requires path name) (always_returns_same _ _ _ (λ a r f k. (k.met.1, λ j. (k.met.0.0 j, k.met.0.1 j, k.met.0.2 j)))) in
    found_there files index c.requires path name c.in-Ok.place c.in-Ok.ensures.bound position

pub returns-in-Err-clause-none : goal.returns-in-Err-clause-none
returns-in-Err-clause-none c =
    let files = all_opened c.args.files.now in
    let index = c.args.index.now in
    let path = c.args.path.now in
    let name = c.args.name.now in
    none_stands files index c.requires path name c.in-Err.field-0
    (c.in-Err.ensures.position (beside files index c.requires path name) (always_returns_same _ _ _ (λ a r f k. (k.met.1, λ j. (k.met.0.0 j, k.met.0.1 j, k.met.0.2 j)))))
