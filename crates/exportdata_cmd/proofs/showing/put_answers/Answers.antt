use Rattle.std.proofs.Common.{◌∷◌, [], ◌∙◌, ap, refl, Err}
use Rattle.std.proofs.lemmas.Result.{err_from_is_err_and}
use Rattle.exportdata_cmd.specs.Showing.{decoded_line}
use Rattle.exportdata_cmd.specs.LookedUp.{found_texts}
use Rattle.exportdata_cmd.proofs.PuttingLemmas.{puts_as, puts_then, puts_fewer}
use Rattle.exportdata_cmd.proofs.showing.put_answers.Goals as goal

pub returns-in_err-put_names : goal.returns-in_err-put_names
returns-in_err-put_names g c =
    let p = err_from_is_err_and c.from_residual.result c.from_residual.ensures.1 in
    let shown = c.args.shown.now in
    puts_as _ _ _ _ _ _ refl (p.1 ∙ ap Err p.2)
    (puts_fewer _ _ (found_texts c.args.arena.now.nodes shown.names.items shown.found.items) (decoded_line shown.tally.declared shown.tally.listed ∷ []) _ (rw (c.as_slice.ensures.value, c.as_slice-2.ensures.value) at c.in_err-put_names.ensures))

pub returns : goal.returns
returns g c =
    let shown = c.args.shown.now in
    puts_then _ _ _ (found_texts c.args.arena.now.nodes shown.names.items shown.found.items) _ _ (rw (c.as_slice.ensures.value, c.as_slice-2.ensures.value) at c.in_ok-put_names.ensures.whole) c.put_tally.ensures
