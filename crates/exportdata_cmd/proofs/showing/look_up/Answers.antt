use Rattle.std.proofs.Common.{length, ap, sym, ◌∙◌}
use Rattle.exportdata_cmd.proofs.LookedUpLemmas.{as_many}
use Rattle.exportdata_cmd.proofs.showing.look_up.Goals as goal

pub count_declared-requires : goal.count_declared-requires
count_declared-requires c =
    ap (λ xs. length xs) c.as_slice-3.ensures.value
    ∙ as_many _ _ c.as_slice.result.now c.in_ok-found.found.items c.in_ok-found.ensures.found
    ∙ ap (λ xs. length xs) (c.as_slice.ensures.value ∙ sym c.as_slice-2.ensures.value)
