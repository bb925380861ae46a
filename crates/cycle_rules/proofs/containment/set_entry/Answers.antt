use Rattle.std.proofs.Common.{◌≡◌, ℕ, ◌<◌, List, Bool, true, length, map, slice_get, slice_set, get_or, Some, refl, arith, ap, ◌∙◌}
use Rattle.std.proofs.lemmas.List.{length-map}
use Rattle.std.proofs.lemmas.Option.{slice_get_read}
use Rattle.std.specs.declared.vec.Vec.{Vec}
use Rattle.std.specs.declared.alloc.Global.{Global}
use Rattle.cycle_rules.proofs.PlaceLemmas.{at_within, at-map_of, map-set}
use Rattle.cycle_rules.proofs.containment.set_entry.Goals as goal

set_row : (rows : List (Vec Bool Global)) (t j : ℕ) (old new : Vec Bool Global) (row : List Bool) → old ≡ get_or rows t old → new.items ≡ slice_set old.items j true → slice_get (map (λ r. r.items) rows) t ≡ Some row → map (λ r. r.items) (slice_set rows t new) ≡ slice_set (map (λ r. r.items) rows) t (slice_set row j true)
set_row rows t j old new row is written at =
    let within : t < length rows = let w = at_within (map (λ r. r.items) rows) t row at in let l = length-map rows (λ r. r.items) in omega arith in
    let from = at-map_of (λ r. r.items) rows t old (slice_get_read rows (length rows) t old refl within is) in
    let same : old.items ≡ row = cc in
    map-set (λ r. r.items) rows t new ∙ ap (λ l. slice_set (map (λ r. r.items) rows) t l) (written ∙ ap (λ l. slice_set l j true) same)

pub returns : goal.returns
returns c entries at = set_row c.args.rows.now.items c.args.row c.args.column c.index_mut.result.now _ entries c.index_mut.ensures.value refl at
