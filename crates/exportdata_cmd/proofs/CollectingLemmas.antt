-- Lists that are made of others, item by item.
use Rattle.std.proofs.Common.{◌≡◌, ℕ, ◌+◌, List, [], ◌∷◌, ◌++◌, map, take, Some, slice_get, sym, ◌∙◌, ap, add-one}
use Rattle.std.proofs.lemmas.List.{map-append}
use Rattle.exportdata_cmd.proofs.PuttingLemmas.{one_more}

-- the first items, and the one behind them
more_mapped : {Y Z : Type 0} (g : Y → Z) (ys : List Y) (k : ℕ) (y : Y) → slice_get ys k ≡ Some y
    → map g (take k ys) ++ g y ∷ [] ≡ map g (take (k + 1) ys)
more_mapped g ys k y there =
    sym (map-append g (take k ys) (y ∷ []))
    ∙ ap (map g) (sym (one_more ys k y there))
    ∙ ap (λ n. map g (take n ys)) (sym (add-one k))

pub maps_from : {Y Z : Type 0} (g : Y → Z) (items new : List Z) (one : Z) (ys : List Y) (k : ℕ) (y : Y)
    → items ≡ map g (take k ys) → new ≡ items ++ one ∷ [] → one ≡ g y → slice_get ys k ≡ Some y
    → new ≡ map g (take (k + 1) ys)
maps_from g items new one ys k y before pushed is there =
    pushed ∙ (λ i. before i ++ is i ∷ []) ∙ more_mapped g ys k y there

pub maps_on : {X Y Z : Type 0} (f : X → Z) (g : Y → Z) (items new : List X) (one : X) (ys : List Y) (k : ℕ) (y : Y)
    → map f items ≡ map g (take k ys) → new ≡ items ++ one ∷ [] → f one ≡ g y → slice_get ys k ≡ Some y
    → map f new ≡ map g (take (k + 1) ys)
maps_on f g items new one ys k y before pushed is there =
    ap (map f) pushed ∙ map-append f items (one ∷ []) ∙ (λ i. before i ++ is i ∷ []) ∙ more_mapped g ys k y there
