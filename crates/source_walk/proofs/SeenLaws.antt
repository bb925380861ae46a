-- What comes of two lists of visits, one behind the other.
use Rattle.std.proofs.Common.{◌≡◌, List, [], ◌∷◌, ◌++◌, Result, Ok, Err, refl, ap, ◌∙◌}
use Rattle.std.specs.Prelude.{OnOk}
use Rattle.source_walk.specs.Visits.{Visit}
use Rattle.source_walk.specs.Seen.{seen}

pub seen_both : {S : Type 0} (join : S → S → S) (tells : Visit → S) (so_far : S) (xs ys : List Visit) → seen join tells so_far (xs ++ ys) ≡ seen join tells (seen join tells so_far xs) ys
seen_both join tells so_far [] ys = refl
seen_both join tells so_far (v ∷ vs) ys = seen_both join tells (join so_far (tells v)) vs ys

on_ok : {X E P Q : Type 0} (r : Result X E) → (P → Q) → OnOk r P → OnOk r Q
on_ok (Ok x) f h = f h
on_ok (Err e) f h = tt

-- one visit, and then two lists of them, as they stand in what equals what is visited
pub two_more : {S T X E : Type 0} (join : S → S → S) (t₀ t₁ t₂ : Visit → S) (a b c d : S) (visits : T → List Visit) (this : T → Visit) (x y : T) (xs ys : List Visit) (r : Result X E) → x ≡ y → visits y ≡ this y ∷ (xs ++ ys)
    → b ≡ join a (t₀ (this x)) → t₁ ≡ t₀ → c ≡ seen join t₁ b xs → t₂ ≡ t₁ → OnOk r (d ≡ seen join t₂ c ys) → OnOk r (d ≡ seen join t₀ a (visits x))
two_more join t₀ t₁ t₂ a b c d visits this x y xs ys r same split first e more f last = on_ok r (λ h. h ∙ whole) last
  where
    first_is : b ≡ join a (t₀ (this y))
    first_is = first ∙ ap (λ z. join a (t₀ (this z))) same

    whole : seen join t₂ c ys ≡ seen join t₀ a (visits x)
    whole =
        let k : seen join t₀ a (visits x) ≡ seen join t₀ (join a (t₀ (this y))) (xs ++ ys) = ap (λ z. seen join t₀ a (visits z)) same ∙ ap (seen join t₀ a) split in
        let m = seen_both join t₀ (join a (t₀ (this y))) xs ys in
        cc

-- two lists of visits
pub two_lists : {S X E : Type 0} (join : S → S → S) (t₀ t₁ : Visit → S) (a b c : S) (all xs ys : List Visit) (r : Result X E) → all ≡ xs ++ ys → b ≡ seen join t₀ a xs → t₁ ≡ t₀ → OnOk r (c ≡ seen join t₁ b ys) → OnOk r (c ≡ seen join t₀ a all)
two_lists join t₀ t₁ a b c all xs ys r is first e last = on_ok r (λ h. h ∙ whole) last
  where
    whole : seen join t₁ b ys ≡ seen join t₀ a all
    whole = let k : seen join t₀ a all ≡ seen join t₀ a (xs ++ ys) = ap (seen join t₀ a) is in let m = seen_both join t₀ a xs ys in cc

pub ruleset steps = (seen_both)
