-- A loop over a row: what is told so far, and what the rest of the row gives.
use Rattle.std.proofs.Common.{◌≡◌, ℕ, suc, ◌<◌, ◌≤◌, ◌+◌, List, [], ◌∷◌, ◌++◌, length, drop, get_or, sym, ap, ◌∙◌, add-one, drop-cons}
use Rattle.std.proofs.Math.ListN.{drop_of_length-le}
use Rattle.source_walk.specs.Visits.{Visit}
use Rattle.source_walk.specs.Seen.{seen}
use Rattle.source_walk.proofs.SeenLaws.{seen_both}

-- so many items of the row were seen, whose visits are given for every list of items
pub record Going {S X : Type 0} (join : S → S → S) (tells₀ : Visit → S) (told₀ : S) (rows : ℕ → List X → List Visit) (xs : List X) (i : ℕ) (tells : Visit → S) (told : S) : Type 0 where
  pub same : tells ≡ tells₀
  pub rest : seen join tells₀ told (rows i (drop i xs)) ≡ seen join tells₀ told₀ (rows 0 xs)

pub turn : {S X : Type 0} (join : S → S → S) (tells₀ : Visit → S) (told₀ : S) (rows : ℕ → List X → List Visit) (xs : List X) (i : ℕ) (tells later : Visit → S) (told after : S) (x : X) (this one : List Visit)
    → Going join tells₀ told₀ rows xs i tells told → i < length xs → x ≡ get_or xs i x → ((ys : List X) → rows i (x ∷ ys) ≡ this ++ rows (suc i) ys) → this ≡ one
    → after ≡ seen join tells told one → later ≡ tells → Going join tells₀ told₀ rows xs (i + 1) later after
turn join tells₀ told₀ rows xs i tells later told after x this one going inside item row same step kept =
    let cons : drop i xs ≡ x ∷ drop (suc i) xs = drop-cons xs i x inside ∙ ap (λ y. y ∷ drop (suc i) xs) (sym item) in
    let split : rows i (drop i xs) ≡ one ++ rows (suc i) (drop (suc i) xs) = ap (rows i) cons ∙ row (drop (suc i) xs) ∙ ap (λ k. k ++ rows (suc i) (drop (suc i) xs)) same in
    let both : seen join tells₀ told (rows i (drop i xs)) ≡ seen join tells₀ (seen join tells₀ told one) (rows (suc i) (drop (suc i) xs)) = ap (seen join tells₀ told) split ∙ seen_both join tells₀ told one (rows (suc i) (drop (suc i) xs)) in
    let after_is : after ≡ seen join tells₀ told one = step ∙ ap (λ t. seen join t told one) going.same in
    record {
      same = kept ∙ going.same;
      rest = rw add-one (ap (λ a. seen join tells₀ a (rows (suc i) (drop (suc i) xs))) after_is ∙ sym both ∙ going.rest);
    }

no_more : {X : Type 0} (xs : List X) (i : ℕ) → length xs ≤ i → drop i xs ≡ []
no_more xs i h = drop_of_length-le xs h

pub at_end : {S X : Type 0} (join : S → S → S) (tells₀ : Visit → S) (told₀ : S) (rows : ℕ → List X → List Visit) (xs : List X) (i : ℕ) (tells : Visit → S) (told : S)
    → Going join tells₀ told₀ rows xs i tells told → length xs ≤ i → rows i [] ≡ [] → told ≡ seen join tells₀ told₀ (rows 0 xs)
at_end join tells₀ told₀ rows xs i tells told going past none = sym (ap (seen join tells₀ told) (ap (rows i) (no_more xs i past) ∙ none)) ∙ going.rest
