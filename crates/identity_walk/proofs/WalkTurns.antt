-- One visit of a walk over pairs, by how it comes out.
use Rattle.std.proofs.Common.{◌≡◌, ℕ, zero, suc, List, [], ◌∷◌, ◌++◌, Bool, true, false, cond, Result, Ok, Err, Option, refl, ap, ◌∙◌}
use Rattle.std.specs.List.{list_any}
use Rattle.pair_walk.specs.Walk.{by_itself, past_limit, broken, Walked, Visit, Next, found, unless_met, next, at_limit, visited, onward, walk}

module _ {P Q F : Type 0} (settle : P → Result Q F) (same : Q → Q → Bool) (steps : Q → Result (Option (List P)) F) where
  abbrev W : ℕ → List Q → List (Visit P) → Walked Q F
  W = walk settle same steps

  abbrev first : List Q → Visit P → List (Visit P) → Result Q F → Next P Q F
  first met x xs s = unless_met settle same steps met s x.depth xs (next settle same steps met xs)

  pub ends : (n : ℕ) (met : List Q) → (W n met []).end ≡ by_itself
  unfolding walk
  ends zero met = refl
  ends (suc n) met = refl

  pub breaks : (n : ℕ) (met : List Q) (x : Visit P) (xs : List (Visit P)) (f : F) → settle x.pair ≡ Err f → (W n met (x ∷ xs)).end ≡ broken f
  unfolding walk
  breaks zero met x xs f is = ap (λ s. (at_limit settle same steps met (first met x xs s)).end) is
  breaks (suc n) met x xs f is = ap (λ s. (onward settle same steps (W n) met (first met x xs s)).end) is

  pub passes : (n : ℕ) (met : List Q) (x : Visit P) (xs : List (Visit P)) (q : Q) → settle x.pair ≡ Ok q → list_any (same q) met ≡ true
      → W n met (x ∷ xs) ≡ W n met xs
  unfolding walk
  passes zero met x xs q is known = ap (λ s. at_limit settle same steps met (first met x xs s)) is
      ∙ ap (λ b. at_limit settle same steps met (cond b (next settle same steps met xs) (found q x.depth xs))) known
  passes (suc n) met x xs q is known = ap (λ s. onward settle same steps (W n) met (first met x xs s)) is
      ∙ ap (λ b. onward settle same steps (W n) met (cond b (next settle same steps met xs) (found q x.depth xs))) known

  pub passes_limit : (met : List Q) (x : Visit P) (xs : List (Visit P)) (q : Q) → settle x.pair ≡ Ok q → list_any (same q) met ≡ false
      → (W zero met (x ∷ xs)).end ≡ past_limit
  unfolding walk
  passes_limit met x xs q is new = ap (λ s. (at_limit settle same steps met (first met x xs s)).end) is
      ∙ ap (λ b. (at_limit settle same steps met (cond b (next settle same steps met xs) (found q x.depth xs))).end) new

  pub goes : (n : ℕ) (met : List Q) (x : Visit P) (xs : List (Visit P)) (q : Q) (r : Result (Option (List P)) F) → settle x.pair ≡ Ok q
      → list_any (same q) met ≡ false → steps q ≡ r
      → W (suc n) met (x ∷ xs) ≡ visited settle same steps (W n) (met ++ q ∷ []) x.depth xs r
  unfolding walk
  goes n met x xs q r is new leads = ap (λ s. onward settle same steps (W n) met (first met x xs s)) is
      ∙ ap (λ b. onward settle same steps (W n) met (cond b (next settle same steps met xs) (found q x.depth xs))) new
      ∙ ap (visited settle same steps (W n) (met ++ q ∷ []) x.depth xs) leads
