-- How many pairs a walk meets, and that none is met twice.
use Rattle.std.proofs.Common.{◌≡◌, ◌≢◌, ℕ, zero, suc, ◌+◌, ◌<◌, ◌≤◌, List, [], ◌∷◌, ◌++◌, length, map, Bool, true, false, cond, ◌||◌, Result, Ok, Err, Option, Some, None, refl, sym, ap, subst, ◌∙◌, arith, length-append, get_or}
use Rattle.std.specs.List.{AllPairs, list_any}
use Rattle.std.proofs.lemmas.List.Quantifiers.{all_pairs_push}
use Rattle.pair_walk.specs.Walk.{End, by_itself, apart, past_limit, broken, Walked, Visit, Next, nothing, faulty, found, visits, unless_met, next, ended, at_limit, visited, onward, walk}

module _ {P Q F : Type 0} (settle : P → Result Q F) (same : Q → Q → Bool) (steps : Q → Result (Option (List P)) F) (reflexive : (a : Q) → same a a ≡ true) where
  -- past the limit one pair more was met than may be, else at most as many as may be
  abbrev Counts : ℕ → Walked Q F → Type 0
  Counts most w = (w.end ≡ past_limit → length w.pairs ≡ suc most) × (w.end ≢ past_limit → length w.pairs ≤ most)

  one_more : (met : List Q) (q : Q) → length (met ++ q ∷ []) ≡ suc (length met)
  one_more met q = omega (arith, length-append met (q ∷ []))

  limit_counts : (met : List Q) (n : Next P Q F) → Counts (length met + 0) (at_limit settle same steps met n)
  limit_counts met nothing = (λ e. absurd cc, λ no. omega arith)
  limit_counts met (faulty f) = (λ e. absurd cc, λ no. omega arith)
  limit_counts met (found q depth behind) = (λ e. omega (arith, one_more met q), λ no. absurd (no refl))

  visit_counts : (n : ℕ) (further : List Q → List (Visit P) → Walked Q F) → ((met : List Q) (due : List (Visit P)) → Counts (length met + n) (further met due))
      → (met : List Q) (q : Q) (depth : ℕ) (behind : List (Visit P)) (r : Result (Option (List P)) F)
      → Counts (length met + suc n) (visited settle same steps further (met ++ q ∷ []) depth behind r)
  visit_counts n further hyp met q depth behind (Err f) = (λ e. absurd cc, λ no. omega (arith, one_more met q))
  visit_counts n further hyp met q depth behind (Ok None) = (λ e. absurd cc, λ no. omega (arith, one_more met q))
  visit_counts n further hyp met q depth behind (Ok (Some parts)) =
      let all = further (met ++ q ∷ []) (visits (suc depth) parts ++ behind) in
      let most : length (met ++ q ∷ []) + n ≡ length met + suc n = omega (arith, one_more met q) in
      subst (λ (m : ℕ). Counts m all) most (hyp (met ++ q ∷ []) (visits (suc depth) parts ++ behind))

  onward_counts : (n : ℕ) (further : List Q → List (Visit P) → Walked Q F) → ((met : List Q) (due : List (Visit P)) → Counts (length met + n) (further met due))
      → (met : List Q) (x : Next P Q F) → Counts (length met + suc n) (onward settle same steps further met x)
  onward_counts n further hyp met nothing = (λ e. absurd cc, λ no. omega arith)
  onward_counts n further hyp met (faulty f) = (λ e. absurd cc, λ no. omega arith)
  onward_counts n further hyp met (found q depth behind) = visit_counts n further hyp met q depth behind (steps q)

  walk_counts : (n : ℕ) (met : List Q) (due : List (Visit P)) → Counts (length met + n) (walk settle same steps n met due)
  unfolding walk
  walk_counts zero met due = limit_counts met (next settle same steps met due)
  walk_counts (suc n) met due = onward_counts n (walk settle same steps n) (walk_counts n) met (next settle same steps met due)

  counts : (n : ℕ) (due : List (Visit P)) → Counts n (walk settle same steps n [] due)
  counts n due = let none : 0 + n ≡ n = omega arith in subst (λ (m : ℕ). Counts m (walk settle same steps n [] due)) none (walk_counts n [] due)

  pub past : (n : ℕ) (due : List (Visit P)) → (walk settle same steps n [] due).end ≡ past_limit → length (walk settle same steps n [] due).pairs ≡ suc n
  past n due = (counts n due).0

  pub within : (n : ℕ) (due : List (Visit P)) → (walk settle same steps n [] due).end ≢ past_limit → length (walk settle same steps n [] due).pairs ≤ n
  within n due = (counts n due).1

  -- ---- once

  abbrev Once : List Q → Type 0
  Once qs = AllPairs (λ a b. a ≢ b) qs

  -- a pair that is found is new
  abbrev IsNew : List Q → Next P Q F → Type 0
  IsNew met nothing = Unit {0}
  IsNew met (faulty f) = Unit {0}
  IsNew met (found q depth behind) = list_any (same q) met ≡ false

  by_test : (met : List Q) (q : Q) (depth : ℕ) (behind : List (Visit P)) (later : Next P Q F) → IsNew met later → (b : Bool) → list_any (same q) met ≡ b → IsNew met (cond b later (found q depth behind))
  by_test met q depth behind later new true e = new
  by_test met q depth behind later new false e = e

  by_settled : (met : List Q) (depth : ℕ) (behind : List (Visit P)) (later : Next P Q F) → IsNew met later → (s : Result Q F) → IsNew met (unless_met settle same steps met s depth behind later)
  by_settled met depth behind later new (Err f) = tt
  by_settled met depth behind later new (Ok q) = by_test met q depth behind later new (list_any (same q) met) refl

  next_new : (met : List Q) (due : List (Visit P)) → IsNew met (next settle same steps met due)
  next_new met [] = tt
  next_new met (x ∷ xs) = by_settled met x.depth xs (next settle same steps met xs) (next_new met xs) (settle x.pair)

  or_first : (a b : Bool) → a ≡ true → (a || b) ≡ true
  or_first true b e = refl
  or_first false b e = absurd cc

  or_later : (a b : Bool) → b ≡ true → (a || b) ≡ true
  or_later true b e = refl
  or_later false b e = e

  has_any : (q d : Q) (met : List Q) (k : ℕ) → k < length met → q ≡ get_or met k d → list_any (same q) met ≡ true
  has_any q d [] k below is = absurd (omega (arith, below))
  has_any q d (x ∷ xs) zero below is = or_first (same q x) (list_any (same q) xs) (subst (λ (y : Q). same q y ≡ true) is (reflexive q))
  has_any q d (x ∷ xs) (suc k) below is = or_later (same q x) (list_any (same q) xs) (has_any q d xs k (omega (arith, below)) is)

  once_more : (met : List Q) (q : Q) → list_any (same q) met ≡ false → Once met → Once (met ++ q ∷ [])
  once_more met q new once =
      all_pairs_push (λ a b. a ≢ b) met q once (λ k d below is. absurd (truth_differs (sym (has_any q d met k below (sym is)) ∙ new)))
    where
      truth_differs : true ≡ false → ⊥
      truth_differs e = absurd cc

  limit_once : (met : List Q) → Once met → (n : Next P Q F) → IsNew met n → Once (at_limit settle same steps met n).pairs
  limit_once met once nothing new = once
  limit_once met once (faulty f) new = once
  limit_once met once (found q depth behind) new = once_more met q new once

  visit_once : (further : List Q → List (Visit P) → Walked Q F) → ((met : List Q) (due : List (Visit P)) → Once met → Once (further met due).pairs)
      → (met : List Q) → Once met → (depth : ℕ) (behind : List (Visit P)) (r : Result (Option (List P)) F) → Once (visited settle same steps further met depth behind r).pairs
  visit_once further hyp met once depth behind (Err f) = once
  visit_once further hyp met once depth behind (Ok None) = once
  visit_once further hyp met once depth behind (Ok (Some parts)) = hyp met (visits (suc depth) parts ++ behind) once

  onward_once : (further : List Q → List (Visit P) → Walked Q F) → ((met : List Q) (due : List (Visit P)) → Once met → Once (further met due).pairs)
      → (met : List Q) → Once met → (n : Next P Q F) → IsNew met n → Once (onward settle same steps further met n).pairs
  onward_once further hyp met once nothing new = once
  onward_once further hyp met once (faulty f) new = once
  onward_once further hyp met once (found q depth behind) new = visit_once further hyp (met ++ q ∷ []) (once_more met q new once) depth behind (steps q)

  walk_once : (n : ℕ) (met : List Q) (due : List (Visit P)) → Once met → Once (walk settle same steps n met due).pairs
  unfolding walk
  walk_once zero met due once = limit_once met once (next settle same steps met due) (next_new met due)
  walk_once (suc n) met due once = onward_once (walk settle same steps n) (walk_once n) met once (next settle same steps met due) (next_new met due)

  pub met_once : (n : ℕ) (due : List (Visit P)) → Once (walk settle same steps n [] due).pairs
  met_once n due = walk_once n [] due (λ i j d less below. absurd (omega (arith, below)))
