-- A walk that isn't past its limit is the same with a greater one.
use Rattle.std.proofs.Common.{◌≡◌, ◌≢◌, ℕ, zero, suc, List, [], ◌∷◌, ◌++◌, Bool, Result, Ok, Err, Option, Some, None, refl}
use Rattle.pair_walk.specs.Walk.{End, by_itself, apart, past_limit, broken, Walked, Visit, Next, nothing, faulty, found, visits, next, ended, at_limit, visited, onward, walk}

module _ {P Q F : Type 0} (settle : P → Result Q F) (same : Q → Q → Bool) (steps : Q → Result (Option (List P)) F) where
  abbrev Further : Type 0
  Further = List Q → List (Visit P) → Walked Q F

  abbrev IsMore : Further → Further → Type 0
  IsMore more less = (met : List Q) (due : List (Visit P)) → (less met due).end ≢ past_limit → more met due ≡ less met due

  at_the_limit : (further : Further) (met : List Q) (n : Next P Q F) → (at_limit settle same steps met n).end ≢ past_limit
      → onward settle same steps further met n ≡ at_limit settle same steps met n
  at_the_limit further met nothing within = refl
  at_the_limit further met (faulty f) within = refl
  at_the_limit further met (found q depth behind) within = absurd (within refl)

  visit_more : (more less : Further) → IsMore more less → (met : List Q) (depth : ℕ) (behind : List (Visit P)) (r : Result (Option (List P)) F)
      → (visited settle same steps less met depth behind r).end ≢ past_limit → visited settle same steps more met depth behind r ≡ visited settle same steps less met depth behind r
  visit_more more less is met depth behind (Err f) within = refl
  visit_more more less is met depth behind (Ok None) within = refl
  visit_more more less is met depth behind (Ok (Some parts)) within = is met (visits (suc depth) parts ++ behind) within

  onward_more : (more less : Further) → IsMore more less → (met : List Q) (n : Next P Q F)
      → (onward settle same steps less met n).end ≢ past_limit → onward settle same steps more met n ≡ onward settle same steps less met n
  onward_more more less is met nothing within = refl
  onward_more more less is met (faulty f) within = refl
  onward_more more less is met (found q depth behind) within = visit_more more less is (met ++ q ∷ []) depth behind (steps q) within

  pub one_more : (n : ℕ) → IsMore (walk settle same steps (suc n)) (walk settle same steps n)
  unfolding walk
  one_more zero met due within = at_the_limit (walk settle same steps zero) met (next settle same steps met due) within
  one_more (suc n) met due within = onward_more (walk settle same steps (suc n)) (walk settle same steps n) (one_more n) met (next settle same steps met due) within
