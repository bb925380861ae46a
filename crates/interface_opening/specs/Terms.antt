-- The terms of the interfaces of a type, from what came to their elements as they were opened.
use Rattle.std.specs.Prelude.{List, [], ◌∷◌, ◌++◌, Bool, cond, Result, Ok, Err, Option, Some, None}
use Rattle.std.specs.List.{list_any}
use Rattle.interface_opening.specs.Elements.{Term, Event, has_term, has_interface, ends_element}

-- a list of terms, or all types
abbrev pub Choice : Type 0 → Type 0
Choice T = Option (List (Term T))

-- an interface, what the elements that ended leave of it, and the union that is under way
pub record Sum (T : Type 0) : Type 0 where
  pub of : T
  pub whole : Choice T
  pub union : Choice T

infixl 1 ◌>>=◌
abbrev pub ◌>>=◌ : {F X Y : Type 0} → Result X F → (X → Result Y F) → Result Y F
Ok x >>= more = more x
Err f >>= more = Err f

abbrev pub more_terms : {T : Type 0} → Choice T → Choice T → Choice T
more_terms (Some xs) (Some ys) = Some (xs ++ ys)
more_terms _ _ = None

module _ {T F : Type 0} (same_term : Term T → Term T → Bool) (covered : Term T → Term T → Result Bool F) where
  -- of two terms the one that the other covers, the first where each covers the other
  abbrev pub common : Term T → Term T → Result (Option (Term T)) F
  common x y =
      covered x y >>= λ under. cond under (Ok (Some x)) (covered y x >>= λ over. Ok (cond over (Some y) None))

  -- a term that is there already isn't added again
  abbrev pub with_term : List (Term T) → Option (Term T) → List (Term T)
  with_term found None = found
  with_term found (Some z) = cond (list_any (same_term z) found) found (found ++ z ∷ [])

  abbrev pub meet_one : Term T → List (Term T) → List (Term T) → Result (List (Term T)) F
  meet_one x [] found = Ok found
  meet_one x (y ∷ ys) found = common x y >>= λ z. meet_one x ys (with_term found z)

  abbrev pub meet_lists : List (Term T) → List (Term T) → List (Term T) → Result (List (Term T)) F
  meet_lists [] ys found = Ok found
  meet_lists (x ∷ xs) ys found = meet_one x ys found >>= meet_lists xs ys

  -- what two elements leave together
  abbrev pub meet : Choice T → Choice T → Result (Choice T) F
  meet None c = Ok c
  meet (Some xs) None = Ok (Some xs)
  meet (Some xs) (Some ys) = meet_lists xs ys [] >>= λ zs. Ok (Some zs)

module _ {T F : Type 0} (same : T → T → Bool) (same_term : Term T → Term T → Bool)
    (covered : Term T → Term T → Result Bool F) where
  abbrev pub sum_of : List (Sum T) → T → Sum T
  sum_of [] x = record { of = x; whole = None; union = Some [] }
  sum_of (s ∷ sums) x = cond (same x s.of) s (sum_of sums x)

  abbrev pub put_sum : List (Sum T) → Sum T → List (Sum T)
  put_sum [] s = s ∷ []
  put_sum (t ∷ sums) s = cond (same s.of t.of) (s ∷ sums) (t ∷ put_sum sums s)

  abbrev pub with_union : Sum T → Choice T → Sum T
  with_union s c = record { of = s.of; whole = s.whole; union = more_terms s.union c }

  abbrev pub with_whole : Sum T → Choice T → Sum T
  with_whole s c = record { of = s.of; whole = c; union = Some [] }

  abbrev pub happens : Event T → List (Sum T) → Result (List (Sum T)) F
  happens (has_term holder x) sums = Ok (put_sum sums (with_union (sum_of sums holder) (Some (x ∷ []))))
  happens (has_interface holder y) sums = Ok (put_sum sums (with_union (sum_of sums holder) (sum_of sums y).whole))
  happens (ends_element holder) sums =
      meet same_term covered (sum_of sums holder).whole (sum_of sums holder).union
      >>= λ c. Ok (put_sum sums (with_whole (sum_of sums holder) c))

  abbrev pub all_happen : List (Event T) → List (Sum T) → Result (List (Sum T)) F
  all_happen [] sums = Ok sums
  all_happen (event ∷ events) sums = happens event sums >>= all_happen events

  -- the terms of a type whose opening, as a term of itself, brought these events
  abbrev pub terms_of : List (Event T) → T → Result (Choice T) F
  terms_of events x = all_happen events [] >>= λ sums. Ok (sum_of sums x).union
