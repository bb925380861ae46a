-- Terms in common, by two ways to tell what covers what, which agree on the terms that are there.
use Rattle.std.proofs.Common.{◌≡◌, Bool, true, false, cond, List, [], ◌∷◌, ◌++◌, Option, Some, None, Ok, Err, refl, ap, ◌∙◌}
use Rattle.std.specs.Prelude.{Result, IfOk, IfSome}
use Rattle.std.specs.List.{AllByRecursion, list_any}
use Rattle.interface_opening.specs.Elements.{Term, Event, has_term, has_interface, ends_element}
use Rattle.interface_opening.specs.Terms.{Choice, Sum, ◌>>=◌, more_terms, common, with_term, meet_one, meet_lists, meet, sum_of, put_sum, with_union, with_whole, happens, all_happen, terms_of}

-- what holds of a term that comes to an element
abbrev pub OfEvent : {T : Type 0} → (Term T → Type 0) → Event T → Type 0
OfEvent P (has_term holder x) = P x
OfEvent P _ = Unit {0}

module _ {T F : Type 0} (same : T → T → Bool) (same_term : Term T → Term T → Bool) (one other : Term T → Term T → Result Bool F)
    (P : Term T → Type 0) (agree : (x y : Term T) → P x → P y → one x y ≡ other x y) where
  abbrev pub Terms : List (Term T) → Type 0
  Terms = AllByRecursion P

  abbrev pub OfChoice : Choice T → Type 0
  OfChoice c = IfSome c Terms

  pub record OfSum (s : Sum T) : Type 0 where
    pub whole : OfChoice s.whole
    pub union : OfChoice s.union

  join : (xs ys : List (Term T)) → Terms xs → Terms ys → Terms (xs ++ ys)
  join [] ys left right = right
  join (x ∷ xs) ys left right = (left.0, join xs ys left.1 right)

  -- ---- lists

  common_agrees : (x y : Term T) → P x → P y → common same_term one x y ≡ common same_term other x y
  common_agrees x y here there = λ i. agree x y here there i >>= λ under. cond under (Ok (Some x)) (agree y x there here i >>= λ over. Ok (cond over (Some y) None))

  common_of : (x y : Term T) → P x → P y → IfOk (common same_term other x y) (λ z. IfSome z P)
  common_of x y here there = by (other x y) (other y x)
    where
      second : (over : Bool) → IfSome (cond over (Some y) None) P
      second true = there
      second false = tt

      by : (first last : Result Bool F) → IfOk (first >>= λ under. cond under (Ok (Some x)) (last >>= λ over. Ok (cond over (Some y) None))) (λ z. IfSome z P)
      by (Ok true) last = here
      by (Ok false) (Ok over) = second over
      by (Ok false) (Err f) = tt
      by (Err f) last = tt

  with_agrees : (found : List (Term T)) (z : Option (Term T)) → with_term same_term one found z ≡ with_term same_term other found z
  with_agrees found None = refl
  with_agrees found (Some z) = refl

  with_of : (found : List (Term T)) (z : Option (Term T)) → Terms found → IfSome z P → Terms (with_term same_term other found z)
  with_of found None all own = all
  with_of found (Some z) all own = by (list_any (same_term z) found)
    where
      by : (b : Bool) → Terms (cond b found (found ++ z ∷ []))
      by true = all
      by false = join found (z ∷ []) all (own, tt)

  one_agrees : (x : Term T) (ys found : List (Term T)) → P x → Terms ys → meet_one same_term one x ys found ≡ meet_one same_term other x ys found
  one_agrees x [] found here all = refl
  one_agrees x (y ∷ ys) found here all =
      ap (λ r. r >>= λ z. meet_one same_term one x ys (with_term same_term one found z)) (common_agrees x y here all.0)
      ∙ by (λ z. one_agrees x ys (with_term same_term other found z) here all.1) (common same_term other x y)
    where
      by : ((z : Option (Term T)) → meet_one same_term one x ys (with_term same_term other found z) ≡ meet_one same_term other x ys (with_term same_term other found z))
          → (r : Result (Option (Term T)) F) → (r >>= λ z. meet_one same_term one x ys (with_term same_term one found z)) ≡ (r >>= λ z. meet_one same_term other x ys (with_term same_term other found z))
      by later (Ok z) = ap (meet_one same_term one x ys) (with_agrees found z) ∙ later z
      by later (Err f) = refl

  one_of : (x : Term T) (ys found : List (Term T)) → P x → Terms ys → Terms found → IfOk (meet_one same_term other x ys found) Terms
  one_of x [] found here all was = was
  one_of x (y ∷ ys) found here all was =
      by (λ z own. one_of x ys (with_term same_term other found z) here all.1 (with_of found z was own)) (common same_term other x y) (common_of x y here all.0)
    where
      by : ((z : Option (Term T)) → IfSome z P → IfOk (meet_one same_term other x ys (with_term same_term other found z)) Terms)
          → (r : Result (Option (Term T)) F) → IfOk r (λ z. IfSome z P) → IfOk (r >>= λ z. meet_one same_term other x ys (with_term same_term other found z)) Terms
      by later (Ok z) own = later z own
      by later (Err f) own = tt

  lists_agree : (xs ys found : List (Term T)) → Terms xs → Terms ys → meet_lists same_term one xs ys found ≡ meet_lists same_term other xs ys found
  lists_agree [] ys found left right = refl
  lists_agree (x ∷ xs) ys found left right =
      ap (λ r. r >>= meet_lists same_term one xs ys) (one_agrees x ys found left.0 right)
      ∙ by (λ more. lists_agree xs ys more left.1 right) (meet_one same_term other x ys found)
    where
      by : ((more : List (Term T)) → meet_lists same_term one xs ys more ≡ meet_lists same_term other xs ys more) → (r : Result (List (Term T)) F) → (r >>= meet_lists same_term one xs ys) ≡ (r >>= meet_lists same_term other xs ys)
      by later (Ok more) = later more
      by later (Err f) = refl

  lists_of : (xs ys found : List (Term T)) → Terms xs → Terms ys → Terms found → IfOk (meet_lists same_term other xs ys found) Terms
  lists_of [] ys found left right was = was
  lists_of (x ∷ xs) ys found left right was =
      by (λ more own. lists_of xs ys more left.1 right own) (meet_one same_term other x ys found) (one_of x ys found left.0 right was)
    where
      by : ((more : List (Term T)) → Terms more → IfOk (meet_lists same_term other xs ys more) Terms) → (r : Result (List (Term T)) F) → IfOk r Terms → IfOk (r >>= meet_lists same_term other xs ys) Terms
      by later (Ok more) own = later more own
      by later (Err f) own = tt

  meet_agrees : (a b : Choice T) → OfChoice a → OfChoice b → meet same_term one a b ≡ meet same_term other a b
  meet_agrees None b left right = refl
  meet_agrees (Some xs) None left right = refl
  meet_agrees (Some xs) (Some ys) left right = ap (λ r. r >>= λ zs. Ok (Some zs)) (lists_agree xs ys [] left right)

  meet_of : (a b : Choice T) → OfChoice a → OfChoice b → IfOk (meet same_term other a b) OfChoice
  meet_of None b left right = right
  meet_of (Some xs) None left right = left
  meet_of (Some xs) (Some ys) left right = by (meet_lists same_term other xs ys []) (lists_of xs ys [] left right tt)
    where
      by : (r : Result (List (Term T)) F) → IfOk r Terms → IfOk (r >>= λ zs. Ok (Some zs)) OfChoice
      by (Ok zs) own = own
      by (Err f) own = tt

  -- ---- what interfaces have

  abbrev pub Sums : List (Sum T) → Type 0
  Sums = AllByRecursion OfSum

  sum_agrees : (sums : List (Sum T)) (x : T) → sum_of same same_term one sums x ≡ sum_of same same_term other sums x
  sum_agrees [] x = refl
  sum_agrees (s ∷ sums) x = ap (cond (same x s.of) s) (sum_agrees sums x)

  put_agrees : (sums : List (Sum T)) (s : Sum T) → put_sum same same_term one sums s ≡ put_sum same same_term other sums s
  put_agrees [] s = refl
  put_agrees (t ∷ sums) s = ap (λ l. cond (same s.of t.of) (s ∷ sums) (t ∷ l)) (put_agrees sums s)

  found_of : (sums : List (Sum T)) (x : T) → Sums sums → OfSum (sum_of same same_term other sums x)
  found_of [] x all = record { whole = tt; union = tt }
  found_of (s ∷ sums) x all = by (found_of sums x all.1) (same x s.of)
    where
      by : OfSum (sum_of same same_term other sums x) → (b : Bool) → OfSum (cond b s (sum_of same same_term other sums x))
      by later true = all.0
      by later false = later

  put_of : (sums : List (Sum T)) (s : Sum T) → Sums sums → OfSum s → Sums (put_sum same same_term other sums s)
  put_of [] s all own = (own, tt)
  put_of (t ∷ sums) s all own = by (put_of sums s all.1 own) (same s.of t.of)
    where
      by : Sums (put_sum same same_term other sums s) → (b : Bool) → Sums (cond b (s ∷ sums) (t ∷ put_sum same same_term other sums s))
      by later true = (own, all.1)
      by later false = (all.0, later)

  more_of : (a b : Choice T) → OfChoice a → OfChoice b → OfChoice (more_terms a b)
  more_of (Some xs) (Some ys) left right = join xs ys left right
  more_of (Some xs) None left right = tt
  more_of None b left right = tt

  -- ---- events

  joins_agree : (sums : List (Sum T)) (holder : T) (c d : Choice T) → c ≡ d
      → put_sum same same_term one sums (with_union same same_term one (sum_of same same_term one sums holder) c)
      ≡ put_sum same same_term other sums (with_union same same_term other (sum_of same same_term other sums holder) d)
  joins_agree sums holder c d is =
      (λ i. put_sum same same_term one sums (record { of = (sum_agrees sums holder i).of; whole = (sum_agrees sums holder i).whole; union = more_terms (sum_agrees sums holder i).union (is i) }))
      ∙ put_agrees sums (with_union same same_term other (sum_of same same_term other sums holder) d)

  event_agrees : (event : Event T) (sums : List (Sum T)) → Sums sums → happens same same_term one event sums ≡ happens same same_term other event sums
  event_agrees (has_term holder x) sums all = ap Ok (joins_agree sums holder (Some (x ∷ [])) (Some (x ∷ [])) refl)
  event_agrees (has_interface holder of) sums all =
      ap Ok (joins_agree sums holder (sum_of same same_term one sums of).whole (sum_of same same_term other sums of).whole (ap (λ (s : Sum T). s.whole) (sum_agrees sums of)))
  event_agrees (ends_element holder) sums all =
      (λ i. meet same_term one (sum_agrees sums holder i).whole (sum_agrees sums holder i).union >>= λ c. Ok (put_sum same same_term one sums (with_whole same same_term one (sum_agrees sums holder i) c)))
      ∙ ap (λ r. r >>= λ c. Ok (put_sum same same_term one sums (with_whole same same_term one there c))) (meet_agrees there.whole there.union own.whole own.union)
      ∙ by (meet same_term other there.whole there.union)
    where
      there : Sum T
      there = sum_of same same_term other sums holder

      own : OfSum there
      own = found_of sums holder all

      by : (r : Result (Choice T) F) → (r >>= λ c. Ok (put_sum same same_term one sums (with_whole same same_term one there c)))
          ≡ (r >>= λ c. Ok (put_sum same same_term other sums (with_whole same same_term other there c)))
      by (Ok c) = ap Ok (put_agrees sums (with_whole same same_term other there c))
      by (Err f) = refl

  event_of : (event : Event T) (sums : List (Sum T)) → OfEvent P event → Sums sums → IfOk (happens same same_term other event sums) Sums
  event_of (has_term holder x) sums here all =
      let s = sum_of same same_term other sums holder in
      let own = found_of sums holder all in
      put_of sums (with_union same same_term other s (Some (x ∷ []))) all (record { whole = own.whole; union = more_of s.union (Some (x ∷ [])) own.union (here, tt) })
  event_of (has_interface holder of) sums here all =
      let s = sum_of same same_term other sums holder in
      let own = found_of sums holder all in
      let inner = (sum_of same same_term other sums of).whole in
      put_of sums (with_union same same_term other s inner) all (record { whole = own.whole; union = more_of s.union inner own.union (found_of sums of all).whole })
  event_of (ends_element holder) sums here all = by (meet same_term other s.whole s.union) (meet_of s.whole s.union own.whole own.union)
    where
      s : Sum T
      s = sum_of same same_term other sums holder

      own : OfSum s
      own = found_of sums holder all

      by : (r : Result (Choice T) F) → IfOk r OfChoice → IfOk (r >>= λ c. Ok (put_sum same same_term other sums (with_whole same same_term other s c))) Sums
      by (Ok c) good = put_of sums (with_whole same same_term other s c) all (record { whole = good; union = tt })
      by (Err f) good = tt

  events_agree : (events : List (Event T)) (sums : List (Sum T)) → AllByRecursion (OfEvent P) events → Sums sums → all_happen same same_term one events sums ≡ all_happen same same_term other events sums
  events_agree [] sums here all = refl
  events_agree (event ∷ events) sums here all =
      ap (λ r. r >>= all_happen same same_term one events) (event_agrees event sums all)
      ∙ by (λ more good. events_agree events more here.1 good) (happens same same_term other event sums) (event_of event sums here.0 all)
    where
      by : ((more : List (Sum T)) → Sums more → all_happen same same_term one events more ≡ all_happen same same_term other events more) → (r : Result (List (Sum T)) F) → IfOk r Sums → (r >>= all_happen same same_term one events) ≡ (r >>= all_happen same same_term other events)
      by later (Ok more) good = later more good
      by later (Err f) good = refl

  -- The heart: the terms are the same.
  pub terms_agree : (events : List (Event T)) → AllByRecursion (OfEvent P) events → (x : T) → terms_of same same_term one events x ≡ terms_of same same_term other events x
  terms_agree events here x =
      ap (λ r. r >>= λ sums. Ok (sum_of same same_term one sums x).union) (events_agree events [] here tt)
      ∙ by (all_happen same same_term other events [])
    where
      by : (r : Result (List (Sum T)) F) → (r >>= λ sums. Ok (sum_of same same_term one sums x).union) ≡ (r >>= λ sums. Ok (sum_of same same_term other sums x).union)
      by (Ok sums) = ap (λ (s : Sum T). Ok s.union) (sum_agrees sums x)
      by (Err f) = refl
