-- Places in a list, in the order of their offsets.
use Rattle.std.proofs.Common.{◌≡◌, ℕ, zero, suc, ◌+◌, ◌<◌, ◌≤◌, Bool, true, false, cond, List, [], ◌∷◌, ◌++◌, length, take, drop, get_or, Option, Some, None, refl, sym, ap, subst, ◌∙◌, inl, inr, ◌⊎◌, arith}
use Rattle.std.proofs.Math.Seq.{take-suc}
use Rattle.std.proofs.lemmas.List.{take-append-drop}
use Rattle.std.specs.Prelude.{nat_le, nat_lt, insert, Result, Ok, Err, OnOk, OnErr}
use Rattle.std.specs.declared.alloc.AllocError.{AllocError}
use Rattle.std.specs.List.{AllByRecursion, AllWithin}
use Rattle.std.specs.Ordering.{nat_cmp, is_eq, match_ordering}
use Rattle.std.specs.declared.cmp.Ordering.{Ordering}
use Rattle.std.specs.declared.cmp.Ordering.TheVariants.{Less, Equal, Greater}
use Rattle.std.specs.Cmp.{nat_cmp_is}
use Rattle.std.proofs.lemmas.Bool.{cases_lt, leb-true, leb-false}
use Rattle.decl_reader.specs.declared.places.Place.{Place}
use Rattle.decl_reader.specs.Places.{PlaceEntry, place_at, with_place, AreInOrder, IsOneOf, IsDivided, IsSlot, Covers, StartsFirst}
use Rattle.decl_reader.proofs.EntryLemmas.{added_all, is_less, is_equal, is_greater}

-- ---- what holds of each

module _ (P : PlaceEntry → Type 0) (d : PlaceEntry) where
  all_at : (es : List PlaceEntry) (i : ℕ) → AllByRecursion P es → i < length es → P (get_or es i d)
  all_at [] i all less = absurd (omega arith)
  all_at (e ∷ es) zero all less = all.0
  all_at (e ∷ es) (suc i) all less = all_at es i all.1 (omega arith)

  all_of : (es : List PlaceEntry) → ((k : ℕ) → k < length es → P (get_or es k d)) → AllByRecursion P es
  all_of [] h = tt
  all_of (e ∷ es) h = (h zero (omega arith), all_of es (λ k less. h (suc k) (omega arith)))

  front_of : (es : List PlaceEntry) (n : ℕ) → ((k : ℕ) → k < n → k < length es → P (get_or es k d)) → AllByRecursion P (take n es)
  front_of es zero h = tt
  front_of [] (suc n) h = tt
  front_of (e ∷ es) (suc n) h = (h zero (omega arith) (omega arith), front_of es n (λ k few less. h (suc k) (omega arith) (omega arith)))

  back_of : (es : List PlaceEntry) (n : ℕ) → ((k : ℕ) → n ≤ k → k < length es → P (get_or es k d)) → AllByRecursion P (drop n es)
  back_of es zero h = all_of es (λ k less. h k (omega arith) less)
  back_of [] (suc n) h = tt
  back_of (e ∷ es) (suc n) h = back_of es n (λ k low less. h (suc k) (omega arith) (omega arith))

  front_at : (es : List PlaceEntry) (n i : ℕ) → AllByRecursion P (take n es) → i < n → i < length es → P (get_or es i d)
  front_at es zero i all few less = absurd (omega arith)
  front_at [] (suc n) i all few less = absurd (omega arith)
  front_at (e ∷ es) (suc n) zero all few less = all.0
  front_at (e ∷ es) (suc n) (suc i) all few less = front_at es n i all.1 (omega arith) (omega arith)

both_ends : (P Q : PlaceEntry → Type 0) (es : List PlaceEntry) → AllByRecursion P es → AllByRecursion P (take (length es) es) × AllByRecursion Q (drop (length es) es)
both_ends P Q [] all = (tt, tt)
both_ends P Q (e ∷ es) all = let rest = both_ends P Q es all.1 in ((all.0, rest.0), rest.1)

drop_at : (es : List PlaceEntry) (i : ℕ) (d : PlaceEntry) → i < length es → drop i es ≡ get_or es i d ∷ drop (suc i) es
drop_at [] i d less = absurd (omega arith)
drop_at (e ∷ es) zero d less = refl
drop_at (e ∷ es) (suc i) d less = drop_at es i d (omega arith)

drop_all : (es : List PlaceEntry) → drop (length es) es ≡ []
drop_all [] = refl
drop_all (e ∷ es) = drop_all es

pub take_all : (es : List PlaceEntry) → take (length es) es ≡ es
take_all [] = refl
take_all (e ∷ es) = ap (λ xs. e ∷ xs) (take_all es)

pub right_none : (xs : List PlaceEntry) → xs ++ [] ≡ xs
right_none [] = refl
right_none (x ∷ xs) = ap (λ ys. x ∷ ys) (right_none xs)

-- ---- in order

module _ (d : PlaceEntry) where
  rises : (es : List PlaceEntry) (i j : ℕ) → AreInOrder es → i < j → j < length es → (get_or es i d).0 < (get_or es j d).0
  rises [] i j order le less = absurd (omega arith)
  rises (e ∷ es) i zero order le less = absurd (omega arith)
  rises (e ∷ es) zero (suc j) order le less = all_at (λ later. e.0 < later.0) d es j order.0 (omega arith)
  rises (e ∷ es) (suc i) (suc j) order le less = rises es i j order.1 (omega arith) (omega arith)

  pub rises_to : (es : List PlaceEntry) (i j : ℕ) → AreInOrder es → i ≤ j → j < length es → (get_or es i d).0 ≤ (get_or es j d).0
  rises_to es i j order le less = by (cases_lt i j)
    where
      by : (i < j) ⊎ (j ≤ i) → (get_or es i d).0 ≤ (get_or es j d).0
      by (inl before) = omega (arith, rises es i j order before less)
      by (inr behind) = let same : i ≡ j = omega arith in omega (arith, ap (λ k. (get_or es k d).0) same)

-- ---- the first ones, up to an offset

module _ (o : ℕ) (es : List PlaceEntry) (order : AreInOrder es) where
  abbrev Begun : PlaceEntry → Type 0
  Begun e = e.0 ≤ o

  abbrev Later : PlaceEntry → Type 0
  Later e = o < e.0

  pub all_begun_of : (d : PlaceEntry) (i : ℕ) → suc i ≡ length es → (get_or es i d).0 ≤ o → AllByRecursion Begun es
  all_begun_of d i last le = all_of Begun d es (λ k less. omega (arith, rises_to d es k i order (omega (arith, last, less)) (omega (arith, last)), le))

  pub divided_all : AllByRecursion Begun es → IsDivided o (length es) es
  divided_all all = let ends = both_ends Begun Later es all in record { few = omega arith; begun = ends.0; later = ends.1 }

  pub divided_at : (n : ℕ) (d : PlaceEntry) → n ≤ length es → AllWithin (λ e. nat_le e.0 o ≡ true) es 0 n → AllWithin (λ e. nat_le e.0 o ≡ false) es n (length es) → IsDivided o n es
  divided_at n d few passed failed =
      record {
        few = few;
        begun = front_of Begun d es n (λ k less inside. leb-true (get_or es k d).0 o (passed k d (omega arith) less));
        later = back_of Later d es n (λ k low less. leb-false (get_or es k d).0 o (failed k d low less));
      }

  -- the last of the first ones
  module _ (n i : ℕ) (divided : IsDivided o n es) (one : n ≡ suc i) (d : PlaceEntry) where
    inside : i < length es
    inside = omega (arith, one, divided.few)

    begun_last : (get_or es i d).0 ≤ o
    begun_last = front_at Begun d es n i divided.begun (omega (arith, one)) inside

    pub new_front : (get_or es i d).0 < o → AllByRecursion (λ x. x.0 < o) (take n es)
    new_front low = front_of (λ x. x.0 < o) d es n (λ k few less. omega (arith, rises_to d es k i order (omega (arith, one, few)) inside, low))

    equal : (a b : ℕ) → a ≡ b → is_eq (nat_cmp a b) ≡ true
    equal a b same = ap is_eq (sym (nat_cmp_is a b Equal same))

    other : (a b : ℕ) → (a < b) ⊎ (b < a) → is_eq (nat_cmp a b) ≡ false
    other a b (inl less) = ap is_eq (sym (nat_cmp_is a b Less less))
    other a b (inr more) = ap is_eq (sym (nat_cmp_is a b Greater more))

    skip : (x : PlaceEntry) (xs : List PlaceEntry) → (o < x.0) ⊎ (x.0 < o) → place_at (x ∷ xs) o ≡ place_at xs o
    skip x xs differ = ap (λ b. cond b (Some x.1) (place_at xs o)) (other o x.0 differ)

    missing : (xs : List PlaceEntry) → AllByRecursion Later xs → place_at xs o ≡ None
    missing [] all = refl
    missing (x ∷ xs) all = skip x xs (inl all.0) ∙ missing xs all.1

    there : (xs : List PlaceEntry) (k : ℕ) → AreInOrder xs → k < length xs → (get_or xs k d).0 ≡ o → place_at xs o ≡ Some (get_or xs k d).1
    there [] k rising less same = absurd (omega arith)
    there (x ∷ xs) zero rising less same = ap (λ b. cond b (Some x.1) (place_at xs o)) (equal o x.0 (sym same))
    there (x ∷ xs) (suc k) rising less same =
        let before = all_at (λ later. x.0 < later.0) d xs k rising.0 (omega arith) in
        skip x xs (inr (omega (arith, before, same))) ∙ there xs k rising.1 (omega arith) same

    absent : (xs : List PlaceEntry) (k : ℕ) → AreInOrder xs → k < length xs → (get_or xs k d).0 < o → AllByRecursion Later (drop (suc k) xs) → place_at xs o ≡ None
    absent [] k rising less low all = absurd (omega arith)
    absent (x ∷ xs) zero rising less low all = skip x xs (inr low) ∙ missing xs all
    absent (x ∷ xs) (suc k) rising less low all =
        let before = all_at (λ later. x.0 < later.0) d xs k rising.0 (omega arith) in
        skip x xs (inr (omega (arith, before, low))) ∙ absent xs k rising.1 (omega arith) low all

    pub place_hit : (get_or es i d).0 ≡ o → Some (get_or es i d).1 ≡ place_at es o
    place_hit same = sym (there es i order inside same)

    pub place_miss : ((get_or es i d).0 ≡ o → ⊥) → None ≡ place_at es o
    place_miss differ = by (cases_lt (get_or es i d).0 o)
      where
        by : ((get_or es i d).0 < o) ⊎ (o ≤ (get_or es i d).0) → None ≡ place_at es o
        by (inl less) = sym (absent es i order inside less (subst (λ k. AllByRecursion Later (drop k es)) one divided.later))
        by (inr more) = absurd (differ (omega (arith, more, begun_last)))

  none_missing : (xs : List PlaceEntry) → AllByRecursion Later xs → place_at xs o ≡ None
  none_missing [] all = refl
  none_missing (x ∷ xs) all = ap (λ b. cond (is_eq b) (Some x.1) (place_at xs o)) (sym (nat_cmp_is o x.0 Less all.0)) ∙ none_missing xs all.1

  pub place_none : (n : ℕ) → IsDivided o n es → n ≡ 0 → None ≡ place_at es o
  place_none n divided none = sym (none_missing es (subst (λ k. AllByRecursion Later (drop k es)) none divided.later))

pub last_covers : (o n i : ℕ) (es : List PlaceEntry) (d : PlaceEntry) → n ≡ suc i → n ≤ length es → Covers (nat_lt o (get_or es i d).1.end) o (take n es)
last_covers o n i es d one few = inr (take i es, get_or es i d, ap (λ k. take k es) one ∙ take-suc es i d (omega (arith, one, few)), refl)

pub none_covers : (o n : ℕ) (es : List PlaceEntry) → n ≡ 0 → Covers false o (take n es)
none_covers o n es none = inl (ap (λ k. take k es) none, refl)

pub starts_none : (n : ℕ) (es : List PlaceEntry) → n ≡ length es → StartsFirst None (drop n es)
starts_none n es all = ap (λ k. drop k es) all ∙ drop_all es

pub starts_next : (n : ℕ) (es : List PlaceEntry) (d : PlaceEntry) → n < length es → StartsFirst (Some (get_or es n d).0) (drop n es)
starts_next n es d less = (get_or es n d, drop (suc n) es, drop_at es n d less, refl)

-- ---- one more

between : (o : ℕ) (p : Place) (front back : List PlaceEntry) → AllByRecursion (λ e. e.0 < o) front → AllByRecursion (λ e. o < e.0) back → front ++ (o, p) ∷ back ≡ with_place (front ++ back) o p
between o p [] [] low high = refl
between o p [] (e ∷ es) low high = ap (λ r. match_ordering r ((o, p) ∷ e ∷ es) ((e.0, p) ∷ es) (e ∷ with_place es o p)) (nat_cmp_is o e.0 Less high.0)
between o p (f ∷ fs) back low high =
    ap (λ xs. f ∷ xs) (between o p fs back low.1 high)
    ∙ ap (λ r. match_ordering r ((o, p) ∷ f ∷ fs ++ back) ((f.0, p) ∷ fs ++ back) (f ∷ with_place (fs ++ back) o p)) (nat_cmp_is o f.0 Greater low.0)

pub slot_is : (o n : ℕ) (es : List PlaceEntry) → IsDivided o n es → AllByRecursion (λ e. e.0 < o) (take n es) → IsSlot es o n
slot_is o n es divided low =
    record {
      few = divided.few;
      goes = λ p. between o p (take n es) (drop n es) low divided.later ∙ ap (λ xs. with_place xs o p) (take-append-drop n es);
    }

above : (m k : ℕ) (es : List PlaceEntry) → m < k → AllByRecursion (λ e. k < e.0) es → AllByRecursion (λ e. m < e.0) es
above m k [] less all = tt
above m k (e ∷ es) less all = (omega (arith, all.0, less), above m k es less all.1)

pub order_more : (o : ℕ) (p : Place) (es : List PlaceEntry) → AreInOrder es → AreInOrder (with_place es o p)
order_more o p [] order = (tt, tt)
order_more o p (e ∷ es) order = by (nat_cmp o e.0) refl (order_more o p es order.1)
  where
    by : (r : Ordering) → nat_cmp o e.0 ≡ r → AreInOrder (with_place es o p) → AreInOrder (match_ordering r ((o, p) ∷ e ∷ es) ((e.0, p) ∷ es) (e ∷ with_place es o p))
    by Less is rest = let less : o < e.0 = is_less o e.0 is in ((less, above o e.0 es less order.0), order)
    by Equal is rest = order
    by Greater is rest =
        let more : e.0 < o = is_greater o e.0 is in
        (added_all (λ x. e.0 < x.0) es o p (λ x same. let at : o ≡ x.0 = is_equal o x.0 same in omega (arith, at, more)) more order.0, rest)

-- ---- all of them, one after the other

pub one_further : (es : List PlaceEntry) (i : ℕ) (d : PlaceEntry) → AreInOrder es → i < length es → with_place (take i es) (get_or es i d).0 (get_or es i d).1 ≡ take (i + 1) es
one_further es i d order less =
    let e = get_or es i d in
    let front = front_of (λ x. x.0 < e.0) d es i (λ k few inside. rises d es k i order few less) in
    let step : suc i ≡ i + 1 = omega arith in
    ap (λ xs. with_place xs e.0 e.1) (sym (right_none (take i es))) ∙ sym (between e.0 e.1 (take i es) [] front tt) ∙ sym (take-suc es i d less) ∙ ap (λ n. take n es) step

-- ---- in a list or in a map

pub none_of : (xs : List PlaceEntry) → length xs ≡ 0 → xs ≡ []
none_of [] none = refl
none_of (x ∷ xs) none = absurd (omega (arith, none))

pub in_list : (listed mapped : List PlaceEntry) → length mapped ≡ 0 → listed ++ mapped ≡ listed
in_list listed mapped none = ap (λ xs. listed ++ xs) (none_of mapped none) ∙ right_none listed

pub in_map : (listed mapped : List PlaceEntry) → IsOneOf listed mapped → (length mapped ≡ 0 → ⊥) → listed ++ mapped ≡ mapped
in_map listed mapped one some = by one.one
  where
    by : (mapped ≡ []) ⊎ (listed ≡ []) → listed ++ mapped ≡ mapped
    by (inl none) = absurd (some (ap length none))
    by (inr none) = ap (λ xs. xs ++ mapped) none

-- one more in the list, or no memory for it
pub one_put : (r : Result (Unit {0}) AllocError) (o i : ℕ) (p : Place) (was new mapped : List PlaceEntry) → IsOneOf was mapped → length mapped ≡ 0 → IsSlot was o i
    → OnOk r (new ≡ insert was i (o, p)) → OnErr r (new ≡ was) → IsOneOf new mapped
one_put (Ok u) o i p was new mapped one none goes put same =
    record {
      order = subst AreInOrder (sym (put ∙ goes.goes p)) (order_more o p was one.order);
      one = inl (none_of mapped none);
    }
one_put (Err e) o i p was new mapped one none goes put same = record { order = subst AreInOrder (sym same) one.order; one = inl (none_of mapped none) }
