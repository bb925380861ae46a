-- The methods of a type set: in their order, and the first of each key.
use Rattle.std.proofs.Common.{◌≡◌, zero, suc, ◌||◌, ◌⊎◌, Bool, true, false, cond, List, [], ◌∷◌, ◌++◌, Some, None, refl, ap, sym, subst, ◌∙◌, inl, inr, arith, true≢false, append_assoc}
use Rattle.std.specs.List.{AllByRecursion, Contains, list_any}
use Rattle.std.specs.Cmp.{IsTotalOrder, both_tied}
use Rattle.std.specs.Cmp.Lexicographic.{slice_cmp, on_texts, texts_ties}
use Rattle.std.specs.Ordering.{nat_cmp, ordering_reverse, is_eq}
use Rattle.std.specs.declared.cmp.Ordering.{Ordering}
use Rattle.std.specs.declared.cmp.Ordering.TheVariants.{Less, Equal, Greater}
use Rattle.std.proofs.lemmas.Cmp.{then_total}
use Rattle.type_sets.specs.Interfaces.{SetMethod, same_key}
use Rattle.type_sets.specs.TypeSets.{method_order, put_before, with_method, with_methods, Ascend, first_of_key}

order : IsTotalOrder method_order
order = then_total (on_texts (λ (m : SetMethod). m.name)) (on_texts (λ (m : SetMethod). m.home))

key_tie : (x y : SetMethod) → same_key x y ≡ is_eq (method_order x y)
key_tie x y = both_tied _ _ (slice_cmp nat_cmp x.name y.name) (slice_cmp nat_cmp x.home y.home) (texts_ties x.name y.name) (texts_ties x.home y.home)

turned : (x y : SetMethod) → method_order x y ≡ Greater → method_order y x ≡ Less
turned x y is = order.antisymm y x ∙ ap ordering_reverse is

-- equal keys are in the same places
key_itself : (x : SetMethod) → same_key x x ≡ true
key_itself x = key_tie x x ∙ by (method_order x x) (order.antisymm x x)
  where
    by : (r : Ordering) → r ≡ ordering_reverse r → is_eq r ≡ true
    by Equal is = refl
    by Less is = absurd cc
    by Greater is = absurd cc

key_equal : (x y : SetMethod) → same_key x y ≡ true → method_order x y ≡ Equal
key_equal x y same = by (method_order x y) (sym (key_tie x y) ∙ same)
  where
    by : (r : Ordering) → is_eq r ≡ true → r ≡ Equal
    by Equal is = refl
    by Less is = absurd (true≢false (sym is))
    by Greater is = absurd (true≢false (sym is))

key_swap : (x y : SetMethod) → same_key x y ≡ true → same_key y x ≡ true
key_swap x y same = key_tie y x ∙ ap is_eq (order.antisymm y x ∙ ap ordering_reverse (key_equal x y same))

key_moves : (x y z : SetMethod) → same_key x y ≡ true → same_key x z ≡ same_key y z
key_moves x y z same = key_tie x z ∙ ap is_eq (order.congr x y z (key_equal x y same)) ∙ sym (key_tie y z)

-- ---- in their order

Before : SetMethod → List SetMethod → Type 0
Before x = AllByRecursion (λ other. method_order x other ≡ Less)

module _ (x : SetMethod) where
  before_chain : (y : SetMethod) (ys : List SetMethod) → method_order x y ≡ Less → AllByRecursion (λ other. method_order y other ≡ Less) ys → AllByRecursion (λ other. method_order x other ≡ Less) ys
  before_chain y [] less all = tt
  before_chain y (z ∷ zs) less all = (order.trans x y z less all.0, before_chain y zs less all.1)

  before_more : (y : SetMethod) (ys : List SetMethod) → method_order y x ≡ Less → AllByRecursion (λ other. method_order y other ≡ Less) ys → AllByRecursion (λ other. method_order y other ≡ Less) (with_method x ys)
  before_more y [] less all = (less, tt)
  before_more y (z ∷ zs) less all = by (before_more y zs less all.1) (method_order x z)
    where
      by : AllByRecursion (λ other. method_order y other ≡ Less) (with_method x zs) → (r : Ordering) → AllByRecursion (λ other. method_order y other ≡ Less) (put_before r x z zs (with_method x zs))
      by rest Less = (less, all)
      by rest Equal = all
      by rest Greater = (all.0, rest)

  pub ascends_more : (ys : List SetMethod) → Ascend ys → Ascend (with_method x ys)
  ascends_more [] rises = (tt, tt)
  ascends_more (y ∷ ys) rises = by (ascends_more ys rises.1) (method_order x y) refl
    where
      by : Ascend (with_method x ys) → (r : Ordering) → method_order x y ≡ r → Ascend (put_before r x y ys (with_method x ys))
      by rest Less is = ((is, before_chain y ys is rises.0), rises)
      by rest Equal is = rises
      by rest Greater is = (before_more y ys (turned x y is) rises.0, rest)

-- ---- what is held

or_cases : (a b : Bool) → (a || b) ≡ true → (a ≡ true) ⊎ (b ≡ true)
or_cases true b h = inl refl
or_cases false b h = inr h

or_first : (a b : Bool) → a ≡ true → (a || b) ≡ true
or_first true b h = refl
or_first false b h = absurd (true≢false (sym h))

or_second : (a b : Bool) → b ≡ true → (a || b) ≡ true
or_second true b h = refl
or_second false b h = h

held_cases : (y : SetMethod) (ys : List SetMethod) (m : SetMethod) → Contains (y ∷ ys) m → (y ≡ m) ⊎ Contains ys m
held_cases y ys m (zero, within, is) = inl is
held_cases y ys m (suc k, within, is) = inr (k, omega (arith, within), is)

held_later : (y : SetMethod) (ys : List SetMethod) (m : SetMethod) → Contains ys m → Contains (y ∷ ys) m
held_later y ys m (k, within, is) = (suc k, omega (arith, within), is)

none_held : (m : SetMethod) → Contains [] m → ⊥
none_held m (k, within, is) = omega (arith, within)

module _ (x : SetMethod) where
  -- a key that is less than all has no equal
  none_less : (ys : List SetMethod) → AllByRecursion (λ other. method_order x other ≡ Less) ys → list_any (same_key x) ys ≡ false
  none_less [] all = refl
  none_less (y ∷ ys) all = ap (λ b. b || list_any (same_key x) ys) (key_tie x y ∙ ap is_eq all.0) ∙ none_less ys all.1

  -- what comes in is new, and all else was there
  with_cases : (ys : List SetMethod) → Ascend ys → (m : SetMethod) → Contains (with_method x ys) m → Contains ys m ⊎ ((m ≡ x) × (list_any (same_key x) ys ≡ false))
  with_cases [] rises m held = elim (held_cases x [] m held) [ inl is ↦ inr (sym is, refl) | inr none ↦ inl none ]
  with_cases (y ∷ ys) rises m held = by (λ later. with_cases ys rises.1 m later) (method_order x y) refl held
    where
      tied : (r : Ordering) → method_order x y ≡ r → is_eq r ≡ false → same_key x y ≡ false
      tied r is apart = key_tie x y ∙ ap is_eq is ∙ apart

      by : (Contains (with_method x ys) m → Contains ys m ⊎ ((m ≡ x) × (list_any (same_key x) ys ≡ false))) → (r : Ordering) → method_order x y ≡ r
          → Contains (put_before r x y ys (with_method x ys)) m → Contains (y ∷ ys) m ⊎ ((m ≡ x) × (list_any (same_key x) (y ∷ ys) ≡ false))
      by rest Less is here = elim (held_cases x (y ∷ ys) m here) [ inl same ↦ inr (sym same, none_less (y ∷ ys) (is, before_chain x y ys is rises.0)) | inr old ↦ inl old ]
      by rest Equal is here = inl here
      by rest Greater is here = elim (held_cases y (with_method x ys) m here) [
        | inl same ↦ inl (0, omega arith, same)
        | inr later ↦ elim (rest later) [
          | inl old ↦ inl (held_later y ys m old)
          | inr new ↦ inr (new.0, ap (λ b. b || list_any (same_key x) ys) (tied Greater is refl) ∙ new.1)
        ]
      ]

  -- a key that was there is there, and so is the new one
  key_kept : (m : SetMethod) (ys : List SetMethod) → list_any (same_key m) ys ≡ true → list_any (same_key m) (with_method x ys) ≡ true
  key_kept m [] there = absurd (true≢false (sym there))
  key_kept m (y ∷ ys) there = by (λ later. key_kept m ys later) (method_order x y)
    where
      by : (list_any (same_key m) ys ≡ true → list_any (same_key m) (with_method x ys) ≡ true) → (r : Ordering) → list_any (same_key m) (put_before r x y ys (with_method x ys)) ≡ true
      by rest Less = or_second (same_key m x) (list_any (same_key m) (y ∷ ys)) there
      by rest Equal = there
      by rest Greater = elim (or_cases (same_key m y) (list_any (same_key m) ys) there) [
        | inl own ↦ or_first (same_key m y) (list_any (same_key m) (with_method x ys)) own
        | inr later ↦ or_second (same_key m y) (list_any (same_key m) (with_method x ys)) (rest later)
      ]

  key_new : (ys : List SetMethod) → list_any (same_key x) (with_method x ys) ≡ true
  key_new [] = or_first (same_key x x) false (key_itself x)
  key_new (y ∷ ys) = by (key_new ys) (method_order x y) refl
    where
      by : list_any (same_key x) (with_method x ys) ≡ true → (r : Ordering) → method_order x y ≡ r → list_any (same_key x) (put_before r x y ys (with_method x ys)) ≡ true
      by rest Less is = or_first (same_key x x) (list_any (same_key x) (y ∷ ys)) (key_itself x)
      by rest Equal is = or_first (same_key x y) (list_any (same_key x) ys) (key_tie x y ∙ ap is_eq is)
      by rest Greater is = or_second (same_key x y) (list_any (same_key x) (with_method x ys)) rest

-- ---- all methods, one after the other

first_stays : (m f : SetMethod) (met : List SetMethod) (x : SetMethod) → first_of_key m met ≡ Some f → first_of_key m (met ++ x ∷ []) ≡ Some f
first_stays m f [] x is = absurd cc
first_stays m f (y ∷ ys) x is = by (first_stays m f ys x) (same_key m y) is
  where
    by : (first_of_key m ys ≡ Some f → first_of_key m (ys ++ x ∷ []) ≡ Some f) → (b : Bool) → cond b (Some y) (first_of_key m ys) ≡ Some f → cond b (Some y) (first_of_key m (ys ++ x ∷ [])) ≡ Some f
    by rest true e = e
    by rest false e = rest e

first_new : (x : SetMethod) (met : List SetMethod) → list_any (same_key x) met ≡ false → first_of_key x (met ++ x ∷ []) ≡ Some x
first_new x [] none = ap (λ b. cond b (Some x) None) (key_itself x)
first_new x (y ∷ ys) none = by (first_new x ys) (same_key x y) none
  where
    by : (list_any (same_key x) ys ≡ false → first_of_key x (ys ++ x ∷ []) ≡ Some x) → (b : Bool) → (b || list_any (same_key x) ys) ≡ false → cond b (Some y) (first_of_key x (ys ++ x ∷ [])) ≡ Some x
    by rest true e = absurd (true≢false e)
    by rest false e = rest e

any_told : (p : SetMethod → Bool) (ys : List SetMethod) → list_any p ys ≡ true → (m : SetMethod) × Contains ys m × (p m ≡ true)
any_told p [] there = absurd (true≢false (sym there))
any_told p (y ∷ ys) there = elim (or_cases (p y) (list_any p ys) there) [
  | inl own ↦ (y, (0, omega arith, refl), own)
  | inr later ↦ let found = any_told p ys later in (found.0, held_later y ys found.0 found.1, found.2)
]

any_made : (p : SetMethod → Bool) (ys : List SetMethod) (m : SetMethod) → Contains ys m → p m ≡ true → list_any p ys ≡ true
any_made p [] m held is = absurd (none_held m held)
any_made p (y ∷ ys) m held is = elim (held_cases y ys m held) [
  | inl same ↦ or_first (p y) (list_any p ys) (subst (λ z. p z ≡ true) (sym same) is)
  | inr later ↦ or_second (p y) (list_any p ys) (any_made p ys m later is)
]

-- what was found of the methods that were met
pub record IsFound (met found : List SetMethod) : Type 0 where
  pub rises : Ascend found
  pub first : (m : SetMethod) → Contains found m → first_of_key m met ≡ Some m
  pub all : (m : SetMethod) → Contains met m → list_any (same_key m) found ≡ true

last_cases : (met : List SetMethod) (x m : SetMethod) → Contains (met ++ x ∷ []) m → Contains met m ⊎ (m ≡ x)
last_cases [] x m held = elim (held_cases x [] m held) [ inl same ↦ inr (sym same) | inr none ↦ absurd (none_held m none) ]
last_cases (y ∷ ys) x m held = elim (held_cases y (ys ++ x ∷ []) m held) [
  | inl same ↦ inl (0, omega arith, same)
  | inr later ↦ elim (last_cases ys x m later) [ inl old ↦ inl (held_later y ys m old) | inr new ↦ inr new ]
]

found_more : (met found : List SetMethod) (x : SetMethod) → IsFound met found → IsFound (met ++ x ∷ []) (with_method x found)
found_more met found x was = record {
  rises = ascends_more x found was.rises;
  first = λ m held. elim (with_cases x found was.rises m held) [
    | inl old ↦ first_stays m m met x (was.first m old)
    | inr new ↦ subst (λ n. first_of_key n (met ++ x ∷ []) ≡ Some n) (sym new.0) (first_new x met (unmet new.1 (list_any (same_key x) met) refl))
  ];
  all = λ m held. elim (last_cases met x m held) [
    | inl old ↦ key_kept x m found (was.all m old)
    | inr new ↦ subst (λ n. list_any (same_key n) (with_method x found) ≡ true) (sym new) (key_new x found)
  ];
}
  where
    unmet : list_any (same_key x) found ≡ false → (b : Bool) → list_any (same_key x) met ≡ b → b ≡ false
    unmet none false is = refl
    unmet none true is =
        let one = any_told (same_key x) met is in
        let other = any_told (same_key one.0) found (was.all one.0 one.1) in
        let both : same_key x other.0 ≡ true = key_moves x one.0 other.0 one.2 ∙ other.2 in
        absurd (true≢false (sym (any_made (same_key x) found other.0 other.1 both) ∙ none))

found_all : (rest met found : List SetMethod) → IsFound met found → IsFound (met ++ rest) (with_methods rest found)
found_all [] met found was = subst (λ l. IsFound l found) (sym (nil met)) was
  where
    nil : (xs : List SetMethod) → xs ++ [] ≡ xs
    nil [] = refl
    nil (x ∷ xs) = ap (λ l. x ∷ l) (nil xs)
found_all (x ∷ rest) met found was =
    subst (λ l. IsFound l (with_methods rest (with_method x found))) (append_assoc met (x ∷ []) rest) (found_all rest (met ++ x ∷ []) (with_method x found) (found_more met found x was))

pub found_set : (met : List SetMethod) → IsFound met (with_methods met [])
found_set met = found_all met [] [] (record { rises = tt; first = λ m held. absurd (none_held m held); all = λ m held. absurd (none_held m held) })
