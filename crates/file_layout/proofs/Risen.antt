-- Texts that are put in order are the same texts, and rise.
use Rattle.std.proofs.Common.{◌≡◌, zero, suc, Bool, true, false, cond, List, [], ◌∷◌, ◌++◌, map, refl, sym, ap, subst, ◌∙◌, arith, ◌⊎◌, inl, inr}
use Rattle.std.specs.List.{Contains, filter, flat_map, AllByRecursion}
use Rattle.std.specs.Cmp.{IsTotalOrder}
use Rattle.std.specs.Cmp.Lexicographic.{slice_cmp}
use Rattle.std.specs.Ordering.{nat_cmp, ordering_reverse}
use Rattle.std.specs.declared.cmp.Ordering.{Ordering}
use Rattle.std.specs.declared.cmp.Ordering.TheVariants.{Less, Equal, Greater}
use Rattle.std.proofs.lemmas.Cmp.{nat_list_cmp_total}
use Rattle.std.proofs.lemmas.Map.Lookups.{exact_bytes}
use Rattle.std.proofs.lemmas.List.Elements.{Contains-append_left, Contains-append_right, Contains-append_cases}
use Rattle.wire_bytes.specs.Order.{IsBelow, RiseFrom, Rise}
use Rattle.type_terms.specs.Trees.{Text}
use Rattle.file_layout.specs.Rising.{put_by, put, rising}

order : IsTotalOrder (slice_cmp nat_cmp)
order = nat_list_cmp_total

-- ---- members

pub first_in : {X : Type 0} (x : X) (xs : List X) → Contains (x ∷ xs) x
first_in x xs = (0, omega arith, refl)

pub later_in : {X : Type 0} (x : X) (xs : List X) (y : X) → Contains xs y → Contains (x ∷ xs) y
later_in x xs y has = Contains-append_right (x ∷ []) xs y has

pub member : {X : Type 0} (x : X) (xs : List X) (y : X) → Contains (x ∷ xs) y → (x ≡ y) ⊎ Contains xs y
member x xs y (zero, below, is) = inl is
member x xs y (suc k, below, is) = inr (k, omega (arith, below), is)

pub none_in : {X : Type 0} (y : X) → Contains [] y → ⊥
none_in y has = absurd (omega (arith, has.1))

pub map_in : {X Y : Type 0} (f : X → Y) (xs : List X) (x : X) → Contains xs x → Contains (map f xs) (f x)
map_in f [] x has = absurd (none_in x has)
map_in f (y ∷ ys) x has = by (member y ys x has) (map_in f ys x)
  where
    by : (y ≡ x) ⊎ Contains ys x → (Contains ys x → Contains (map f ys) (f x)) → Contains (f y ∷ map f ys) (f x)
    by (inl is) later = subst (Contains (f y ∷ map f ys)) (ap f is) (first_in (f y) (map f ys))
    by (inr has) later = later_in (f y) (map f ys) (f x) (later has)

pub map_from : {X Y : Type 0} (f : X → Y) (xs : List X) (y : Y) → Contains (map f xs) y → (x : X) × Contains xs x × (f x ≡ y)
map_from f [] y has = absurd (none_in y has)
map_from f (x ∷ xs) y has = by (member (f x) (map f xs) y has) (map_from f xs y)
  where
    by : (f x ≡ y) ⊎ Contains (map f xs) y → (Contains (map f xs) y → (z : _) × Contains xs z × (f z ≡ y)) → (z : _) × Contains (x ∷ xs) z × (f z ≡ y)
    by (inl is) later = (x, first_in x xs, is)
    by (inr has) later = let rest = later has in (rest.0, later_in x xs rest.0 rest.1, rest.2)

pub filter_in : {X : Type 0} (test : X → Bool) (xs : List X) (x : X) → Contains xs x → test x ≡ true → Contains (filter test xs) x
filter_in test [] x has is = absurd (none_in x has)
filter_in test (y ∷ ys) x has is = by (test y) refl (member y ys x has) (λ later. filter_in test ys x later is)
  where
    by : (b : Bool) → test y ≡ b → (y ≡ x) ⊎ Contains ys x → (Contains ys x → Contains (filter test ys) x) → Contains (cond b (y ∷ filter test ys) (filter test ys)) x
    by true e (inl same) later = subst (Contains (y ∷ filter test ys)) same (first_in y (filter test ys))
    by true e (inr has) later = later_in y (filter test ys) x (later has)
    by false e (inl same) later = let no : true ≡ false = sym is ∙ ap test (sym same) ∙ e in absurd cc
    by false e (inr has) later = later has

pub filter_from : {X : Type 0} (test : X → Bool) (xs : List X) (x : X) → Contains (filter test xs) x → Contains xs x × (test x ≡ true)
filter_from test [] x has = absurd (none_in x has)
filter_from test (y ∷ ys) x has = by (test y) refl has (filter_from test ys x)
  where
    by : (b : Bool) → test y ≡ b → Contains (cond b (y ∷ filter test ys) (filter test ys)) x → (Contains (filter test ys) x → Contains ys x × (test x ≡ true)) → Contains (y ∷ ys) x × (test x ≡ true)
    by false e has later = let rest = later has in (later_in y ys x rest.0, rest.1)
    by true e has later = of (member y (filter test ys) x has)
      where
        of : (y ≡ x) ⊎ Contains (filter test ys) x → Contains (y ∷ ys) x × (test x ≡ true)
        of (inl same) = (subst (Contains (y ∷ ys)) same (first_in y ys), ap test (sym same) ∙ e)
        of (inr has) = let rest = later has in (later_in y ys x rest.0, rest.1)

pub flat_in : {X Y : Type 0} (f : X → List Y) (xs : List X) (x : X) (y : Y) → Contains xs x → Contains (f x) y → Contains (flat_map f xs) y
flat_in f [] x y has has' = absurd (none_in x has)
flat_in f (z ∷ zs) x y has has' = by (member z zs x has) (λ later. flat_in f zs x y later has')
  where
    by : (z ≡ x) ⊎ Contains zs x → (Contains zs x → Contains (flat_map f zs) y) → Contains (f z ++ flat_map f zs) y
    by (inl same) later = Contains-append_left (f z) (flat_map f zs) y (subst (λ w. Contains (f w) y) (sym same) has')
    by (inr has) later = Contains-append_right (f z) (flat_map f zs) y (later has)

pub flat_from : {X Y : Type 0} (f : X → List Y) (xs : List X) (y : Y) → Contains (flat_map f xs) y → (x : X) × Contains xs x × Contains (f x) y
flat_from f [] y has = absurd (none_in y has)
flat_from f (z ∷ zs) y has = by (Contains-append_cases (f z) (flat_map f zs) y has) (flat_from f zs y)
  where
    by : Contains (f z) y ⊎ Contains (flat_map f zs) y → (Contains (flat_map f zs) y → (x : _) × Contains zs x × Contains (f x) y) → (x : _) × Contains (z ∷ zs) x × Contains (f x) y
    by (inl has) later = (z, first_in z zs, has)
    by (inr has) later = let rest = later has in (rest.0, later_in z zs rest.0 rest.1, rest.2)

pub all_from : {X : Type 0} (P : X → Type 0) (xs : List X) → ((x : X) → Contains xs x → P x) → AllByRecursion P xs
all_from P [] each = tt
all_from P (x ∷ xs) each = (each x (first_in x xs), all_from P xs (λ y has. each y (later_in x xs y has)))

-- ---- in order

below_of : (x y : Text) → slice_cmp nat_cmp x y ≡ Greater → IsBelow y x
below_of x y e = order.antisymm y x ∙ ap ordering_reverse e

put_rises_from : (last x : Text) (ys : List Text) → IsBelow last x → RiseFrom last ys → RiseFrom last (put x ys)
put_rises_from last x [] low up = (low, tt)
put_rises_from last x (y ∷ ys) low up = by (slice_cmp nat_cmp x y) refl (λ below. put_rises_from y x ys below up.1)
  where
    by : (o : Ordering) → slice_cmp nat_cmp x y ≡ o → (IsBelow y x → RiseFrom y (put x ys)) → RiseFrom last (put_by o x y ys (put x ys))
    by Less e later = (low, (e, up.1))
    by Equal e later = up
    by Greater e later = (up.0, later (below_of x y e))

put_rises : (x : Text) (ys : List Text) → Rise ys → Rise (put x ys)
put_rises x [] up = tt
put_rises x (y ∷ ys) up = by (slice_cmp nat_cmp x y) refl
  where
    by : (o : Ordering) → slice_cmp nat_cmp x y ≡ o → Rise (put_by o x y ys (put x ys))
    by Less e = (e, up)
    by Equal e = up
    by Greater e = put_rises_from y x ys (below_of x y e) up

pub rising_rises : (xs : List Text) → Rise (rising xs)
rising_rises [] = tt
rising_rises (x ∷ xs) = put_rises x (rising xs) (rising_rises xs)

from_lower : (low last : Text) (xs : List Text) → IsBelow low last → RiseFrom last xs → RiseFrom low xs
from_lower low last [] below up = tt
from_lower low last (x ∷ xs) below up = (order.trans low last x below up.0, up.1)

filter_rises_from : (test : Text → Bool) (last : Text) (xs : List Text) → RiseFrom last xs → RiseFrom last (filter test xs)
filter_rises_from test last [] up = tt
filter_rises_from test last (x ∷ xs) up = by (test x) (filter_rises_from test x xs up.1)
  where
    by : (b : Bool) → RiseFrom x (filter test xs) → RiseFrom last (cond b (x ∷ filter test xs) (filter test xs))
    by true rest = (up.0, rest)
    by false rest = from_lower last x (filter test xs) up.0 rest

pub filter_rises : (test : Text → Bool) (xs : List Text) → Rise xs → Rise (filter test xs)
filter_rises test [] up = tt
filter_rises test (x ∷ xs) up = by (test x)
  where
    rest : RiseFrom x (filter test xs)
    rest = filter_rises_from test x xs up

    loose : (ts : List Text) → RiseFrom x ts → Rise ts
    loose [] up = tt
    loose (t ∷ ts) up = up.1

    by : (b : Bool) → Rise (cond b (x ∷ filter test xs) (filter test xs))
    by true = rest
    by false = loose (filter test xs) rest

-- texts that aren't empty rise from the empty one
pub rise_from_nothing : (xs : List Text) → Rise xs → AllByRecursion (λ t. t ≡ [] → ⊥) xs → RiseFrom [] xs
rise_from_nothing [] up some = tt
rise_from_nothing ([] ∷ xs) up some = absurd (some.0 refl)
rise_from_nothing ((c ∷ cs) ∷ xs) up some = (refl, up)

put_has : (x : Text) (ys : List Text) → Contains (put x ys) x
put_has x [] = first_in x []
put_has x (y ∷ ys) = by (slice_cmp nat_cmp x y) refl (put_has x ys)
  where
    by : (o : Ordering) → slice_cmp nat_cmp x y ≡ o → Contains (put x ys) x → Contains (put_by o x y ys (put x ys)) x
    by Less e later = first_in x (y ∷ ys)
    by Equal e later = subst (Contains (y ∷ ys)) (sym (exact_bytes x y e)) (first_in y ys)
    by Greater e later = later_in y (put x ys) x later

put_keeps : (x : Text) (ys : List Text) (z : Text) → Contains ys z → Contains (put x ys) z
put_keeps x [] z has = absurd (none_in z has)
put_keeps x (y ∷ ys) z has = by (slice_cmp nat_cmp x y) (member y ys z has) (put_keeps x ys z)
  where
    by : (o : Ordering) → (y ≡ z) ⊎ Contains ys z → (Contains ys z → Contains (put x ys) z) → Contains (put_by o x y ys (put x ys)) z
    by Less place later = later_in x (y ∷ ys) z has
    by Equal place later = has
    by Greater (inl is) later = subst (Contains (y ∷ put x ys)) is (first_in y (put x ys))
    by Greater (inr has) later = later_in y (put x ys) z (later has)

put_from : (x : Text) (ys : List Text) (z : Text) → Contains (put x ys) z → (x ≡ z) ⊎ Contains ys z
put_from x [] z has = member x [] z has
put_from x (y ∷ ys) z has = by (slice_cmp nat_cmp x y) has (put_from x ys z)
  where
    deeper : (x ≡ z) ⊎ Contains ys z → (x ≡ z) ⊎ Contains (y ∷ ys) z
    deeper (inl is) = inl is
    deeper (inr has) = inr (later_in y ys z has)

    of : (y ≡ z) ⊎ Contains (put x ys) z → (Contains (put x ys) z → (x ≡ z) ⊎ Contains ys z) → (x ≡ z) ⊎ Contains (y ∷ ys) z
    of (inl is) later = inr (subst (Contains (y ∷ ys)) is (first_in y ys))
    of (inr has) later = deeper (later has)

    by : (o : Ordering) → Contains (put_by o x y ys (put x ys)) z → (Contains (put x ys) z → (x ≡ z) ⊎ Contains ys z) → (x ≡ z) ⊎ Contains (y ∷ ys) z
    by Less has later = member x (y ∷ ys) z has
    by Equal has later = inr has
    by Greater has later = of (member y (put x ys) z has) later

pub rising_has : (xs : List Text) (z : Text) → Contains xs z → Contains (rising xs) z
rising_has [] z has = has
rising_has (x ∷ xs) z has = by (member x xs z has) (rising_has xs z)
  where
    by : (x ≡ z) ⊎ Contains xs z → (Contains xs z → Contains (rising xs) z) → Contains (put x (rising xs)) z
    by (inl is) later = subst (Contains (put x (rising xs))) is (put_has x (rising xs))
    by (inr has) later = put_keeps x (rising xs) z (later has)

pub rising_from : (xs : List Text) (z : Text) → Contains (rising xs) z → Contains xs z
rising_from [] z has = has
rising_from (x ∷ xs) z has = by (put_from x (rising xs) z has) (rising_from xs z)
  where
    by : (x ≡ z) ⊎ Contains (rising xs) z → (Contains (rising xs) z → Contains xs z) → Contains (x ∷ xs) z
    by (inl is) later = subst (Contains (x ∷ xs)) is (first_in x xs)
    by (inr has) later = later_in x xs z (later has)
