-- Stretches of which no two share a byte have no more bytes than there are.
use Rattle.std.proofs.Common.{◌≡◌, ℕ, zero, suc, ◌+◌, ◌<◌, ◌≤◌, ◌⊎◌, inl, inr, List, [], ◌∷◌, ◌++◌, map, Contains, Bool, true, false, nat_lt, nat_le, refl, sym, ◌∙◌, ap, subst, arith}
use Rattle.std.specs.List.{AllByRecursion, sum_by}
use Rattle.std.proofs.lemmas.Bool.Decides.{nat_tests}
use Rattle.std.proofs.lemmas.List.Sums.{sum_by-cons}
use Rattle.decl_spelling.proofs.TableLaws.{has_none, has_where, first_has, later_has}
use Rattle.shared_reading.specs.Counted.{Stretch, byte_count, Away, AllAway}

-- whether it has the byte at an offset
abbrev pub both_hold : Bool → Bool → ℕ
both_hold true true = 1
both_hold true false = 0
both_hold false b = 0

abbrev pub has_byte : ℕ → Stretch → ℕ
has_byte n s = both_hold (nat_le s.start n) (nat_lt n s.end)

-- how many of its bytes stand before an offset
abbrev pub before : ℕ → Stretch → ℕ
before zero s = 0
before (suc n) s = before n s + has_byte n s

pub has_at_most : (n : ℕ) (s : Stretch) → (has_byte n s ≡ 0) ⊎ ((has_byte n s ≡ 1) × (s.start ≤ n) × (n < s.end))
has_at_most n s = by (nat_le s.start n) (nat_lt n s.end) refl refl
  where
    by : (a b : Bool) → nat_le s.start n ≡ a → nat_lt n s.end ≡ b → (both_hold a b ≡ 0) ⊎ ((both_hold a b ≡ 1) × (s.start ≤ n) × (n < s.end))
    by false b p q = inl refl
    by true false p q = inl refl
    by true true p q =
        let le : s.start ≤ n = grind (arith, nat_tests) in
        let lt : n < s.end = grind (arith, nat_tests) in
        inr (refl, le, lt)

has_one : (n : ℕ) (s : Stretch) → s.start ≤ n → n < s.end → has_byte n s ≡ 1
has_one n s le lt =
    let starts : nat_le s.start n ≡ true = grind (arith, nat_tests) in
    let ends : nat_lt n s.end ≡ true = grind (arith, nat_tests) in
    rw (starts, ends) refl

has_none_behind : (n : ℕ) (s : Stretch) → s.end ≤ n → has_byte n s ≡ 0
has_none_behind n s le =
    elim (has_at_most n s) [
      | inl none ↦ none
      | inr one ↦ let lt = one.2 in absurd (omega arith)
    ]

has_none_before : (n : ℕ) (s : Stretch) → n < s.start → has_byte n s ≡ 0
has_none_before n s lt =
    elim (has_at_most n s) [
      | inl none ↦ none
      | inr one ↦ let le = one.1 in absurd (omega arith)
    ]

-- before the start there is none, and then all up to the offset, to the end at most
before_start : (n : ℕ) (s : Stretch) → n ≤ s.start → before n s ≡ 0
before_start zero s le = refl
before_start (suc n) s le = omega (arith, before_start n s (omega arith), has_none_before n s (omega arith))

pub le_or : (a b : ℕ) → (a ≤ b) ⊎ (b < a)
le_or a b = by (nat_le a b) refl
  where
    by : (c : Bool) → nat_le a b ≡ c → (a ≤ b) ⊎ (b < a)
    by true p = inl (grind (arith, nat_tests))
    by false p = inr (grind (arith, nat_tests))

before_within : (n : ℕ) (s : Stretch) → s.start ≤ n → n ≤ s.end → before n s + s.start ≡ n
before_within zero s le ends = omega arith
before_within (suc n) s le ends =
    elim (le_or s.start n) [
      | inl small ↦ omega (arith, before_within n s small (omega arith), has_one n s small (omega arith))
      | inr large ↦ omega (arith, before_start n s (omega (arith, large)), has_none_before n s large)
    ]

at_its_end : (s : Stretch) → s.start ≤ s.end → before s.end s ≡ byte_count s
at_its_end s order = omega (arith, before_within s.end s order (omega arith))

before_end : (n : ℕ) (s : Stretch) → s.start ≤ s.end → s.end ≤ n → before n s ≡ byte_count s
before_end zero s order ends = let same : s.end ≡ 0 = omega arith in subst (λ (k : ℕ). before k s ≡ byte_count s) same (at_its_end s order)
before_end (suc m) s order ends = step (nat_le s.end m) refl (before_end m s order)
  where
    step : (c : Bool) → nat_le s.end m ≡ c → (s.end ≤ m → before m s ≡ byte_count s) → before (suc m) s ≡ byte_count s
    step true p later = let le : s.end ≤ m = grind (arith, nat_tests) in omega (arith, later le, has_none_behind m s le)
    step false p later = let same : s.end ≡ suc m = grind (arith, nat_tests) in subst (λ (k : ℕ). before k s ≡ byte_count s) same (at_its_end s order)

-- a stretch that ends before it starts has none
before_empty : (n : ℕ) (s : Stretch) → s.end ≤ s.start → before n s ≡ 0
before_empty zero s order = refl
before_empty (suc n) s order =
    elim (has_at_most n s) [
      | inl none ↦ omega (arith, before_empty n s order, none)
      | inr one ↦ let le = one.1 in let lt = one.2 in absurd (omega arith)
    ]

pub before_all : (n : ℕ) (s : Stretch) → s.end ≤ n → before n s ≡ byte_count s
before_all n s ends = by (nat_le s.start s.end) refl
  where
    by : (c : Bool) → nat_le s.start s.end ≡ c → before n s ≡ byte_count s
    by true p = before_end n s (grind (arith, nat_tests)) ends
    by false p = let order : s.end ≤ s.start = grind (arith, nat_tests) in omega (arith, before_empty n s order)

-- ---- sums

pub sum_two : (n : ℕ) (xs : List Stretch) → sum_by (before (suc n)) xs ≡ sum_by (before n) xs + sum_by (has_byte n) xs
sum_two n [] = refl
sum_two n (x ∷ xs) = omega (arith, sum_by-cons (before (suc n)) x xs, sum_by-cons (before n) x xs, sum_by-cons (has_byte n) x xs, sum_two n xs)

pub sum_none : (xs : List Stretch) → sum_by (before 0) xs ≡ 0
sum_none [] = refl
sum_none (x ∷ xs) = omega (arith, sum_by-cons (before 0) x xs, sum_none xs)

pub sum_all : (n : ℕ) (xs : List Stretch) → AllByRecursion (λ s. s.end ≤ n) xs → sum_by (before n) xs ≡ sum_by byte_count xs
sum_all n [] ends = refl
sum_all n (x ∷ xs) ends = omega (arith, sum_by-cons (before n) x xs, sum_by-cons byte_count x xs, before_all n x ends.0, sum_all n xs ends.1)

-- where one has a byte those that are away from it don't
others_none : (n : ℕ) (x : Stretch) (xs : List Stretch) → x.start ≤ n → n < x.end → AllByRecursion (Away x) xs → sum_by (has_byte n) xs ≡ 0
others_none n x [] le lt away = refl
others_none n x (y ∷ ys) le lt away = omega (arith, sum_by-cons (has_byte n) y ys, none (away.0), others_none n x ys le lt away.1)
  where
    none : Away x y → has_byte n y ≡ 0
    none (inl ends) = has_none_before n y (omega arith)
    none (inr ends) = has_none_behind n y (omega arith)

pub one_has : (n : ℕ) (xs : List Stretch) → AllAway xs → sum_by (has_byte n) xs ≤ 1
one_has n [] away = omega arith
one_has n (x ∷ xs) away =
    elim (has_at_most n x) [
      | inl none ↦ omega (arith, sum_by-cons (has_byte n) x xs, none, one_has n xs away.1)
      | inr one ↦ let le = one.1 in let lt = one.2 in omega (arith, sum_by-cons (has_byte n) x xs, one.0, others_none n x xs le lt away.0)
    ]

pub few_before : (n : ℕ) (xs : List Stretch) → AllAway xs → sum_by (before n) xs ≤ n
few_before zero xs away = omega (arith, sum_none xs)
few_before (suc n) xs away = omega (arith, sum_two n xs, few_before n xs away, one_has n xs away)

pub few_bytes : (n : ℕ) (xs : List Stretch) → AllAway xs → AllByRecursion (λ s. s.end ≤ n) xs → sum_by byte_count xs ≤ n
few_bytes n xs away ends = omega (arith, sum_all n xs ends, few_before n xs away)

-- ---- some of them have fewer

pub some_has : (n : ℕ) (xs : List Stretch) → (sum_by (has_byte n) xs ≡ 0) ⊎ ((s : Stretch) × Contains xs s × (has_byte n s ≡ 1))
some_has n [] = inl refl
some_has n (x ∷ xs) =
    elim (has_at_most n x) [
      | inl none ↦ elim (some_has n xs) [
        | inl nothing ↦ inl (omega (arith, sum_by-cons (has_byte n) x xs, none, nothing))
        | inr found ↦ inr (found.0, later_has x found.0 xs found.1, found.2)
      ]
      | inr one ↦ inr (x, first_has x xs, one.0)
    ]

pub sum_has : (n : ℕ) (xs : List Stretch) (s : Stretch) → Contains xs s → has_byte n s ≡ 1 → 1 ≤ sum_by (has_byte n) xs
sum_has n [] s has one = absurd (has_none s has)
sum_has n (x ∷ xs) s has one =
    elim (has_where x s xs has) [
      | inl here ↦ omega (arith, sum_by-cons (has_byte n) x xs, ap (has_byte n) here, one)
      | inr later ↦ omega (arith, sum_by-cons (has_byte n) x xs, sum_has n xs s later one)
    ]

module _ (xs ys : List Stretch) (away : AllAway xs) (more : (s : Stretch) → Contains xs s → Contains ys s) where
  fewer_has : (n : ℕ) → sum_by (has_byte n) xs ≤ sum_by (has_byte n) ys
  fewer_has n =
      elim (some_has n xs) [
        | inl none ↦ omega (arith, none)
        | inr found ↦ omega (arith, one_has n xs away, sum_has n ys found.0 (more found.0 found.1) found.2)
      ]

  fewer_before : (n : ℕ) → sum_by (before n) xs ≤ sum_by (before n) ys
  fewer_before zero = omega (arith, sum_none xs)
  fewer_before (suc n) = omega (arith, sum_two n xs, sum_two n ys, fewer_before n, fewer_has n)

  pub fewer_bytes : (n : ℕ) → AllByRecursion (λ s. s.end ≤ n) xs → AllByRecursion (λ s. s.end ≤ n) ys → sum_by byte_count xs ≤ sum_by byte_count ys
  fewer_bytes n ends_x ends_y = omega (arith, sum_all n xs ends_x, sum_all n ys ends_y, fewer_before n)

-- ---- two lists

pub away_both : (xs ys : List Stretch) → AllAway xs → AllAway ys → ((x y : Stretch) → Contains xs x → Contains ys y → Away x y) → AllAway (xs ++ ys)
away_both [] ys away_x away_y both = away_y
away_both (x ∷ xs) ys away_x away_y both =
    (all_two xs ys away_x.0 (λ y has. both x y (first_has x xs) has), away_both xs ys away_x.1 away_y (λ z y has_z has_y. both z y (later_has x z xs has_z) has_y))
  where
    all_of : (ys : List Stretch) → ((y : Stretch) → Contains ys y → Away x y) → AllByRecursion (Away x) ys
    all_of [] each = tt
    all_of (y ∷ ys) each = (each y (first_has y ys), all_of ys (λ z has. each z (later_has y z ys has)))

    all_two : (xs ys : List Stretch) → AllByRecursion (Away x) xs → ((y : Stretch) → Contains ys y → Away x y) → AllByRecursion (Away x) (xs ++ ys)
    all_two [] ys all each = all_of ys each
    all_two (z ∷ zs) ys all each = (all.0, all_two zs ys all.1 each)

pub ends_both : (n : ℕ) (xs ys : List Stretch) → AllByRecursion (λ s. s.end ≤ n) xs → AllByRecursion (λ s. s.end ≤ n) ys → AllByRecursion (λ s. s.end ≤ n) (xs ++ ys)
ends_both n [] ys ends_x ends_y = ends_y
ends_both n (x ∷ xs) ys ends_x ends_y = (ends_x.0, ends_both n xs ys ends_x.1 ends_y)

-- ---- mapped

pub map_has : {A B : Type 0} (f : A → B) (xs : List A) (x : A) → Contains xs x → Contains (map f xs) (f x)
map_has f [] x has = absurd (has_none x has)
map_has f (y ∷ ys) x has =
    elim (has_where y x ys has) [
      | inl here ↦ subst (λ z. Contains (map f (y ∷ ys)) (f z)) here (first_has (f y) (map f ys))
      | inr later ↦ later_has (f y) (f x) (map f ys) (map_has f ys x later)
    ]

pub has_map : {A B : Type 0} (f : A → B) (xs : List A) (z : B) → Contains (map f xs) z → (x : A) × Contains xs x × (f x ≡ z)
has_map f [] z has = absurd (has_none z has)
has_map f (y ∷ ys) z has =
    elim (has_where (f y) z (map f ys) has) [
      | inl here ↦ (y, first_has y ys, here)
      | inr later ↦ let found = has_map f ys z later in (found.0, later_has y found.0 ys found.1, found.2)
    ]

pub sum_map : {A B : Type 0} (h : B → ℕ) (f : A → B) (xs : List A) → sum_by h (map f xs) ≡ sum_by (λ x. h (f x)) xs
sum_map h f [] = refl
sum_map h f (x ∷ xs) = sum_by-cons h (f x) (map f xs) ∙ ap (λ n. h (f x) + n) (sum_map h f xs) ∙ sym (sum_by-cons (λ x. h (f x)) x xs)
