-- What stands at a place of a list, after a push, a take or a write.
use Rattle.std.proofs.lemmas.Bool.{cases_eq}
use Rattle.std.proofs.Common.{◌≡◌, ◌≢◌, ℕ, zero, suc, ◌+◌, ◌<◌, ◌⊎◌, List, [], ◌∷◌, ◌++◌, length, take, set, slice_get, get_or, map, replicate, Some, refl, sym, subst, ap, ◌∙◌, inl, inr, arith}

pub at_within : {X : Type 0} (xs : List X) (i : ℕ) (x : X) → slice_get xs i ≡ Some x → i < length xs
at_within [] i x h = absurd cc
at_within (y ∷ ys) zero x h = omega arith
at_within (y ∷ ys) (suc i) x h = let w = at_within ys i x h in omega arith

pub at_some : {X : Type 0} (xs : List X) (i : ℕ) → i < length xs → (x : X) × (slice_get xs i ≡ Some x)
at_some [] i h = absurd (omega arith)
at_some (y ∷ ys) zero h = (y, refl)
at_some (y ∷ ys) (suc i) h = at_some ys i (omega arith)

pub at-left : {X : Type 0} (xs ys : List X) (i : ℕ) (x : X) → slice_get xs i ≡ Some x → slice_get (xs ++ ys) i ≡ Some x
at-left [] ys i x h = absurd cc
at-left (z ∷ zs) ys zero x h = h
at-left (z ∷ zs) ys (suc i) x h = at-left zs ys i x h

pub at-right : {X : Type 0} (xs ys : List X) (i : ℕ) (x : X) → slice_get ys i ≡ Some x → slice_get (xs ++ ys) (length xs + i) ≡ Some x
at-right [] ys i x h = let e : 0 + i ≡ i = omega arith in rw e h
at-right (z ∷ zs) ys i x h = let e : suc (length zs) + i ≡ suc (length zs + i) = omega arith in rw e (at-right zs ys i x h)

pub at-append_cases : {X : Type 0} (xs ys : List X) (i : ℕ) (x : X) → slice_get (xs ++ ys) i ≡ Some x → (slice_get xs i ≡ Some x) ⊎ ((k : ℕ) × (i ≡ length xs + k) × (slice_get ys k ≡ Some x))
at-append_cases [] ys i x h = inr (i, omega arith, h)
at-append_cases (z ∷ zs) ys zero x h = inl h
at-append_cases (z ∷ zs) ys (suc i) x h = elim (at-append_cases zs ys i x h) [ inl e ↦ inl e | inr q ↦ inr (q.0, omega (arith, q.1), q.2) ]

pub at-last : {X : Type 0} (xs : List X) (y : X) → slice_get (xs ++ y ∷ []) (length xs) ≡ Some y
at-last [] y = refl
at-last (z ∷ zs) y = at-last zs y

pub at-push_cases : {X : Type 0} (xs : List X) (y : X) (i : ℕ) (x : X) → slice_get (xs ++ y ∷ []) i ≡ Some x → (slice_get xs i ≡ Some x) ⊎ ((i ≡ length xs) × (y ≡ x))
at-push_cases [] y zero x h = inr (refl, cc)
at-push_cases [] y (suc i) x h = absurd cc
at-push_cases (z ∷ zs) y zero x h = inl h
at-push_cases (z ∷ zs) y (suc i) x h = elim (at-push_cases zs y i x h) [ inl e ↦ inl e | inr q ↦ inr (ap suc q.0, q.1) ]

pub at-take : {X : Type 0} (n : ℕ) (xs : List X) (i : ℕ) (x : X) → slice_get (take n xs) i ≡ Some x → (i < n) × (slice_get xs i ≡ Some x)
at-take zero xs i x h = absurd cc
at-take (suc n) [] i x h = absurd cc
at-take (suc n) (y ∷ ys) zero x h = (omega arith, h)
at-take (suc n) (y ∷ ys) (suc i) x h = let r = at-take n ys i x h in (omega arith, r.1)

pub at-taken : {X : Type 0} (n : ℕ) (xs : List X) (i : ℕ) (x : X) → i < n → slice_get xs i ≡ Some x → slice_get (take n xs) i ≡ Some x
at-taken n [] i x below h = absurd cc
at-taken zero (y ∷ ys) i x below h = absurd (omega arith)
at-taken (suc n) (y ∷ ys) zero x below h = h
at-taken (suc n) (y ∷ ys) (suc i) x below h = at-taken n ys i x (omega arith) h

pub at-set_same : {X : Type 0} (xs : List X) (i : ℕ) (y : X) → i < length xs → slice_get (set xs i y) i ≡ Some y
at-set_same [] i y h = absurd (omega arith)
at-set_same (x ∷ xs) zero y h = refl
at-set_same (x ∷ xs) (suc i) y h = at-set_same xs i y (omega arith)

pub at-set_other : {X : Type 0} (xs : List X) (i j : ℕ) (y : X) → j ≢ i → slice_get (set xs i y) j ≡ slice_get xs j
at-set_other [] i j y h = refl
at-set_other (x ∷ xs) zero zero y h = absurd (h refl)
at-set_other (x ∷ xs) zero (suc j) y h = refl
at-set_other (x ∷ xs) (suc i) zero y h = refl
at-set_other (x ∷ xs) (suc i) (suc j) y h = at-set_other xs i j y (λ e. h (ap suc e))

pub at-map : {A B : Type 0} (f : A → B) (xs : List A) (i : ℕ) (d : A) → i < length xs → slice_get (map f xs) i ≡ Some (f (get_or xs i d))
at-map f [] i d h = absurd (omega arith)
at-map f (x ∷ xs) zero d h = refl
at-map f (x ∷ xs) (suc i) d h = at-map f xs i d (omega arith)

pub front_last : {X : Type 0} (xs : List X) (n : ℕ) (x : X) → n + 1 ≡ length xs → slice_get xs n ≡ Some x → xs ≡ take n xs ++ x ∷ []
front_last [] n x e h = absurd (omega arith)
front_last (y ∷ []) zero x e h = cc
front_last (y ∷ z ∷ zs) zero x e h = absurd (omega arith)
front_last (y ∷ ys) (suc n) x e h = ap (λ l. y ∷ l) (front_last ys n x (omega arith) h)

pub at-mapped : {A B : Type 0} (f : A → B) (xs : List A) (i : ℕ) (y : B) → slice_get (map f xs) i ≡ Some y → (x : A) × (slice_get xs i ≡ Some x) × (f x ≡ y)
at-mapped f [] i y h = absurd cc
at-mapped f (x ∷ xs) zero y h = (x, refl, cc)
at-mapped f (x ∷ xs) (suc i) y h = at-mapped f xs i y h

pub at-map_of : {A B : Type 0} (f : A → B) (xs : List A) (i : ℕ) (x : A) → slice_get xs i ≡ Some x → slice_get (map f xs) i ≡ Some (f x)
at-map_of f [] i x h = absurd cc
at-map_of f (y ∷ ys) zero x h = let e : y ≡ x = cc in ap (λ z. Some (f z)) e
at-map_of f (y ∷ ys) (suc i) x h = at-map_of f ys i x h

pub at-replicate : {X : Type 0} (n : ℕ) (y : X) (i : ℕ) (x : X) → slice_get (replicate n y) i ≡ Some x → x ≡ y
at-replicate zero y i x h = absurd cc
at-replicate (suc n) y zero x h = cc
at-replicate (suc n) y (suc i) x h = at-replicate n y i x h

-- rows of a table, of which one gains an entry at its end
module _ {X : Type 0} (rows : List (List X)) (r : ℕ) (row : List X) (y : X) (at : slice_get rows r ≡ Some row) where
  pub at-pushed_old : (a k : ℕ) (entries : List X) (x : X) → slice_get rows a ≡ Some entries → slice_get entries k ≡ Some x → (more : List X) × (slice_get (set rows r (row ++ y ∷ [])) a ≡ Some more) × (slice_get more k ≡ Some x)
  at-pushed_old a k entries x from to = elim (cases_eq a r) [
    | inl same ↦
        let own : slice_get rows r ≡ Some entries = subst (λ (n : ℕ). slice_get rows n ≡ Some entries) same from in
        let equal : entries ≡ row = cc in
        (row ++ y ∷ [], subst (λ (n : ℕ). slice_get (set rows r (row ++ y ∷ [])) n ≡ Some (row ++ y ∷ [])) (sym same) (at-set_same rows r (row ++ y ∷ []) (at_within rows r row at)), at-left row (y ∷ []) k x (subst (λ (l : List X). slice_get l k ≡ Some x) equal to))
    | inr other ↦ (entries, at-set_other rows r a (row ++ y ∷ []) other ∙ from, to)
  ]

  pub at-pushed_cases : (a k : ℕ) (entries : List X) (x : X) → slice_get (set rows r (row ++ y ∷ [])) a ≡ Some entries → slice_get entries k ≡ Some x → ((old : List X) × (slice_get rows a ≡ Some old) × (slice_get old k ≡ Some x)) ⊎ ((a ≡ r) × (y ≡ x))
  at-pushed_cases a k entries x from to = elim (cases_eq a r) [
    | inl same ↦
        let new = at-set_same rows r (row ++ y ∷ []) (at_within rows r row at) in
        let own : slice_get (set rows r (row ++ y ∷ [])) r ≡ Some entries = subst (λ (n : ℕ). slice_get (set rows r (row ++ y ∷ [])) n ≡ Some entries) same from in
        let equal : entries ≡ row ++ y ∷ [] = cc in
        elim (at-push_cases row y k x (subst (λ (l : List X). slice_get l k ≡ Some x) equal to)) [
          | inl old ↦ inl (row, subst (λ (n : ℕ). slice_get rows n ≡ Some row) (sym same) at, old)
          | inr last ↦ inr (same, last.1)
        ]
    | inr other ↦ inl (entries, sym (at-set_other rows r a (row ++ y ∷ []) other) ∙ from, to)
  ]

  pub at-pushed_new : slice_get (set rows r (row ++ y ∷ [])) r ≡ Some (row ++ y ∷ [])
  at-pushed_new = at-set_same rows r (row ++ y ∷ []) (at_within rows r row at)

-- rows of a table, of which one has an entry written
module _ {X : Type 0} (rows : List (List X)) (r c : ℕ) (row : List X) (y : X) (at : slice_get rows r ≡ Some row) where
  pub at-written_old : (a k : ℕ) (entries : List X) (x : X) → (x ≡ y) ⊎ ((a ≡ r) → (k ≡ c) → ⊥) → slice_get rows a ≡ Some entries → slice_get entries k ≡ Some x → (more : List X) × (slice_get (set rows r (set row c y)) a ≡ Some more) × (slice_get more k ≡ Some x)
  at-written_old a k entries x kind from to = elim (cases_eq a r) [
    | inl same ↦
        let own : slice_get rows r ≡ Some entries = subst (λ (n : ℕ). slice_get rows n ≡ Some entries) same from in
        let equal : entries ≡ row = cc in
        let was : slice_get row k ≡ Some x = subst (λ (l : List X). slice_get l k ≡ Some x) equal to in
        let there : slice_get (set rows r (set row c y)) a ≡ Some (set row c y) = subst (λ (n : ℕ). slice_get (set rows r (set row c y)) n ≡ Some (set row c y)) (sym same) (at-set_same rows r (set row c y) (at_within rows r row at)) in (
          set row c y,
          there,
          elim (cases_eq k c) [
            | inl here ↦ elim kind [
              | inl written ↦
                  let fits : c < length row = let w = at_within row k x was in omega arith in
                  subst (λ (n : ℕ). slice_get (set row c y) n ≡ Some x) (sym here) (at-set_same row c y fits ∙ ap Some (sym written))
              | inr not ↦ absurd (not same here)
            ]
            | inr apart ↦ at-set_other row c k y apart ∙ was
          ],
        )
    | inr other ↦ (entries, at-set_other rows r a (set row c y) other ∙ from, to)
  ]

  pub at-written_cases : (a k : ℕ) (entries : List X) (x : X) → slice_get (set rows r (set row c y)) a ≡ Some entries → slice_get entries k ≡ Some x → ((old : List X) × (slice_get rows a ≡ Some old) × (slice_get old k ≡ Some x)) ⊎ ((a ≡ r) × (k ≡ c))
  at-written_cases a k entries x from to = elim (cases_eq a r) [
    | inl same ↦ elim (cases_eq k c) [
      | inl here ↦ inr (same, here)
      | inr apart ↦
          let new = at-set_same rows r (set row c y) (at_within rows r row at) in
          let own : slice_get (set rows r (set row c y)) r ≡ Some entries = subst (λ (n : ℕ). slice_get (set rows r (set row c y)) n ≡ Some entries) same from in
          let equal : entries ≡ set row c y = cc in
          inl (row, subst (λ (n : ℕ). slice_get rows n ≡ Some row) (sym same) at, sym (at-set_other row c k y apart) ∙ subst (λ (l : List X). slice_get l k ≡ Some x) equal to)
    ]
    | inr other ↦ inl (entries, sym (at-set_other rows r a (set row c y) other) ∙ from, to)
  ]

pub map-set : {A B : Type 0} (f : A → B) (xs : List A) (i : ℕ) (y : A) → map f (set xs i y) ≡ set (map f xs) i (f y)
map-set f [] i y = refl
map-set f (x ∷ xs) zero y = refl
map-set f (x ∷ xs) (suc i) y = ap (λ l. f x ∷ l) (map-set f xs i y)

-- writing what stands there changes nothing
pub set_as_it_is : {X : Type 0} (xs : List X) (i : ℕ) (x : X) → slice_get xs i ≡ Some x → set xs i x ≡ xs
set_as_it_is [] i x there = refl
set_as_it_is (y ∷ xs) zero x there = let same : x ≡ y = cc in ap (λ z. z ∷ xs) same
set_as_it_is (y ∷ xs) (suc i) x there = ap (λ l. y ∷ l) (set_as_it_is xs i x there)
