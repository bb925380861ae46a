-- Where names stand among all names of an index.
use Rattle.std.proofs.Common.{◌≡◌, ℕ, zero, suc, ◌+◌, ◌<◌, ◌≤◌, List, [], ◌∷◌, ◌++◌, length, map, Some, slice_get, refl, ap, arith, ◌⊎◌, inl, inr}
use Rattle.std.proofs.lemmas.List.{length-map}
use Rattle.name_index.specs.FullFile.{Entry, Package, Listed, named, listed_in, listed}
use Rattle.name_index.specs.Lookup.{as_listed, IsListed}

-- ---- places in lists that are joined

module _ {X : Type 0} where
  at_left : (xs ys : List X) (i : ℕ) (x : X) → slice_get xs i ≡ Some x → slice_get (xs ++ ys) i ≡ Some x
  at_left [] ys i x at = absurd cc
  at_left (y ∷ xs) ys zero x at = at
  at_left (y ∷ xs) ys (suc i) x at = at_left xs ys i x at

  at_right : (xs ys : List X) (n i : ℕ) (x : X) → n ≡ length xs + i → slice_get ys i ≡ Some x → slice_get (xs ++ ys) n ≡ Some x
  at_right [] ys n i x is at = let same : n ≡ i = omega (arith, is) in rw same at
  at_right (y ∷ xs) ys zero i x is at = absurd (omega arith)
  at_right (y ∷ xs) ys (suc n) i x is at = at_right xs ys n i x (omega arith) at

  at_either : (xs ys : List X) (n : ℕ) (x : X) → slice_get (xs ++ ys) n ≡ Some x → (slice_get xs n ≡ Some x) ⊎ ((i : ℕ) × (n ≡ length xs + i) × (slice_get ys i ≡ Some x))
  at_either [] ys n x at = inr (n, omega arith, at)
  at_either (y ∷ xs) ys zero x at = inl at
  at_either (y ∷ xs) ys (suc n) x at =
      elim (at_either xs ys n x at) [
        | inl here ↦ inl here
        | inr there ↦ inr (there.0, omega (arith, there.1), there.2)
      ]

module _ {X Y : Type 0} where
  pub of_map : (f : X → Y) (xs : List X) (i : ℕ) (y : Y) → slice_get (map f xs) i ≡ Some y → (x : X) × (slice_get xs i ≡ Some x) × (f x ≡ y)
  of_map f [] i y at = absurd cc
  of_map f (x ∷ xs) zero y at = (x, refl, some_is (f x) y at)
    where
      some_is : (a b : Y) → Some a ≡ Some b → a ≡ b
      some_is a b e = cc
  of_map f (x ∷ xs) (suc i) y at = of_map f xs i y at

  pub in_map : (f : X → Y) (xs : List X) (i : ℕ) (x : X) → slice_get xs i ≡ Some x → slice_get (map f xs) i ≡ Some (f x)
  in_map f [] i x at = absurd cc
  in_map f (z ∷ xs) zero x at = let same : z ≡ x = cc in ap (λ (o : X). Some (f o)) same
  in_map f (z ∷ xs) (suc i) x at = in_map f xs i x at

-- ---- the names of all packages

-- how many names are listed before package j
abbrev pub before : List Package → ℕ → ℕ
before [] j = 0
before (p ∷ ps) zero = 0
before (p ∷ ps) (suc j) = length p.entries + before ps j

-- package j's name i stands behind those of the packages before it
pub placed : (ps : List Package) (j i : ℕ) (p : Package) (e : Entry) → slice_get ps j ≡ Some p → slice_get p.entries i ≡ Some e → IsListed ps (before ps j + i) p.path e.name e.offset
placed [] j i p e package_at entry_at = absurd cc
placed (q ∷ ps) zero i p e package_at entry_at =
    let same : q ≡ p = cc in
    let here : slice_get (listed_in p) i ≡ Some (as_listed p.path e.name e.offset) = in_map (λ e. as_listed p.path e.name e.offset) p.entries i e entry_at in
    let start : 0 + i ≡ i = omega arith in
    rw (start, same) (at_left (listed_in p) (listed ps) i (as_listed p.path e.name e.offset) here)
placed (q ∷ ps) (suc j) i p e package_at entry_at =
    at_right (listed_in q) (listed ps) (length q.entries + before ps j + i) (before ps j + i) (as_listed p.path e.name e.offset)
    (omega (arith, length-map q.entries (λ e. as_listed q.path e.name e.offset)))
    (placed ps j i p e package_at entry_at)

-- whatever stands among all names is a package's name
pub record Holder (ps : List Package) (k : ℕ) (path name : List ℕ) (offset : ℕ) : Type 0 where
  pub which : ℕ
  pub place : ℕ
  pub p : Package
  pub e : Entry
  pub p_at : slice_get ps which ≡ Some p
  pub e_at : slice_get p.entries place ≡ Some e
  pub number : k ≡ before ps which + place
  pub path_is : p.path ≡ path
  pub name_is : e.name ≡ name
  pub offset_is : e.offset ≡ offset

pub holder : (ps : List Package) (k : ℕ) (path name : List ℕ) (offset : ℕ) → IsListed ps k path name offset → Holder ps k path name offset
holder [] k path name offset at = absurd cc
holder (q ∷ ps) k path name offset at =
    elim (at_either (listed_in q) (listed ps) k (as_listed path name offset) at) [
      | inl here ↦
          let x = of_map (λ e. as_listed q.path e.name e.offset) q.entries k (as_listed path name offset) here in
          record {
            which = 0;
            place = k;
            p = q;
            e = x.0;
            p_at = refl;
            e_at = x.1;
            number = omega arith;
            path_is = ap (λ (l : Listed). l.path) x.2;
            name_is = ap (λ (l : Listed). l.name) x.2;
            offset_is = ap (λ (l : Listed). l.offset) x.2;
          }
      | inr there ↦
          let h = holder ps there.0 path name offset there.2 in
          record {
            which = suc h.which;
            place = h.place;
            p = h.p;
            e = h.e;
            p_at = h.p_at;
            e_at = h.e_at;
            number = omega (arith, there.1, h.number, length-map q.entries (λ e. as_listed q.path e.name e.offset));
            path_is = h.path_is;
            name_is = h.name_is;
            offset_is = h.offset_is;
          }
    ]

-- the names of a package all stand before those of a later one
pub before_later : (ps : List Package) (i j : ℕ) (p q : Package) → i < j → slice_get ps i ≡ Some p → slice_get ps j ≡ Some q → before ps i + length p.entries ≤ before ps j
before_later [] i j p q lt at_i at_j = absurd cc
before_later (r ∷ ps) i zero p q lt at_i at_j = absurd (omega arith)
before_later (r ∷ ps) zero (suc j) p q lt at_i at_j =
    let same : length r.entries ≡ length p.entries = entries_same r p cc in
    omega (arith, same)
  where
    entries_same : (r p : Package) → r ≡ p → length r.entries ≡ length p.entries
    entries_same r p e = ap (λ (x : Package). length x.entries) e
before_later (r ∷ ps) (suc i) (suc j) p q lt at_i at_j = omega (arith, before_later ps i j p q (omega arith) at_i at_j)

pub before-named : (own : List ℕ) (ps : List Package) (j : ℕ) → before (named own ps) j ≡ before ps j
before-named own [] j = refl
before-named own (p ∷ ps) zero = refl
before-named own (p ∷ ps) (suc j) = refl
