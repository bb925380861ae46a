-- A stable sort by name gives the methods by name.
use Rattle.std.proofs.Common.{◌≡◌, ℕ, zero, suc, ◌+◌, ◌<◌, List, [], ◌∷◌, length, get_or, map, Bool, true, false, cond, not, ◌&&◌, refl, sym, ap, subst, ◌∙◌, arith}
use Rattle.std.specs.List.{Contains, filter}
use Rattle.std.specs.List.Sorted.{IsPermutation, IsSortedBy, IsStableBy, ties}
use Rattle.std.specs.Cmp.{IsStrictWeakOrder}
use Rattle.std.specs.Cmp.Lexicographic.{slice_cmp}
use Rattle.std.specs.Ordering.{nat_cmp, is_lt}
use Rattle.std.proofs.lemmas.Cmp.{nat_list_cmp_total}
use Rattle.std.proofs.lemmas.List.Sorted.{ranks_by, sorted_far}
use Rattle.std.proofs.lemmas.List.Elements.{Contains-get_or, Contains-append_right}
use Rattle.go_values.specs.declared.positions.Pos.TheVariants.{Nowhere}
use Rattle.type_terms.specs.declared.literals.IMethod.{IMethod}
use Rattle.written_types.specs.ByName.{Method, is_before, by_name}
use Rattle.written_types.proofs.ByNameLemmas.{sorted, stable}
use Rattle.written_nodes.specs.Making.{no_origin, InOrder}

-- ---- sorted lists

module _ {X : Type 0} (lt : X → X → Bool) (order : IsStrictWeakOrder lt) where
  ties_itself : (x : X) → ties lt x x ≡ true
  ties_itself x = by (lt x x) refl
    where
      by : (b : Bool) → lt x x ≡ b → (not b && not b) ≡ true
      by false e = refl
      by true e = absurd (both (sym e ∙ order.one_way x x e))
        where
          both : true ≡ false → ⊥
          both h = cc

  -- the head of what is taken of a list stands in the list
  taken_held : (test : X → Bool) (zs : List X) (x : X) (rest : List X) → filter test zs ≡ x ∷ rest → Contains zs x
  taken_held test [] x rest e = absurd (nothing e)
    where
      nothing : [] ≡ x ∷ rest → ⊥
      nothing h = cc
  taken_held test (z ∷ zs) x rest e = by (test z) e (λ later. Contains-append_right (z ∷ []) zs x (taken_held test zs x rest later))
    where
      by : (b : Bool) → cond b (z ∷ filter test zs) (filter test zs) ≡ x ∷ rest → (filter test zs ≡ x ∷ rest → Contains (z ∷ zs) x) → Contains (z ∷ zs) x
      by true h later = let same : z ≡ x = cc in subst (Contains (z ∷ zs)) same (Contains-get_or (z ∷ zs) 0 z (omega arith))
      by false h later = later h

  -- none is before the first
  none_before : (z : X) (zs : List X) (x : X) → IsSortedBy lt (z ∷ zs) → Contains (z ∷ zs) x → lt x z ≡ false
  none_before z zs x up (k, there, is) = subst (λ y. lt y z ≡ false) is (sorted_far lt order (z ∷ zs) up 0 k x (omega arith) there)

  tail_up : (z : X) (zs : List X) → IsSortedBy lt (z ∷ zs) → IsSortedBy lt zs
  tail_up z zs up k d low below =
      let next : (k + 1) + 1 ≡ suc (k + 1) = omega arith in
      let one : k + 1 ≡ suc k = omega arith in
      subst (λ (n : ℕ). lt (get_or (z ∷ zs) n d) (get_or (z ∷ zs) (suc k) d) ≡ false) next
      (subst (λ (n : ℕ). lt (get_or (z ∷ zs) ((k + 1) + 1) d) (get_or (z ∷ zs) n d) ≡ false) one (up (k + 1) d (omega arith) (omega (arith, below))))

  taken_first : (test : X → Bool) (x : X) (xs : List X) → test x ≡ true → filter test (x ∷ xs) ≡ x ∷ filter test xs
  taken_first test x xs e = ap (λ b. cond b (x ∷ filter test xs) (filter test xs)) e

  -- sorted lists with the same elements that tie, in the same order, are equal
  pub same_sorted : (xs ys : List X) → IsSortedBy lt xs → IsSortedBy lt ys → ((x : X) → filter (ties lt x) xs ≡ filter (ties lt x) ys) → xs ≡ ys
  same_sorted [] [] up up' same = refl
  same_sorted [] (y ∷ ys) up up' same = absurd (nothing (same y ∙ taken_first (ties lt y) y ys (ties_itself y)))
    where
      nothing : [] ≡ y ∷ filter (ties lt y) ys → ⊥
      nothing h = cc
  same_sorted (x ∷ xs) [] up up' same = absurd (nothing (sym (same x) ∙ taken_first (ties lt x) x xs (ties_itself x)))
    where
      nothing : [] ≡ x ∷ filter (ties lt x) xs → ⊥
      nothing h = cc
  same_sorted (x ∷ xs) (y ∷ ys) up up' same =
      let front : x ∷ filter (ties lt x) xs ≡ filter (ties lt x) (y ∷ ys) = sym (taken_first (ties lt x) x xs (ties_itself x)) ∙ same x in
      let back : y ∷ filter (ties lt y) ys ≡ filter (ties lt y) (x ∷ xs) = sym (taken_first (ties lt y) y ys (ties_itself y)) ∙ sym (same y) in
      let low : lt x y ≡ false = none_before y ys x up' (taken_held (ties lt x) (y ∷ ys) x (filter (ties lt x) xs) (sym front)) in
      let high : lt y x ≡ false = none_before x xs y up (taken_held (ties lt y) (x ∷ xs) y (filter (ties lt y) ys) (sym back)) in
      let tied : ties lt x y ≡ true = λ i. not (low i) && not (high i) in
      let whole : x ∷ filter (ties lt x) xs ≡ y ∷ filter (ties lt x) ys = front ∙ taken_first (ties lt x) y ys tied in
      let first : x ≡ y = cc (whole) in
      λ i. first i ∷ same_sorted xs ys (tail_up x xs up) (tail_up y ys up') (λ z. rest z first (same z)) i
    where
      rest : (z : X) → x ≡ y → filter (ties lt z) (x ∷ xs) ≡ filter (ties lt z) (y ∷ ys) → filter (ties lt z) xs ≡ filter (ties lt z) ys
      rest z first e = by (ties lt z x) (e ∙ ap (λ w. cond (ties lt z w) (w ∷ filter (ties lt z) ys) (filter (ties lt z) ys)) (sym first))
        where
          by : (b : Bool) → cond b (x ∷ filter (ties lt z) xs) (filter (ties lt z) xs) ≡ cond b (x ∷ filter (ties lt z) ys) (filter (ties lt z) ys) → filter (ties lt z) xs ≡ filter (ties lt z) ys
          by true h = cc
          by false h = h

-- ---- lists whose elements are replaced

module _ {X Y : Type 0} (f : X → Y) where
  map_at : (xs : List X) (k : ℕ) (d : Y) (e : X) → k < length xs → get_or (map f xs) k d ≡ f (get_or xs k e)
  map_at [] k d e below = absurd (omega arith)
  map_at (x ∷ xs) zero d e below = refl
  map_at (x ∷ xs) (suc k) d e below = map_at xs k d e (omega arith)

  map_length : (xs : List X) → length (map f xs) ≡ length xs
  map_length [] = refl
  map_length (x ∷ xs) = ap suc (map_length xs)

  map_sorted : (lt : X → X → Bool) (lt' : Y → Y → Bool) → ((x y : X) → lt' (f x) (f y) ≡ lt x y) → (xs : List X) → IsSortedBy lt xs → IsSortedBy lt' (map f xs)
  map_sorted lt lt' same [] up k d low below = absurd (omega (arith, below))
  map_sorted lt lt' same (x ∷ xs) up k d low below =
      let whole = x ∷ xs in
      let inside : k + 1 < length whole = omega (arith, below, map_length whole) in
      let before : k < length whole = omega arith in
      (λ i. lt' (map_at whole (k + 1) d x inside i) (map_at whole k d x before i)) ∙ same (get_or whole (k + 1) x) (get_or whole k x) ∙ up k x low inside

  map_taken : (test : Y → Bool) (test' : X → Bool) → ((x : X) → test (f x) ≡ test' x) → (xs : List X) → filter test (map f xs) ≡ map f (filter test' xs)
  map_taken test test' same [] = refl
  map_taken test test' same (x ∷ xs) = by (test (f x)) (test' x) (same x) (map_taken test test' same xs)
    where
      by : (b b' : Bool) → b ≡ b' → filter test (map f xs) ≡ map f (filter test' xs) → cond b (f x ∷ filter test (map f xs)) (filter test (map f xs)) ≡ map f (cond b' (x ∷ filter test' xs) (filter test' xs))
      by true true e rest = ap (λ more. f x ∷ more) rest
      by false false e rest = rest
      by true false e rest = absurd cc
      by false true e rest = absurd cc

-- ---- methods

abbrev pub is_named_before : IMethod → IMethod → Bool
is_named_before x y = is_lt (slice_cmp nat_cmp x.name y.name)

pub node_order : IsStrictWeakOrder is_named_before
node_order = ranks_by nat_list_cmp_total (λ (x : IMethod). x.name)

method_order : IsStrictWeakOrder is_before
method_order = ranks_by nat_list_cmp_total (λ (x : Method). x.name)

-- some method of that name
abbrev some_named : List ℕ → IMethod
some_named name = record { origin = no_origin; pos = Nowhere; name = name; sig = record { params = []; results = []; variadic = false } }

pub in_order : (old new : List IMethod) → IsPermutation old new → IsSortedBy is_named_before new → IsStableBy is_named_before old new → InOrder old new
in_order old new moved up kept = record {
  same = moved;
  by_name = λ meant named.
      let compares : (x y : IMethod) → is_before (meant x) (meant y) ≡ is_named_before x y =
      λ x y i. is_lt (slice_cmp nat_cmp (named x i) (named y i)) in
      let tied : (z : Method) (x : IMethod) → ties is_before z (meant x) ≡ ties is_named_before (some_named z.name) x =
      λ z x i. not (is_lt (slice_cmp nat_cmp z.name (named x i))) && not (is_lt (slice_cmp nat_cmp (named x i) z.name)) in
      same_sorted is_before method_order (map meant new) (by_name (map meant old)) (map_sorted meant is_named_before is_before compares new up) (sorted (map meant old))
      (λ z. map_taken meant (ties is_before z) (ties is_named_before (some_named z.name)) (tied z) new
      ∙ ap (map meant) (kept (some_named z.name))
      ∙ sym (map_taken meant (ties is_before z) (ties is_named_before (some_named z.name)) (tied z) old)
      ∙ sym (stable (map meant old) z));
}
