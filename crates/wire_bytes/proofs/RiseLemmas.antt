-- Texts that rise: none stands twice, and what std's search finds among things whose texts rise.
use Rattle.std.proofs.Common.{◌≡◌, ℕ, zero, suc, ◌+◌, ◌<◌, List, [], ◌∷◌, length, map, Option, Some, option_map, slice_get, get_or, Result, Ok, Err, sym, ap, subst, ◌∙◌, arith, inl, inr}
use Rattle.std.specs.Prelude.{IfSome, IfNone}
use Rattle.std.specs.Cmp.{IsTotalOrder}
use Rattle.std.proofs.lemmas.Cmp.{nat_list_cmp_total, tied_itself}
use Rattle.std.proofs.lemmas.Map.Lookups.{exact_bytes}
use Rattle.std.proofs.lemmas.Bool.{cases_lt}
use Rattle.std.proofs.lemmas.Option.{slice_get-map, slice_get-get_or, slice_get_within}
use Rattle.std.proofs.lemmas.List.{length-map}
use Rattle.std.proofs.lemmas.List.Sorted.{searchable_from_sorted}
use Rattle.std.specs.List.Sorted.{IsSortedBy, IsSearchInRange, IsBinarySearchResult}
use Rattle.std.specs.Result.{result_ok}
use Rattle.std.specs.Cmp.Lexicographic.{slice_cmp}
use Rattle.std.specs.Ordering.{nat_cmp, ordering_reverse, is_lt}
use Rattle.std.specs.declared.cmp.Ordering.{Ordering}
use Rattle.std.specs.declared.cmp.Ordering.TheVariants.{Less, Equal, Greater}
use Rattle.wire_bytes.specs.Order.{IsBelow, RiseFrom, Rise}

abbrev order : IsTotalOrder (slice_cmp nat_cmp)
order = nat_list_cmp_total

below_above : (a b : List ℕ) → IsBelow a b → IsBelow b a → ⊥
below_above a b low high =
    let turned : slice_cmp nat_cmp a b ≡ ordering_reverse (slice_cmp nat_cmp b a) = order.antisymm a b in
    let no : Less ≡ Greater = sym low ∙ turned ∙ ap ordering_reverse high in
    absurd cc

rise_from_all : (last : List ℕ) (ts : List (List ℕ)) (j : ℕ) (b : List ℕ) → RiseFrom last ts → slice_get ts j ≡ Some b
    → IsBelow last b
rise_from_all last [] j b rising e = absurd cc
rise_from_all last (t ∷ ts) zero b rising e = let same : t ≡ b = cc in subst (IsBelow last) same rising.0
rise_from_all last (t ∷ ts) (suc j) b rising e = order.trans last t b rising.0 (rise_from_all t ts j b rising.1 e)

rise_from_at : (last : List ℕ) (ts : List (List ℕ)) (i j : ℕ) (a b : List ℕ) → RiseFrom last ts → i < j
    → slice_get ts i ≡ Some a → slice_get ts j ≡ Some b → IsBelow a b
rise_from_at last [] i j a b rising lt at_i at_j = absurd cc
rise_from_at last (t ∷ ts) i zero a b rising lt at_i at_j = absurd (omega arith)
rise_from_at last (t ∷ ts) zero (suc j) a b rising lt at_i at_j =
    let same : t ≡ a = cc in
    subst (λ (x : List ℕ). IsBelow x b) same (rise_from_all t ts j b rising.1 at_j)
rise_from_at last (t ∷ ts) (suc i) (suc j) a b rising lt at_i at_j =
    rise_from_at t ts i j a b rising.1 (omega arith) at_i at_j

-- a text is below each that stands after it
pub rise_at : (ts : List (List ℕ)) (i j : ℕ) (a b : List ℕ) → Rise ts → i < j
    → slice_get ts i ≡ Some a → slice_get ts j ≡ Some b → IsBelow a b
rise_at [] i j a b rising lt at_i at_j = absurd cc
rise_at (t ∷ ts) i zero a b rising lt at_i at_j = absurd (omega arith)
rise_at (t ∷ ts) zero (suc j) a b rising lt at_i at_j =
    let same : t ≡ a = cc in
    subst (λ (x : List ℕ). IsBelow x b) same (rise_from_all t ts j b rising at_j)
rise_at (t ∷ ts) (suc i) (suc j) a b rising lt at_i at_j = rise_from_at t ts i j a b rising (omega arith) at_i at_j

-- texts that rise are apart
pub rise_once : (ts : List (List ℕ)) (i j : ℕ) (a : List ℕ) → Rise ts → slice_get ts i ≡ Some a → slice_get ts j ≡ Some a → i ≡ j
rise_once ts i j a rising at_i at_j =
    elim (cases_lt i j) [
      | inl lt ↦ absurd (let no = rise_at ts i j a a rising lt at_i at_j in below_above a a no no)
      | inr le ↦ elim (cases_lt j i) [
        | inl lt ↦ absurd (let no = rise_at ts j i a a rising lt at_j at_i in below_above a a no no)
        | inr ge ↦ omega arith
      ]
    ]

-- ---- a search among things whose texts rise

module _ {X : Type 0} (text : X → List ℕ) (xs : List X) (rising : Rise (map text xs)) (wanted : List ℕ) where
  abbrev pub beside : X → Ordering
  beside x = slice_cmp nat_cmp (text x) wanted

  text_at : (i : ℕ) (d : X) → i < length xs → slice_get (map text xs) i ≡ Some (text (get_or xs i d))
  text_at i d lt = slice_get-map text xs i ∙ ap (λ (o : Option X). option_map text o) (slice_get-get_or xs i d lt)

  sorted : IsSortedBy (λ a b. is_lt (slice_cmp nat_cmp (text a) (text b))) xs
  sorted k d from next =
      let here = text (get_or xs k d) in
      let after = text (get_or xs (k + 1) d) in
      let below : IsBelow here after =
      rise_at (map text xs) k (k + 1) here after rising (omega arith) (text_at k d (omega arith)) (text_at (k + 1) d next) in
      ap is_lt (order.antisymm after here ∙ ap ordering_reverse below)

  some_thing : (ys : List X) (i : ℕ) → i < length ys → X
  some_thing [] i lt = absurd (omega arith)
  some_thing (y ∷ ys) i lt = y

  pub found_there : (r : Result ℕ ℕ) → IsSearchInRange r (length xs) → IsBinarySearchResult beside xs r
      → IfSome (result_ok r) (λ i. slice_get (map text xs) i ≡ Some wanted)
  found_there (Ok i) bound equal =
      let d = some_thing xs i bound in
      text_at i d bound ∙ ap (λ (t : List ℕ). Some t) (exact_bytes (text (get_or xs i d)) wanted (equal d))
  found_there (Err i) bound parted = tt

  pub none_there : (r : Result ℕ ℕ) → IsSearchInRange r (length xs) → IsBinarySearchResult beside xs r
      → IfNone (result_ok r) ((i : ℕ) → slice_get (map text xs) i ≡ Some wanted → ⊥)
  none_there (Ok i) bound equal = tt
  none_there (Err place) bound parted = λ i there.
      let within : i < length xs = omega (arith, length-map xs text, slice_get_within (map text xs) i wanted there) in
      let d = some_thing xs i within in
      let same : text (get_or xs i d) ≡ wanted = some_text (sym (text_at i d within) ∙ there) in
      let tied : beside (get_or xs i d) ≡ Equal = ap (λ (t : List ℕ). slice_cmp nat_cmp t wanted) same ∙ tied_itself order wanted in
      let ordered = parted (searchable_from_sorted order text xs wanted sorted) in
      elim (cases_lt i place) [
        | inl before ↦ let no : Less ≡ Equal = sym (ordered.0 i d (omega arith) before) ∙ tied in absurd cc
        | inr after ↦ let no : Greater ≡ Equal = sym (ordered.1 i d after within) ∙ tied in absurd cc
      ]
    where
      some_text : {a b : List ℕ} → Some a ≡ Some b → a ≡ b
      some_text e = cc
