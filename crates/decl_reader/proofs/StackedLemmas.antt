-- Blocks in the order of their starts, none of which runs into the next one.
use Rattle.std.proofs.Common.{◌≡◌, ℕ, ◌<◌, ◌≤◌, Bool, true, false, cond, not, List, [], ◌∷◌, ◌++◌, length, Option, Some, None, refl, sym, ap, subst, ◌∙◌, inl, inr, ◌⊎◌, arith, nat_lt, length-append, take, drop}
use Rattle.std.proofs.lemmas.List.{take-append-drop}
use Rattle.std.specs.Prelude.{nat_le, ◌&&◌}
use Rattle.std.specs.List.{AllByRecursion}
use Rattle.std.specs.Ordering.{nat_cmp, is_lt, is_le}
use Rattle.std.specs.declared.cmp.Ordering.TheVariants.{Less, Equal, Greater}
use Rattle.std.specs.Cmp.{nat_cmp_is}
use Rattle.std.proofs.lemmas.Bool.{cases_lt, lt-ltb, le-ltb, le-leb, lt-leb}
use Rattle.type_terms.specs.Trees.{Tree}
use Rattle.decl_spelling.specs.Tables.{free_to}
use Rattle.decl_reader.specs.Places.{PlaceEntry, placed_of, IsStacked, up_to, from, Covers, StartsFirst, IsDivided}

-- each has a byte, and ends before those behind it start
abbrev AreStacked : List PlaceEntry → Type 0
AreStacked [] = Unit {0}
AreStacked (e ∷ es) = (e.0 < e.1.end) × AllByRecursion (λ later. e.1.end ≤ later.0) es × AreStacked es

starts : (types : ℕ → Tree) (m : ℕ) (es : List PlaceEntry) → AllByRecursion (λ e. m ≤ e.0) (placed_of types es) → AllByRecursion (λ e. m ≤ e.0) es
starts types m [] all = tt
starts types m (e ∷ es) all = (all.0, starts types m es all.1)

stacked_places : (types : ℕ → Tree) (es : List PlaceEntry) → IsStacked (placed_of types es) → AreStacked es
stacked_places types [] stacked = tt
stacked_places types (e ∷ es) stacked = (stacked.0, starts types e.1.end es stacked.1, stacked_places types es stacked.2)

upward : (o q : ℕ) → q ≤ o → not (is_lt (nat_cmp o q)) ≡ true
upward o q h = by (cases_lt q o)
  where
    by : (q < o) ⊎ (o ≤ q) → not (is_lt (nat_cmp o q)) ≡ true
    by (inl less) = ap (λ r. not (is_lt r)) (sym (nat_cmp_is o q Greater less))
    by (inr more) = ap (λ r. not (is_lt r)) (sym (nat_cmp_is o q Equal (omega arith)))

beyond : (o q : ℕ) → o < q → not (is_lt (nat_cmp o q)) ≡ false
beyond o q h = ap (λ r. not (is_lt r)) (sym (nat_cmp_is o q Less h))

onward : (o q : ℕ) → o ≤ q → (is_le (nat_cmp o q) && true) ≡ true
onward o q h = by (cases_lt o q)
  where
    by : (o < q) ⊎ (q ≤ o) → (is_le (nat_cmp o q) && true) ≡ true
    by (inl less) = ap (λ r. is_le r && true) (sym (nat_cmp_is o q Less less))
    by (inr more) = ap (λ r. is_le r && true) (sym (nat_cmp_is o q Equal (omega arith)))

before : (o q : ℕ) → q < o → (is_le (nat_cmp o q) && true) ≡ false
before o q h = ap (λ r. is_le r && true) (sym (nat_cmp_is o q Greater h))

up_to_takes : (o : ℕ) (e : PlaceEntry) (es : List PlaceEntry) → e.0 ≤ o → up_to o (e ∷ es) ≡ e ∷ up_to o es
up_to_takes o e es h = ap (λ b. cond b (e ∷ up_to o es) (up_to o es)) (upward o e.0 h)

up_to_skips : (o : ℕ) (e : PlaceEntry) (es : List PlaceEntry) → o < e.0 → up_to o (e ∷ es) ≡ up_to o es
up_to_skips o e es h = ap (λ b. cond b (e ∷ up_to o es) (up_to o es)) (beyond o e.0 h)

from_takes : (o : ℕ) (e : PlaceEntry) (es : List PlaceEntry) → o ≤ e.0 → from o (e ∷ es) ≡ e ∷ from o es
from_takes o e es h = ap (λ b. cond b (e ∷ from o es) (from o es)) (onward o e.0 h)

from_skips : (o : ℕ) (e : PlaceEntry) (es : List PlaceEntry) → e.0 < o → from o (e ∷ es) ≡ from o es
from_skips o e es h = ap (λ b. cond b (e ∷ from o es) (from o es)) (before o e.0 h)

none_up_to : (o : ℕ) (es : List PlaceEntry) → AllByRecursion (λ e. o < e.0) es → up_to o es ≡ []
none_up_to o [] all = refl
none_up_to o (e ∷ es) all = up_to_skips o e es all.0 ∙ none_up_to o es all.1

weaker : (m o : ℕ) (es : List PlaceEntry) → o < m → AllByRecursion (λ e. m ≤ e.0) es → AllByRecursion (λ e. o < e.0) es
weaker m o [] h all = tt
weaker m o (e ∷ es) h all = (omega (arith, all.0), weaker m o es h all.1)

not_empty : (front : List PlaceEntry) (last : PlaceEntry) → [] ≡ front ++ last ∷ [] → ⊥
not_empty front last e = omega (arith, ap length e, length-append front (last ∷ []))

-- one of the later ones starts at o or before it, so those before them end there
ends_before : (o m : ℕ) (es : List PlaceEntry) (f : PlaceEntry) (fs : List PlaceEntry) → AllByRecursion (λ e. m ≤ e.0) es → up_to o es ≡ f ∷ fs → m ≤ o
ends_before o m [] f fs all e = absurd cc
ends_before o m (x ∷ es) f fs all e = by (cases_lt o x.0) (λ same. ends_before o m es f fs all.1 same)
  where
    by : (o < x.0) ⊎ (x.0 ≤ o) → (up_to o es ≡ f ∷ fs → m ≤ o) → m ≤ o
    by (inl less) rest = rest (sym (up_to_skips o x es less) ∙ e)
    by (inr more) rest = omega (arith, all.0)

abbrev pub chosen : Bool → Option ℕ → ℕ → ℕ → ℕ
chosen true next o limit = o
chosen false None o limit = limit
chosen false (Some start) o limit = cond (nat_lt start limit) start limit

no_cover : (b : Bool) (o : ℕ) (es : List PlaceEntry) → es ≡ [] → Covers b o es → b ≡ false
no_cover b o es none (inl w) = w.1
no_cover b o es none (inr (front, last, is, found)) = absurd (not_empty front last (sym none ∙ is))

one_cover : (b : Bool) (o : ℕ) (e : PlaceEntry) → Covers b o (e ∷ []) → b ≡ nat_lt o e.1.end
one_cover b o e (inl w) = absurd (omega (arith, ap length w.0))
one_cover b o e (inr ([], last, is, found)) = found ∙ ap (λ (x : List PlaceEntry). last_end x) (sym is)
  where
    last_end : List PlaceEntry → Bool
    last_end [] = false
    last_end (x ∷ xs) = nat_lt o x.1.end
one_cover b o e (inr (f ∷ fs, last, is, found)) = absurd (omega (arith, ap length is, length-append fs (last ∷ [])))

more_cover : (b : Bool) (o : ℕ) (e f : PlaceEntry) (fs : List PlaceEntry) → Covers b o (e ∷ f ∷ fs) → Covers b o (f ∷ fs)
more_cover b o e f fs (inl w) = absurd (omega (arith, ap length w.0))
more_cover b o e f fs (inr ([], last, is, found)) = absurd (omega (arith, ap length is))
more_cover b o e f fs (inr (x ∷ xs, last, is, found)) = inr (xs, last, ap (λ (ys : List PlaceEntry). tail_of ys) is, found)
  where
    tail_of : List PlaceEntry → List PlaceEntry
    tail_of [] = []
    tail_of (y ∷ ys) = ys

no_start : (next : Option ℕ) (es : List PlaceEntry) → es ≡ [] → StartsFirst next es → next ≡ None
no_start (Some start) es none (first, rest, is, at) = absurd (omega (arith, ap length (sym none ∙ is)))
no_start None es none w = refl

its_start : (next : Option ℕ) (e : PlaceEntry) (es : List PlaceEntry) → StartsFirst next (e ∷ es) → next ≡ Some e.0
its_start (Some start) e es (first, rest, is, at) = ap Some (at ∙ sym (ap (λ (x : List PlaceEntry). head_start start x) is))
  where
    head_start : ℕ → List PlaceEntry → ℕ
    head_start d [] = d
    head_start d (x ∷ xs) = x.0
its_start None e es w = absurd (omega (arith, ap length w))

module _ (types : ℕ → Tree) (o limit : ℕ) where
  abbrev Free : Bool → Option ℕ → List PlaceEntry → Type 0
  Free b next es = free_to o limit (placed_of types es) ≡ chosen b next o limit

  skipped : (e : PlaceEntry) (es : List PlaceEntry) → e.1.end ≤ o → free_to o limit (placed_of types (e ∷ es)) ≡ free_to o limit (placed_of types es)
  skipped e es h = ap (λ b. cond b (free_to o limit (placed_of types es)) (cond (nat_le e.0 o) o (cond (nat_lt e.0 limit) e.0 limit))) (le-leb e.1.end o h)

  inside : (e : PlaceEntry) (es : List PlaceEntry) → e.0 ≤ o → o < e.1.end → free_to o limit (placed_of types (e ∷ es)) ≡ o
  inside e es begun open_still =
      ap (λ b. cond b (free_to o limit (placed_of types es)) (cond (nat_le e.0 o) o (cond (nat_lt e.0 limit) e.0 limit))) (lt-leb e.1.end o open_still)
      ∙ ap (λ b. cond b o (cond (nat_lt e.0 limit) e.0 limit)) (le-leb e.0 o begun)

  behind : (e : PlaceEntry) (es : List PlaceEntry) → o < e.0 → o < e.1.end → free_to o limit (placed_of types (e ∷ es)) ≡ cond (nat_lt e.0 limit) e.0 limit
  behind e es later ends =
      ap (λ b. cond b (free_to o limit (placed_of types es)) (cond (nat_le e.0 o) o (cond (nat_lt e.0 limit) e.0 limit))) (lt-leb e.1.end o ends)
      ∙ ap (λ b. cond b o (cond (nat_lt e.0 limit) e.0 limit)) (lt-leb e.0 o later)

  -- where a first entry is covered by what is behind it, or by nothing
  at_entry : (b : Bool) (next : Option ℕ) (e : PlaceEntry) (es : List PlaceEntry) (low : List PlaceEntry) → up_to o es ≡ low → e.0 ≤ o → e.0 < e.1.end → AllByRecursion (λ later. e.1.end ≤ later.0) es
      → Covers b o (up_to o (e ∷ es)) → StartsFirst next (from o (e ∷ es)) → ((b' : Bool) → Covers b' o (up_to o es) → StartsFirst next (from o es) → Free b' next es) → Free b next (e ∷ es)
  at_entry b next e es [] is begun some later covers starts rest = by (cases_lt o e.1.end)
    where
      alone : b ≡ nat_lt o e.1.end
      alone = one_cover b o e (subst (Covers b o) (up_to_takes o e es begun ∙ ap (λ xs. e ∷ xs) is) covers)

      by : (o < e.1.end) ⊎ (e.1.end ≤ o) → Free b next (e ∷ es)
      by (inl ends) = inside e es begun ends ∙ ap (λ c. chosen c next o limit) (sym (alone ∙ lt-ltb o e.1.end ends))
      by (inr ended) =
          let none : b ≡ false = alone ∙ le-ltb o e.1.end ended in
          let first : StartsFirst next (from o es) = subst (StartsFirst next) (from_skips o e es (omega arith)) starts in
          skipped e es ended ∙ rest b (inl (is, none)) first
  at_entry b next e es (f ∷ fs) is begun some later covers starts rest =
      let ended : e.1.end ≤ o = ends_before o e.1.end es f fs later is in
      let both : Covers b o (e ∷ f ∷ fs) = subst (Covers b o) (up_to_takes o e es begun ∙ ap (λ xs. e ∷ xs) is) covers in
      let one : Covers b o (up_to o es) = subst (Covers b o) (sym is) (more_cover b o e f fs both) in
      let first : StartsFirst next (from o es) = subst (StartsFirst next) (from_skips o e es (omega arith)) starts in
      skipped e es ended ∙ rest b one first

  past_entry : (b : Bool) (next : Option ℕ) (e : PlaceEntry) (es : List PlaceEntry) → o < e.0 → e.0 < e.1.end → AllByRecursion (λ later. e.1.end ≤ later.0) es
      → Covers b o (up_to o (e ∷ es)) → StartsFirst next (from o (e ∷ es)) → Free b next (e ∷ es)
  past_entry b next e es beyond_it some later covers starts =
      let none : up_to o (e ∷ es) ≡ [] = up_to_skips o e es beyond_it ∙ none_up_to o es (weaker e.1.end o es (omega arith) later) in
      let uncovered : b ≡ false = no_cover b o (up_to o (e ∷ es)) none covers in
      let first : next ≡ Some e.0 = its_start next e (from o es) (subst (StartsFirst next) (from_takes o e es (omega arith)) starts) in
      behind e es beyond_it (omega arith) ∙ ap (λ n. chosen false n o limit) (sym first) ∙ ap (λ c. chosen c next o limit) (sym uncovered)

  free_is : (b : Bool) (next : Option ℕ) (es : List PlaceEntry) → AreStacked es → Covers b o (up_to o es) → StartsFirst next (from o es) → Free b next es
  free_is b next [] stacked covers starts =
      ap (λ n. chosen false n o limit) (sym (no_start next [] refl starts)) ∙ ap (λ c. chosen c next o limit) (sym (no_cover b o [] refl covers))
  free_is b next (e ∷ es) stacked covers starts = by (cases_lt o e.0) (λ b' c s. free_is b' next es stacked.2 c s)
    where
      by : (o < e.0) ⊎ (e.0 ≤ o) → ((b' : Bool) → Covers b' o (up_to o es) → StartsFirst next (from o es) → Free b' next es) → Free b next (e ∷ es)
      by (inl beyond_it) rest = past_entry b next e es beyond_it stacked.0 stacked.1 covers starts
      by (inr begun) rest = at_entry b next e es (up_to o es) refl begun stacked.0 stacked.1 covers starts rest

  -- the same of a list of those that start at o or before it, and one of those behind it
  free_divided : (b : Bool) (next : Option ℕ) (front rest : List PlaceEntry) → AreStacked (front ++ rest) → AllByRecursion (λ e. e.0 ≤ o) front → AllByRecursion (λ e. o < e.0) rest
      → Covers b o front → StartsFirst next rest → Free b next (front ++ rest)
  free_divided b next [] [] stacked low high covers starts =
      ap (λ n. chosen false n o limit) (sym (no_start next [] refl starts)) ∙ ap (λ c. chosen c next o limit) (sym (no_cover b o [] refl covers))
  free_divided b next [] (f ∷ fs) stacked low high covers starts =
      behind f fs high.0 (omega (arith, high.0, stacked.0))
      ∙ ap (λ n. chosen false n o limit) (sym (its_start next f fs starts))
      ∙ ap (λ c. chosen c next o limit) (sym (no_cover b o [] refl covers))
  free_divided b next (e ∷ []) rest stacked low high covers starts = by (cases_lt o e.1.end) (λ none. free_divided b next [] rest stacked.2 tt high (inl (refl, none)) starts)
    where
      alone : b ≡ nat_lt o e.1.end
      alone = one_cover b o e covers

      by : (o < e.1.end) ⊎ (e.1.end ≤ o) → (b ≡ false → Free b next rest) → Free b next (e ∷ rest)
      by (inl ends) behind_it = inside e rest low.0 ends ∙ ap (λ c. chosen c next o limit) (sym (alone ∙ lt-ltb o e.1.end ends))
      by (inr ended) behind_it = skipped e rest ended ∙ behind_it (alone ∙ le-ltb o e.1.end ended)
  free_divided b next (e ∷ f ∷ fs) rest stacked low high covers starts =
      skipped e (f ∷ fs ++ rest) (omega (arith, stacked.1.0, low.1.0)) ∙ free_divided b next (f ∷ fs) rest stacked.2 low.1 high (more_cover b o e f fs covers) starts

  pub free_listed : (b : Bool) (next : Option ℕ) (n : ℕ) (es : List PlaceEntry) → IsDivided o n es → IsStacked (placed_of types es) → Covers b o (take n es) → StartsFirst next (drop n es)
      → free_to o limit (placed_of types es) ≡ chosen b next o limit
  free_listed b next n es divided stacked covers starts =
      let whole = take-append-drop n es in
      subst (Free b next) whole (free_divided b next (take n es) (drop n es) (subst AreStacked (sym whole) (stacked_places types es stacked)) divided.begun divided.later covers starts)

  some_start : (es : List PlaceEntry) → (next : Option ℕ) × StartsFirst next es
  some_start [] = (None, refl)
  some_start (e ∷ es) = (Some e.0, (e, es, refl, refl))

  pub covered_listed : (n : ℕ) (es : List PlaceEntry) → IsDivided o n es → IsStacked (placed_of types es) → Covers true o (take n es) → o ≡ free_to o limit (placed_of types es)
  covered_listed n es divided stacked covers = let next = some_start (drop n es) in sym (free_listed true next.0 n es divided stacked covers next.1)

  pub covered_is : (es : List PlaceEntry) → IsStacked (placed_of types es) → Covers true o (up_to o es) → o ≡ free_to o limit (placed_of types es)
  covered_is es stacked covers = let next = some_start (from o es) in sym (free_is true next.0 es (stacked_places types es stacked) covers next.1)

  pub before_next : (start : ℕ) (es : List PlaceEntry) → IsStacked (placed_of types es) → Covers false o (up_to o es) → StartsFirst (Some start) (from o es) → start < limit → start ≡ free_to o limit (placed_of types es)
  before_next start es stacked covers starts less = sym (free_is false (Some start) es (stacked_places types es stacked) covers starts ∙ ap (λ b. cond b start limit) (lt-ltb start limit less))

  pub behind_limit : (start : ℕ) (es : List PlaceEntry) → IsStacked (placed_of types es) → Covers false o (up_to o es) → StartsFirst (Some start) (from o es) → limit ≤ start → limit ≡ free_to o limit (placed_of types es)
  behind_limit start es stacked covers starts more = sym (free_is false (Some start) es (stacked_places types es stacked) covers starts ∙ ap (λ b. cond b start limit) (le-ltb start limit more))

  pub no_next : (es : List PlaceEntry) → IsStacked (placed_of types es) → Covers false o (up_to o es) → StartsFirst None (from o es) → limit ≡ free_to o limit (placed_of types es)
  no_next es stacked covers starts = sym (free_is false None es (stacked_places types es stacked) covers starts)
