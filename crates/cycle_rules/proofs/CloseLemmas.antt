-- What a step leaves that takes the last node off the stack and marks it.
use Rattle.std.proofs.Common.{◌≡◌, ◌≢◌, ℕ, ◌+◌, ◌<◌, ◌≤◌, List, [], ◌∷◌, ◌++◌, length, take, set, slice_get, Some, refl, sym, ap, ◌∙◌, subst, inl, inr, arith, count_by, cond, length-append}
use Rattle.std.proofs.lemmas.List.Sums.{sum_by-set}
use Rattle.std.proofs.lemmas.Option.{get_or_from_slice_get}
use Rattle.std.proofs.lemmas.Bool.{cases_eq}
use Rattle.cycle_rules.specs.declared.components.Mark.{Mark}
use Rattle.cycle_rules.specs.declared.components.Mark.TheVariants.{New, Open, Done}
use Rattle.cycle_rules.specs.Search.{is_new}
use Rattle.cycle_rules.proofs.PlaceLemmas.{at_within, at-last, at-take, at-set_same, at-set_other}

pub kept_less : (s old : List ℕ) (node : ℕ) → s ++ node ∷ [] ≡ take (length (s ++ node ∷ [])) old → s ≡ take (length s) old
kept_less [] old node h = refl
kept_less (x ∷ xs) [] node h = absurd cc
kept_less (x ∷ xs) (z ∷ zs) node h =
    let tail : xs ++ node ∷ [] ≡ take (length (xs ++ node ∷ [])) zs = cc in
    let rest = kept_less xs zs node tail in
    cc

pub kept_popped : (now s old : List ℕ) (node : ℕ) → now ≡ s ++ node ∷ [] → now ≡ take (length now) old → s ≡ take (length s) old
kept_popped now s old node e k = kept_less s old node (subst (λ (l : List ℕ). l ≡ take (length l) old) e k)

pub at_popped : (now s old : List ℕ) (node : ℕ) → now ≡ s ++ node ∷ [] → now ≡ take (length now) old → slice_get old (length s) ≡ Some node
at_popped now s old node e k =
    let at : slice_get now (length s) ≡ Some node = subst (λ (l : List ℕ). slice_get l (length s) ≡ Some node) (sym e) (at-last s node) in
    (at-take (length now) old (length s) node (subst (λ (l : List ℕ). slice_get l (length s) ≡ Some node) k at)).1

length_popped : (now s : List ℕ) (node : ℕ) → now ≡ s ++ node ∷ [] → length now ≡ length s + 1
length_popped now s node e = omega (arith, ap length e, length-append s (node ∷ []))

pub closed_more : (now s old : List ℕ) (node : ℕ) (marks : List Mark) (done : Mark) → now ≡ s ++ node ∷ [] → now ≡ take (length now) old → node < length marks → ((i v : ℕ) → length now ≤ i → slice_get old i ≡ Some v → slice_get marks v ≡ Some done) → (i v : ℕ) → length s ≤ i → slice_get old i ≡ Some v → slice_get (set marks node done) v ≡ Some done
closed_more now s old node marks done e k fits closed i v from at =
    elim (cases_eq v node) [
      | inl same ↦ subst (λ (n : ℕ). slice_get (set marks node done) n ≡ Some done) (sym same) (at-set_same marks node done fits)
      | inr other ↦
          let here = at_popped now s old node e k in
          let l = length_popped now s node e in
          let ne : i ≢ length s = λ q. other (let w : slice_get old (length s) ≡ Some v = subst (λ (n : ℕ). slice_get old n ≡ Some v) q at in cc) in
          at-set_other marks node v done other ∙ closed i v (omega arith) at
    ]

pub others_more : (now s old : List ℕ) (node : ℕ) (marks first : List Mark) (done : Mark) → now ≡ s ++ node ∷ [] → now ≡ take (length now) old → ((v : ℕ) → ((i : ℕ) → length now ≤ i → slice_get old i ≡ Some v → ⊥) → slice_get marks v ≡ slice_get first v) → (v : ℕ) → ((i : ℕ) → length s ≤ i → slice_get old i ≡ Some v → ⊥) → slice_get (set marks node done) v ≡ slice_get first v
others_more now s old node marks first done e k others v none =
    let here = at_popped now s old node e k in
    let l = length_popped now s node e in
    let ne : v ≢ node = λ q. none (length s) (omega arith) (subst (λ (n : ℕ). slice_get old (length s) ≡ Some n) (sym q) here) in
    at-set_other marks node v done ne ∙ others v (λ i from at. none i (omega arith) at)

-- the popped node's mark
pub open_popped : (now s old : List ℕ) (node : ℕ) (marks first : List Mark) → now ≡ s ++ node ∷ [] → now ≡ take (length now) old → ((i v : ℕ) → slice_get old i ≡ Some v → slice_get first v ≡ Some (Open i)) → ((v : ℕ) → ((i : ℕ) → length now ≤ i → slice_get old i ≡ Some v → ⊥) → slice_get marks v ≡ slice_get first v) → slice_get marks node ≡ Some (Open (length s))
open_popped now s old node marks first e k opened others =
    let here = at_popped now s old node e k in
    let l = length_popped now s node e in
    let mark = opened (length s) node here in
    let none : (i : ℕ) → length now ≤ i → slice_get old i ≡ Some node → ⊥ = λ i from at. let other = opened i node at in let same : i ≡ length s = cc in omega arith in
    others node none ∙ mark

pub count-closed : (marks : List Mark) (node place rank : ℕ) → slice_get marks node ≡ Some (Open place) → count_by is_new (set marks node (Done rank)) ≡ count_by is_new marks
count-closed marks node place rank at =
    let step = sum_by-set (λ m. cond (is_new m) 1 0) marks node (Done rank) New (at_within marks node (Open place) at) in
    let was = ap {B = ℕ} (λ (m : Mark). cond (is_new m) 1 0) (get_or_from_slice_get marks node (Open place) New at) in
    omega (arith, step, was)
