use Rattle.std.proofs.Common.{◌≡◌, ℕ, ◌+◌, ◌<◌, List, Bool, true, false, slice_get, Some, arith, sym, subst, inl, inr}
use Rattle.std.proofs.lemmas.Bool.{cases_eq}
use Rattle.cycle_rules.specs.declared.shapes.Form.{Form}
use Rattle.cycle_rules.specs.declared.shapes.DeclShape.{DeclShape}
use Rattle.cycle_rules.specs.declared.containment.Place.{Place}
use Rattle.cycle_rules.specs.Forms.{parameter, Owns}
use Rattle.cycle_rules.specs.Containment.{Findings, StandsAt, IsArgument, IsMarked, IsPlaced, OnlyPlaces}
use Rattle.cycle_rules.proofs.PlaceLemmas.{at_within, at_some}
use Rattle.cycle_rules.proofs.ContainmentLemmas.{only_twice, placed_grown, argument_counts, same_argument, count_marked}
use Rattle.cycle_rules.proofs.containment.Containment.mark.Goals as goal

-- one entry stands at a place of a table
stands_once : {rows : List (List Place)} {t k : ℕ} {first second : Place} → StandsAt rows t k first → StandsAt rows t k second → first ≡ second
stands_once {rows} {t} {k} {first} {second} one two = by one.from two.from one.to two.to
  where
    by : {row others : List Place} → slice_get rows t ≡ Some row → slice_get rows t ≡ Some others → slice_get row k ≡ Some first → slice_get others k ≡ Some second → first ≡ second
    by {row} {others} a b c d =
        let same : row ≡ others = cc in
        let own : slice_get others k ≡ Some first = subst (λ (l : List Place). slice_get l k ≡ Some first) same c in
        cc

-- each application up to a place has its argument among the places
abbrev Placed : List (List Place) → List Place → ℕ → ℕ → ℕ → Type 0
Placed rows places t j k = (p : Place) (form : Form) → StandsAt rows t k p → IsArgument p.form.now j form → IsPlaced places p.owner form

one_more : (rows : List (List Place)) (places more : List Place) (t j k : ℕ) → ((s : ℕ) (form : Form) → IsPlaced places s form → IsPlaced more s form)
    → ((i : ℕ) (p : Place) (form : Form) → i < k → StandsAt rows t i p → IsArgument p.form.now j form → IsPlaced places p.owner form)
    → Placed rows more t j k
    → (i : ℕ) (p : Place) (form : Form) → i < k + 1 → StandsAt rows t i p → IsArgument p.form.now j form → IsPlaced more p.owner form
one_more rows places more t j k grown before here i p form below stands is = elim (cases_eq i k) [
  | inl same ↦ here p form (subst (λ (n : ℕ). StandsAt rows t n p) same stands) is
  | inr other ↦ grown p.owner form (before i p form (omega arith) stands is)
]

module _ (old s : Findings) (t j : ℕ) (only : OnlyPlaces old s) where
  owned_now : Owns old.shapes t (parameter j) → Owns s.shapes t (parameter j)
  owned_now = subst (λ (l : List DeclShape). Owns l t (parameter j)) (sym only.shapes)

  stands_now : (k : ℕ) (place : Place) → StandsAt old.applications t k place → StandsAt s.applications t k place
  stands_now k place = subst (λ (l : List (List Place)). StandsAt l t k place) (sym only.applications)

  -- the place that stands there has no such argument
  placed_none : (places : List Place) (k : ℕ) (place : Place) → StandsAt s.applications t k place → ((form : Form) → IsArgument place.form.now j form → ⊥) → Placed old.applications places t j k
  placed_none places k place stands none p form there is =
      let same = stands_once stands (stands_now k p there) in
      absurd (none form (subst (λ (z : Place). IsArgument z.form.now j form) (sym same) is))

  -- or has one, which is among the places
  placed_here : (places : List Place) (k : ℕ) (place : Place) → StandsAt s.applications t k place → (item : Form) → IsArgument place.form.now j item → IsPlaced places place.owner item → Placed old.applications places t j k
  placed_here places k place stands item is placed p form there own =
      let same = stands_once stands (stands_now k p there) in
      let forms = same_argument is (subst (λ (z : Place). IsArgument z.form.now j form) (sym same) own) in
      subst (λ (z : Place). IsPlaced places z.owner form) same (subst (λ (f : Form). IsPlaced places place.owner f) forms placed)

pub add-requires : goal.add-requires
add-requires c =
    let s = c.loop-at.self in
    let stands = c.in-Some.ensures.found in
    record {
      counts = argument_counts s c.application.ensures.sound c.args.owner c.args.index (owned_now c.args.self.now s c.args.owner c.args.index c.loop-at.invariant.only c.requires.owns)
          c.in-Some.place (record { places = stands.entries; index = c.loop-at.at; from = stands.from; to = stands.to }) c.in-Some-argument_at.form.now c.in-Some-argument_at.ensures.found;
    }

pub loop-at-preserved-in_default : goal.loop-at-preserved-in_default
loop-at-preserved-in_default c =
    let old = c.args.self.now in
    let s = c.loop-at.self in
    let only = c.loop-at.invariant.only in
    record {
      only = only;
      placed = one_more old.applications s.places s.places c.args.owner c.args.index c.loop-at.at (λ u form was. was) c.loop-at.invariant.placed
          (λ p form there is. absurd (c.in_default.ensures.none p (stands_now old s c.args.owner c.args.index only c.loop-at.at p there)));
    }

pub loop-at-preserved-in_default-argument_at : goal.loop-at-preserved-in_default-argument_at
loop-at-preserved-in_default-argument_at c =
    let old = c.args.self.now in
    let s = c.loop-at.self in
    let only = c.loop-at.invariant.only in
    record {
      only = only;
      placed = one_more old.applications s.places s.places c.args.owner c.args.index c.loop-at.at (λ u form was. was) c.loop-at.invariant.placed
          (placed_none old s c.args.owner c.args.index only s.places c.loop-at.at c.in-Some.place c.in-Some.ensures.found c.in_default-argument_at.ensures.none);
    }

pub loop-at-preserved : goal.loop-at-preserved
loop-at-preserved c =
    let old = c.args.self.now in
    let s = c.loop-at.self in
    let new = c.add.new.self in
    let was = c.loop-at.invariant.only in
    let now = c.in_ok-add.ensures.only in
    record {
      only = only_twice was now;
      placed = one_more old.applications s.places new.places c.args.owner c.args.index c.loop-at.at (λ u form. placed_grown s.places new.places u form now.places) c.loop-at.invariant.placed
          (placed_here old s c.args.owner c.args.index was new.places c.loop-at.at c.in-Some.place c.in-Some.ensures.found c.in-Some-argument_at.form.now c.in-Some-argument_at.ensures.found c.in_ok-add.ensures.placed);
    }

pub set_contained-requires-clause-passed : goal.set_contained-requires-clause-passed
set_contained-requires-clause-passed c place arguments form listed formed there =
    let only = c.loop-at.invariant.only in
    let from : slice_get c.args.self.now.applications c.args.owner ≡ Some listed.places = subst (λ (l : List (List Place)). slice_get l c.args.owner ≡ Some listed.places) only.applications listed.from in
    let count = c.application_count-at-end.ensures listed.places from in
    let below = at_within listed.places listed.index place listed.to in
    let test = c.loop-at-test.false in
    c.loop-at.invariant.placed listed.index place form (omega arith) (record { entries = listed.places; from = from; to = listed.to })
    (record { applied = c.args.owner; arguments = arguments; formed = formed; there = there })

pub returns-clause-fewer : goal.returns-clause-fewer
returns-clause-fewer c =
    let s = c.loop-at.self in
    let only = c.loop-at.invariant.only in
    let row = c.requires.within in
    let from : slice_get s.marks c.args.owner ≡ Some row.entries = subst (λ (l : List (List Bool)). slice_get l c.args.owner ≡ Some row.entries) (sym only.marks) row.from in
    let marks = c.set_contained.ensures.marks row.entries from in
    let entry = at_some row.entries c.args.index row.within in
    let counted = count_marked s.marks c.args.owner c.args.index row.entries from (entry_unset row.entries row.from entry.0 entry.1 c.requires.new) in
    rw (marks, ← only.marks) counted
  where
    entry_unset : (entries : List Bool) → slice_get c.args.self.now.marks c.args.owner ≡ Some entries → (entry : Bool) → slice_get entries c.args.index ≡ Some entry → (IsMarked c.args.self.now.marks c.args.owner c.args.index → ⊥) → slice_get entries c.args.index ≡ Some false
    entry_unset entries at true to none = absurd (none (record { entries = entries; from = at; to = to }))
    entry_unset entries at false to none = to
