-- All types that the text of a declaration refers to have numbers, and each line is that of one of them.
use Rattle.std.proofs.Common.{◌≡◌, ℕ, ◌+◌, ◌<◌, zero, suc, Bool, true, false, cond, not, ◌||◌, List, [], ◌∷◌, ◌++◌, length, get_or, Option, Some, None, refl, ap, sym, subst, ◌∙◌, arith, true≢false, inl, inr, ◌⊎◌}
use Rattle.std.specs.Prelude.{slice_get}
use Rattle.std.specs.List.{Contains, AllByRecursion, flat_map, list_any, position_or_len}
use Rattle.std.specs.Option.{is_some}
use Rattle.std.proofs.lemmas.List.Elements.{Contains-append_right, Contains-get_or}
use Rattle.type_terms.specs.Replaced.{all_append}
use Rattle.type_terms.specs.Trees.{Text, Tree}
use Rattle.type_terms.specs.TreeEquality.{same_text, same_tree, same_itself}
use Rattle.type_terms.specs.Parts.{parts, tree_size, Within, itself, inside}
use Rattle.type_terms.specs.TreeSizes.{part_falls, within_within}
use Rattle.type_terms.specs.Declarations.{form_types, Decl}
use Rattle.decl_text.specs.Walks.{walk}
use Rattle.decl_text.specs.Numbers.{Numbered, Numbers, no_numbers, number_of, line_of, goes_by_name, is_settled, give, finish, finish_all, number_all}
use Rattle.decl_text.specs.DeclText.{numbers_of}
use Rattle.decl_text.specs.Mentions.{RefersTo}
use Rattle.decl_text.proofs.WalkLevelLemmas.{walk_of_level}
use Rattle.decl_text.proofs.FinishLemmas.{Settled, IsClosed, number_stays, no_numbers_closed, finish_cases}
use Rattle.decl_text.proofs.WalkOrderLemmas.{walks_are_ordered, finish_all_closes, walks_settle}
use Rattle.decl_text.proofs.LineLemmas.{numbers_have_lines}

all_at : (P : Tree → Type 0) (types : List Tree) (k : ℕ) (other : Tree) → AllByRecursion P types → k < length types → P (get_or types k other)
all_at P [] k other all h = absurd (omega arith)
all_at P (type ∷ types) zero other all h = all.0
all_at P (type ∷ types) (suc k) other all h = all_at P types k other all.1 (omega arith)

-- what holds of all holds of each, and back
all_of : (P : Tree → Type 0) (types : List Tree) (type : Tree) → AllByRecursion P types → Contains types type → P type
all_of P types type all (k, there, is) = subst P is (all_at P types k type all there)

all_if : (P : Tree → Type 0) (types : List Tree) → ((type : Tree) → Contains types type → P type) → AllByRecursion P types
all_if P [] each = tt
all_if P (type ∷ types) each =
    (each type (Contains-get_or (type ∷ types) 0 type (omega arith)), all_if P types (λ other held. each other (Contains-append_right (type ∷ []) types other held)))

-- with a type all that stands in it is settled
settled_within : (numbered : Numbered) → IsClosed numbered → (whole type : Tree) → Within whole type → Settled numbered whole → Settled numbered type
settled_within numbered closed _ _ (itself tree) h = h
settled_within numbered closed _ _ (inside tree part below held rest) h = settled_within numbered closed part below rest (all_of (Settled numbered) (parts tree) part (closed tree h) held)

referred_settled : (decl : Decl) (type : Tree) → RefersTo decl type → Settled (numbers_of decl).types type
referred_settled decl type refers =
    let types = form_types decl in
    let closed = finish_all_closes no_numbers (flat_map walk types) no_numbers_closed (walks_are_ordered no_numbers types) in
    settled_within (number_all types).types closed refers.holder type refers.within (all_of (Settled (number_all types).types) types refers.holder (walks_settle no_numbers types) refers.held)

settled_has : (numbered : Numbered) (type : Tree) → is_settled numbered type ≡ true → goes_by_name type ≡ false → (number : ℕ) × (number_of numbered type ≡ Some number)
settled_has numbered type = by (goes_by_name type) (number_of numbered type)
  where
    by : (b : Bool) (o : Option ℕ) → (b || is_some o) ≡ true → b ≡ false → (number : ℕ) × (o ≡ Some number)
    by true o h e = absurd (true≢false e)
    by false (Some number) h e = (number, refl)
    by false None h e = absurd (true≢false (sym h))

pub referred_has : (decl : Decl) (type : Tree) → RefersTo decl type → goes_by_name type ≡ false → (number : ℕ) × (number_of (numbers_of decl).types type ≡ Some number)
referred_has decl type refers = settled_has (numbers_of decl).types type (referred_settled decl type refers)

-- the number that a type without one is given
last_is : (numbered : Numbered) (new : Tree) (number : ℕ) → is_some (number_of numbered new) ≡ false → number_of (numbered ++ (new, number) ∷ []) new ≡ Some number
last_is [] new number none = ap (λ b. cond b (Some number) None) (same_itself new)
last_is (x ∷ xs) new number none = by (same_tree new x.0) none (last_is xs new number)
  where
    by : (b : Bool) → is_some (cond b (Some x.1) (number_of xs new)) ≡ false → (is_some (number_of xs new) ≡ false → number_of (xs ++ (new, number) ∷ []) new ≡ Some number) → cond b (Some x.1) (number_of (xs ++ (new, number) ∷ []) new) ≡ Some number
    by true none rest = absurd (true≢false none)
    by false none rest = rest none

position_none : {X : Type 0} (p : X → Bool) (xs : List X) → list_any p xs ≡ false → position_or_len p xs ≡ length xs
position_none p [] none = refl
position_none p (x ∷ xs) none = by (p x) none (position_none p xs)
  where
    by : (b : Bool) → (b || list_any p xs) ≡ false → (list_any p xs ≡ false → position_or_len p xs ≡ length xs) → cond (not b) (1 + position_or_len p xs) 0 ≡ suc (length xs)
    by true none rest = absurd (true≢false none)
    by false none rest = let own = rest none in omega arith

line_cases : (lines : List Text) (last : Text) (k : ℕ) (line : Text) → slice_get (lines ++ last ∷ []) k ≡ Some line → (slice_get lines k ≡ Some line) ⊎ (k ≡ length lines)
line_cases [] last zero line h = inr refl
line_cases [] last (suc k) line h = absurd cc
line_cases (first ∷ lines) last zero line h = inl h
line_cases (first ∷ lines) last (suc k) line h = elim (line_cases lines last k line h) [ inl old ↦ inl old | inr new ↦ inr (ap suc new) ]

or_none : (a b : Bool) → (a || b) ≡ false → b ≡ false
or_none true b h = absurd (true≢false h)
or_none false b h = h

-- Each number that has a line is that of a type, of which something holds.
Owned : (Tree → Type 0) → Numbers → Type 0
Owned P numbers = (k : ℕ) (line : Text) → slice_get numbers.lines k ≡ Some line → (type : Tree) × P type × (number_of numbers.types type ≡ Some k)

module _ (P : Tree → Type 0) where
  give_owned : (numbers : Numbers) (new : Tree) (text : Text) → is_settled numbers.types new ≡ false → P new → Owned P numbers → Owned P (give numbers new text)
  unfolding Owned
  give_owned numbers new text unsettled holds owned k line = by (list_any (same_text text) numbers.lines) refl
    where
      given : ℕ
      given = position_or_len (same_text text) numbers.lines

      old : slice_get numbers.lines k ≡ Some line → (type : Tree) × P type × (number_of (numbers.types ++ (new, given) ∷ []) type ≡ Some k)
      old h = let owner = owned k line h in (owner.0, owner.1, number_stays numbers.types ((new, given) ∷ []) owner.0 (ap is_some owner.2) ∙ owner.2)

      by : (b : Bool) → list_any (same_text text) numbers.lines ≡ b → slice_get (cond b numbers.lines (numbers.lines ++ text ∷ [])) k ≡ Some line → (type : Tree) × P type × (number_of (numbers.types ++ (new, given) ∷ []) type ≡ Some k)
      by true e h = old h
      by false e h = elim (line_cases numbers.lines text k line h) [
        | inl before ↦ old before
        | inr last ↦ (new, holds, last_is numbers.types new given (or_none (goes_by_name new) _ unsettled) ∙ ap Some (position_none (same_text text) numbers.lines e ∙ sym last))
      ]

  finish_all_owned : (numbers : Numbers) (types : List Tree) → AllByRecursion P types → Owned P numbers → Owned P (finish_all numbers types)
  finish_all_owned numbers [] all owned = owned
  finish_all_owned numbers (type ∷ types) all owned =
      finish_all_owned (finish numbers type) types all.1
      (finish_cases numbers type (Owned P) (λ _. owned) (λ unsettled. give_owned numbers type (line_of numbers.types type) unsettled all.0 owned))

  -- what holds of a type and of what stands in it holds of all that a walk goes through
  module _ (step : (type part : Tree) → P type → Contains (parts type) part → P part) where
    walks_hold : (bound : ℕ) → ((type : Tree) → tree_size type < bound → P type → AllByRecursion P (walk type)) → (types : List Tree) → AllByRecursion (λ type. tree_size type < bound) types → AllByRecursion P types → AllByRecursion P (flat_map walk types)
    walks_hold bound one [] small all = tt
    walks_hold bound one (type ∷ types) small all = all_append P (walk type) (flat_map walk types) (one type small.0 all.0) (walks_hold bound one types small.1 all.1)

    walk_holds : (bound : ℕ) (type : Tree) → tree_size type < bound → P type → AllByRecursion P (walk type)
    walk_holds zero type below holds = absurd (omega arith)
    walk_holds (suc bound) type below holds =
        let inner = flat_map walk (parts type) in
        let small = all_if (λ part. tree_size part < bound) (parts type) (λ part held. let less = part_falls type part held in omega (arith, less)) in
        let each = all_if P (parts type) (λ part held. step type part holds held) in
        subst (AllByRecursion P) (sym (walk_of_level type)) (all_append P inner (type ∷ []) (walks_hold bound (walk_holds bound) (parts type) small each) (holds, tt))

    all_walks_hold : (types : List Tree) → AllByRecursion P types → AllByRecursion P (flat_map walk types)
    all_walks_hold [] all = tt
    all_walks_hold (type ∷ types) all = all_append P (walk type) (flat_map walk types) (walk_holds (suc (tree_size type)) type (omega arith) all.0) (all_walks_hold types all.1)

none_owned : (P : Tree → Type 0) → Owned P no_numbers
unfolding Owned
none_owned P k line h = absurd cc

refers_inside : (decl : Decl) (type part : Tree) → RefersTo decl type → Contains (parts type) part → RefersTo decl part
refers_inside decl type part refers held = record {
  holder = refers.holder;
  held = refers.held;
  within = within_within refers.holder type part refers.within (inside type part part held (itself part));
}

pub lines_owned : (decl : Decl) (number : ℕ) (line : Text) → slice_get (numbers_of decl).lines number ≡ Some line
    → (type : Tree) × RefersTo decl type × (number_of (numbers_of decl).types type ≡ Some number) × (line ≡ line_of (numbers_of decl).types type)
unfolding Owned
lines_owned decl number line there =
    let types = form_types decl in
    let all = all_walks_hold (RefersTo decl) (refers_inside decl) types (all_if (RefersTo decl) types (λ type held. record { holder = type; held = held; within = itself type })) in
    let owner = finish_all_owned (RefersTo decl) no_numbers (flat_map walk types) all (none_owned (RefersTo decl)) number line there in
    let own : Some line ≡ Some (line_of (numbers_of decl).types owner.0) = sym there ∙ numbers_have_lines types owner.0 number owner.2 in
    (owner.0, owner.1, owner.2, (cc))
