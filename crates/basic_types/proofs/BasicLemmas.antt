-- Coming down by names, as a relation and as a function.
use Rattle.std.proofs.Common.{◌≡◌, ◌⊎◌, inl, inr, ℕ, zero, suc, ◌≤◌, Option, Some, None, refl, sym, ap, subst, ◌∙◌, arith}
use Rattle.std.specs.Option.{option_and_then}
use Rattle.code_tables.specs.declared.predeclared.Basic.{Basic}
use Rattle.go_values.specs.declared.qualified.QName.{QName}
use Rattle.type_terms.specs.Trees.{Tree, predeclared}
use Rattle.type_terms.specs.Names.{basic_of}
use Rattle.basic_types.specs.BasicTypes.{Entries, head_name, side_behind, ComesDownTo, at_once, onward, IsReached, at_head, further, by_name, comes_down_within}

pub no_itself : (type : Tree) (q : QName) → head_name type ≡ Some q → basic_of type ≡ None
no_itself (predeclared basic) q e = absurd cc
no_itself _ q e = refl

pub is_predeclared : (type : Tree) (basic : Basic) → basic_of type ≡ Some basic → type ≡ predeclared basic
is_predeclared (predeclared own) basic e = cc
is_predeclared _ basic e = absurd cc

pub no_basic : (basic : Basic) → ◌≡◌ {A = Option Basic} None (Some basic) → ⊥
no_basic basic e = cc

pub same_basic : (a b : Basic) → ◌≡◌ {A = Option Basic} (Some a) (Some b) → a ≡ b
same_basic a b e = cc

module _ (entries : Entries) where
  -- a name without a step
  pub none_yet : (type : Tree) (q : QName) → head_name type ≡ Some q → comes_down_within entries 0 type ≡ None
  unfolding comes_down_within
  none_yet type q head = no_itself type q head

  -- and with one more
  pub one_more : (n : ℕ) (type side : Tree) (q : QName) → head_name type ≡ Some q → side_behind (entries q) ≡ Some side
      → comes_down_within entries (suc n) type ≡ comes_down_within entries n side
  unfolding comes_down_within
  one_more n type side q head behind =
      ap (by_name entries (comes_down_within entries n) type) head ∙ ap (option_and_then (comes_down_within entries n)) behind

  -- what stands behind the name is no type
  pub none_behind : (n : ℕ) (type : Tree) (q : QName) → head_name type ≡ Some q → side_behind (entries q) ≡ None
      → comes_down_within entries n type ≡ None
  unfolding comes_down_within
  none_behind zero type q head behind = no_itself type q head
  none_behind (suc n) type q head behind =
      ap (by_name entries (comes_down_within entries n) type) head ∙ ap (option_and_then (comes_down_within entries n)) behind

  -- there is no name
  pub by_itself : (n : ℕ) (type : Tree) → head_name type ≡ None → comes_down_within entries n type ≡ basic_of type
  unfolding comes_down_within
  by_itself zero type head = refl
  by_itself (suc n) type head = ap (by_name entries (comes_down_within entries n) type) head

  -- ---- what is found is come down to

  pub found_down : (n : ℕ) (type : Tree) (basic : Basic) → comes_down_within entries n type ≡ Some basic
      → ComesDownTo entries basic type
  unfolding comes_down_within
  found_down zero type basic e = subst (ComesDownTo entries basic) (sym (is_predeclared type basic e)) at_once
  found_down (suc n) type basic e = go (head_name type) refl e (found_down n)
    where
      go : (head : Option QName) → head_name type ≡ head → by_name entries (comes_down_within entries n) type head ≡ Some basic
          → ((side : Tree) (basic : Basic) → comes_down_within entries n side ≡ Some basic → ComesDownTo entries basic side)
          → ComesDownTo entries basic type
      go None is e later = subst (ComesDownTo entries basic) (sym (is_predeclared type basic e)) at_once
      go (Some q) is e later = behind (side_behind (entries q)) refl e
        where
          behind : (side : Option Tree) → side_behind (entries q) ≡ side → option_and_then (comes_down_within entries n) side ≡ Some basic
              → ComesDownTo entries basic type
          behind None at e = absurd (no_basic basic e)
          behind (Some side) at e = onward type side q is at (later side basic e)

  -- with more names it is found as well
  pub more_names : (n m : ℕ) (type : Tree) (basic : Basic) → n ≤ m → comes_down_within entries n type ≡ Some basic
      → comes_down_within entries m type ≡ Some basic
  more_names n m type basic le e = go n m type le (found_down n type basic e) e
    where
      go : (n m : ℕ) (type : Tree) → n ≤ m → ComesDownTo entries basic type → comes_down_within entries n type ≡ Some basic
          → comes_down_within entries m type ≡ Some basic
      go n m _ le at_once e = by_itself m (predeclared basic) refl
      go zero m _ le (onward type side q head at down) e = absurd (no_basic basic (sym (none_yet type q head) ∙ e))
      go (suc n) zero _ le (onward type side q head at down) e = absurd (omega arith)
      go (suc n) (suc m) _ le (onward type side q head at down) e =
          one_more m type side q head at
          ∙ go n m side (omega arith) down (sym (one_more n type side q head at) ∙ e)

  -- ---- one step

  pub opens : (basic : Basic) (type : Tree) (q : QName) → head_name type ≡ Some q → ComesDownTo entries basic type
      → (side : Tree) × (side_behind (entries q) ≡ Some side) × ComesDownTo entries basic side
  opens basic _ q head at_once = absurd cc
  opens basic _ q head (onward type side other other_head at down) =
      let same : other ≡ q = cc in (side, ap (λ n. side_behind (entries n)) (sym same) ∙ at, down)

  pub goes_down : (basic : Basic) (type side : Tree) (q : QName) → head_name type ≡ Some q → side_behind (entries q) ≡ Some side
      → ComesDownTo entries basic type → ComesDownTo entries basic side
  goes_down basic type side q head behind down =
      let step = opens basic type q head down in
      let same : step.0 ≡ side = cc in subst (ComesDownTo entries basic) same step.2

  pub reached_opens : (basic : Basic) (type : Tree) (q : QName) → ComesDownTo entries basic type → IsReached entries type q
      → (side : Tree) × (side_behind (entries q) ≡ Some side)
  reached_opens basic _ _ down (at_head type q head) = let step = opens basic type q head down in (step.0, step.1)
  reached_opens basic _ _ down (further type side head q is behind held) =
      reached_opens basic side q (goes_down basic type side head is behind down) held

  -- what is reached goes on from what stands behind the head
  pub reached_by_head : (type : Tree) (head q : QName) → head_name type ≡ Some head → IsReached entries type q
      → (q ≡ head) ⊎ ((side : Tree) × (side_behind (entries head) ≡ Some side) × IsReached entries side q)
  reached_by_head _ head _ is (at_head type q own) = inl cc
  reached_by_head _ head _ is (further type side other q own behind held) =
      let same : other ≡ head = cc in inr (side, ap (λ n. side_behind (entries n)) (sym same) ∙ behind, held)

  pub none_reached : (type : Tree) (q : QName) → head_name type ≡ None → IsReached entries type q → ⊥
  none_reached _ _ none (at_head type q own) = absurd cc
  none_reached _ _ none (further type side other q own behind held) = absurd cc
