-- What each opening keeps holds of all that was opened.
use Rattle.std.proofs.Common.{◌≡◌, ℕ, zero, suc, List, [], ◌∷◌, ◌++◌, Bool, true, false, ◌||◌, cond, Result, Ok, Err, Option, Some, None, refl, subst}
use Rattle.interface_opening.specs.Elements.{Term, Element, Interface, Opened, Looks}
use Rattle.interface_opening.specs.Opening.{Item, term, joins, ends, closes, Step, goes, stops, opens, Next, done, faulty, found, has, noting, marking, is_open, after, shown, joined, new_or_known, unless_open, settled, tested, step, joining, passed, next, inside, opened_with, at_limit, onward, opening}

module _ {T Q M F : Type 0} (look : Looks T Q M F) where
  -- the same interfaces were opened
  pub record IsSame (a b : Opened T M) : Type 0 where
    pub types : a.types ≡ b.types
    pub methods : a.methods ≡ b.methods
    pub flag : a.flag ≡ b.flag

  same : (s : Opened T M) → IsSame s s
  same s = record { types = refl; methods = refl; flag = refl }

  -- An item leaves what was opened as it is; the interface that it leads to is new, and is what the type shows.
  abbrev Leaves : Opened T M → Step T Q M F → Type 0
  Leaves s (goes t) = IsSame s t
  Leaves s (stops f) = Unit {0}
  Leaves s (opens x it t) = IsSame s t × (has look t.types x ≡ false) × (look.beneath x ≡ Ok (Some it))

  after_leaves : (s : Opened T M) (r : Result (Unit {0}) F) (x : Step T Q M F) → Leaves s x → Leaves s (after look r x)
  after_leaves s (Ok u) x leaves = leaves
  after_leaves s (Err f) x leaves = tt

  shown_leaves : (holder : T) (tilde : Bool) (type x : T) (s : Opened T M) → has look s.types x ≡ false → (r : Result (Option (Interface T Q M)) F) → look.beneath x ≡ r
      → Leaves s (shown look holder tilde type x s r)
  shown_leaves holder tilde type x s new (Err f) e = tt
  shown_leaves holder tilde type x s new (Ok None) e = after_leaves s (look.whole type) _ (record { types = refl; methods = refl; flag = refl })
  shown_leaves holder tilde type x s new (Ok (Some it)) e = (same s, new, e)

  joined_leaves : (holder : T) (several : Bool) (x : T) (s : Opened T M) → Leaves s (joined look holder several x s)
  joined_leaves holder several x s = by_mark (has look s.marked x) several
    where
      by_mark : (marked several : Bool) → Leaves s (cond marked (cond several (stops look.union_methods) (goes (marking look holder (noting look (Rattle.interface_opening.specs.Elements.has_interface holder x) s)))) (goes (noting look (Rattle.interface_opening.specs.Elements.has_interface holder x) s)))
      by_mark true true = tt
      by_mark true false = record { types = refl; methods = refl; flag = refl }
      by_mark false several = record { types = refl; methods = refl; flag = refl }

  known_leaves : (holder : T) (several tilde : Bool) (type x : T) (s : Opened T M) (b : Bool) → has look s.types x ≡ b
      → Leaves s (cond b (joined look holder several x s) (shown look holder tilde type x s (look.beneath x)))
  known_leaves holder several tilde type x s true e = joined_leaves holder several x s
  known_leaves holder several tilde type x s false e = shown_leaves holder tilde type x s e (look.beneath x) refl

  unless_leaves : (s : Opened T M) (q : Option Q) (x : Step T Q M F) → Leaves s x → Leaves s (unless_open look q x)
  unless_leaves s None x leaves = leaves
  unless_leaves s (Some q) x leaves = tt

  settled_leaves : (holder : T) (several tilde : Bool) (type : T) (rest : List (Item T Q)) (s : Opened T M) (r : Result T F) → Leaves s (settled look holder several tilde type rest s r)
  settled_leaves holder several tilde type rest s (Err f) = tt
  settled_leaves holder several tilde type rest s (Ok x) =
      unless_leaves s (is_open look rest (look.name_of x)) (new_or_known look holder several tilde type x s) (known_leaves holder several tilde type x s (has look s.types x) refl)

  step_leaves : (item : Item T Q) (rest : List (Item T Q)) (s : Opened T M) → Leaves s (step look item rest s)
  step_leaves (term holder several x) rest s =
      after_leaves s (tested look (several || x.tilde) x.type) _ (settled_leaves holder several x.tilde x.type rest s (look.settle x.type))
  step_leaves (joins holder several x) rest s = joined_leaves holder several x s
  step_leaves (ends holder) rest s = record { types = refl; methods = refl; flag = refl }
  step_leaves (closes q) rest s = same s

  -- With so many interfaces that may still be opened: what was opened is good, and stays so by each opening.
  module _ (Good : ℕ → Opened T M → Type 0)
      (stays : (n : ℕ) (s t : Opened T M) → IsSame s t → Good n s → Good n t)
      (one_more : (n : ℕ) (x : T) (it : Interface T Q M) (s : Opened T M) → Good (suc n) s → has look s.types x ≡ false → look.beneath x ≡ Ok (Some it) → Good n (opened_with look x it s)) where
    abbrev IsGood : ℕ → Next T Q M F → Type 0
    IsGood n (done t) = Good n t
    IsGood n (faulty f) = Unit {0}
    IsGood n (found x it t rest) = Good n t × (has look t.types x ≡ false) × (look.beneath x ≡ Ok (Some it))

    passed_good : (n : ℕ) (s : Opened T M) → Good n s → (x : Step T Q M F) → Leaves s x → (also : T → List (Item T Q)) (rest : List (Item T Q)) (later : Opened T M → Next T Q M F)
        → ((t : Opened T M) → Good n t → IsGood n (later t)) → IsGood n (passed look x also rest later)
    passed_good n s good (goes t) leaves also rest later hyp = hyp t (stays n s t leaves good)
    passed_good n s good (stops f) leaves also rest later hyp = tt
    passed_good n s good (opens x it t) leaves also rest later hyp = (stays n s t leaves.0 good, leaves.1, leaves.2)

    next_good : (n : ℕ) (items : List (Item T Q)) (s : Opened T M) → Good n s → IsGood n (next look items s)
    next_good n [] s good = good
    next_good n (item ∷ rest) s good = passed_good n s good (step look item rest s) (step_leaves item rest s) (joining look item) rest (next look rest) (λ t. next_good n rest t)

    abbrev Ends : Result (Opened T M) F → Type 0
    Ends (Ok t) = (n : ℕ) × Good n t
    Ends (Err f) = Unit {0}

    limit_ends : (n : ℕ) (x : Next T Q M F) → IsGood n x → Ends (at_limit look x)
    limit_ends n (done t) good = (n, good)
    limit_ends n (faulty f) good = tt
    limit_ends n (found x it t rest) good = tt

    onward_ends : (n : ℕ) (further : List (Item T Q) → Opened T M → Result (Opened T M) F) → ((items : List (Item T Q)) (t : Opened T M) → Good n t → Ends (further items t))
        → (x : Next T Q M F) → IsGood (suc n) x → Ends (onward look further x)
    onward_ends n further hyp (done t) good = (suc n, good)
    onward_ends n further hyp (faulty f) good = tt
    onward_ends n further hyp (found x it t rest) good = hyp (inside look x it ++ rest) (opened_with look x it t) (one_more n x it t good.0 good.1 good.2)

    opening_ends : (n : ℕ) (items : List (Item T Q)) (s : Opened T M) → Good n s → Ends (opening look n items s)
    unfolding opening
    opening_ends zero items s good = limit_ends zero (next look items s) (next_good zero items s good)
    opening_ends (suc n) items s good = onward_ends n (opening look n) (opening_ends n) (next look items s) (next_good (suc n) items s good)

    pub opening_keeps : (n : ℕ) (items : List (Item T Q)) (s t : Opened T M) → Good n s → opening look n items s ≡ Ok t → (m : ℕ) × Good m t
    opening_keeps n items s t good e = subst Ends e (opening_ends n items s good)
