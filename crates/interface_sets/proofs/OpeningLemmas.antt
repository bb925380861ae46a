-- The terms of an opening that went well: no alias in them mentions itself.
use Rattle.std.proofs.Common.{◌≡◌, ◌||◌, ℕ, zero, suc, Bool, true, false, cond, List, [], ◌∷◌, ◌++◌, Option, Some, None, Ok, Err, refl, subst}
use Rattle.std.specs.Prelude.{Result}
use Rattle.std.specs.List.{AllByRecursion}
use Rattle.interface_opening.specs.Elements.{Term, Interface, Event, has_term, has_interface, ends_element, Opened, Looks}
use Rattle.interface_opening.specs.Opening.{Item, term, joins, ends, closes, Step, goes, stops, opens, Next, done, faulty, found, has, noting, marking, is_open, after, shown, joined, new_or_known, unless_open, settled, tested, step, joining, passed, next, inside, opened_with, at_limit, onward, opening, none_opened}
use Rattle.interface_sets.proofs.CoveredLemmas.{OfEvent}

-- What is told of the terms that come to elements, by the test that they pass before.
module _ {T Q M F : Type 0} (look : Looks T Q M F) (P : Term T → Type 0)
    (passes : (tilde : Bool) (type x : T) → look.whole type ≡ Ok tt → look.settle type ≡ Ok x → P (record { tilde = tilde; type = x })) where
  abbrev pub AreGood : Opened T M → Type 0
  AreGood s = AllByRecursion (OfEvent P) s.events

  last : (events : List (Event T)) (event : Event T) → AllByRecursion (OfEvent P) events → OfEvent P event → AllByRecursion (OfEvent P) (events ++ event ∷ [])
  last [] event all own = (own, tt)
  last (e ∷ events) event all own = (all.0, last events event all.1 own)

  abbrev StepGood : Step T Q M F → Type 0
  StepGood (goes t) = AreGood t
  StepGood (stops f) = Unit {0}
  StepGood (opens x it t) = AreGood t

  after_good : (r : Result (Unit {0}) F) (x : Step T Q M F) → (r ≡ Ok tt → StepGood x) → StepGood (after look r x)
  after_good (Ok u) x good = good refl
  after_good (Err f) x good = tt

  shown_good : (holder : T) (tilde : Bool) (type x : T) (s : Opened T M) → AreGood s → look.settle type ≡ Ok x → (r : Result (Option (Interface T Q M)) F)
      → StepGood (shown look holder tilde type x s r)
  shown_good holder tilde type x s good is (Err f) = tt
  shown_good holder tilde type x s good is (Ok None) =
      after_good (look.whole type) (goes (noting look (has_term holder (record { tilde = tilde; type = x })) s))
      (λ whole. last s.events (has_term holder (record { tilde = tilde; type = x })) good (passes tilde type x whole is))
  shown_good holder tilde type x s good is (Ok (Some it)) = good

  joined_good : (holder : T) (several : Bool) (x : T) (s : Opened T M) → AreGood s → StepGood (joined look holder several x s)
  joined_good holder several x s good = by (has look s.marked x) several
    where
      noted : AllByRecursion (OfEvent P) (s.events ++ has_interface holder x ∷ [])
      noted = last s.events (has_interface holder x) good tt

      by : (marked several : Bool) → StepGood (cond marked (cond several (stops look.union_methods) (goes (marking look holder (noting look (has_interface holder x) s)))) (goes (noting look (has_interface holder x) s)))
      by true true = tt
      by true false = noted
      by false several = noted

  settled_good : (holder : T) (several tilde : Bool) (type : T) (rest : List (Item T Q)) (s : Opened T M) → AreGood s → (r : Result T F) → look.settle type ≡ r
      → StepGood (settled look holder several tilde type rest s r)
  settled_good holder several tilde type rest s good (Err f) is = tt
  settled_good holder several tilde type rest s good (Ok x) is = unless (is_open look rest (look.name_of x))
    where
      known : (b : Bool) → StepGood (cond b (joined look holder several x s) (shown look holder tilde type x s (look.beneath x)))
      known true = joined_good holder several x s good
      known false = shown_good holder tilde type x s good is (look.beneath x)

      unless : (q : Option Q) → StepGood (unless_open look q (new_or_known look holder several tilde type x s))
      unless None = known (has look s.types x)
      unless (Some q) = tt

  step_good : (item : Item T Q) (rest : List (Item T Q)) (s : Opened T M) → AreGood s → StepGood (step look item rest s)
  step_good (term holder several x) rest s good =
      after_good (tested look (several || x.tilde) x.type) (settled look holder several x.tilde x.type rest s (look.settle x.type))
      (λ fine. settled_good holder several x.tilde x.type rest s good (look.settle x.type) refl)
  step_good (joins holder several x) rest s good = joined_good holder several x s good
  step_good (ends holder) rest s good = last s.events (ends_element holder) good tt
  step_good (closes q) rest s good = good

  abbrev NextGood : Next T Q M F → Type 0
  NextGood (done t) = AreGood t
  NextGood (faulty f) = Unit {0}
  NextGood (found x it t rest) = AreGood t

  passed_good : (x : Step T Q M F) → StepGood x → (also : T → List (Item T Q)) (rest : List (Item T Q)) (later : Opened T M → Next T Q M F)
      → ((t : Opened T M) → AreGood t → NextGood (later t)) → NextGood (passed look x also rest later)
  passed_good (goes t) good also rest later hyp = hyp t good
  passed_good (stops f) good also rest later hyp = tt
  passed_good (opens x it t) good also rest later hyp = good

  next_good : (items : List (Item T Q)) (s : Opened T M) → AreGood s → NextGood (next look items s)
  next_good [] s good = good
  next_good (item ∷ rest) s good = passed_good (step look item rest s) (step_good item rest s good) (joining look item) rest (next look rest) (λ t. next_good rest t)

  abbrev Ends : Result (Opened T M) F → Type 0
  Ends (Ok t) = AreGood t
  Ends (Err f) = Unit {0}

  limit_good : (x : Next T Q M F) → NextGood x → Ends (at_limit look x)
  limit_good (done t) good = good
  limit_good (faulty f) good = tt
  limit_good (found x it t rest) good = tt

  onward_good : (further : List (Item T Q) → Opened T M → Result (Opened T M) F) → ((items : List (Item T Q)) (t : Opened T M) → AreGood t → Ends (further items t))
      → (x : Next T Q M F) → NextGood x → Ends (onward look further x)
  onward_good further hyp (done t) good = good
  onward_good further hyp (faulty f) good = tt
  onward_good further hyp (found x it t rest) good = hyp (inside look x it ++ rest) (opened_with look x it t) good

  opening_good : (n : ℕ) (items : List (Item T Q)) (s : Opened T M) → AreGood s → Ends (opening look n items s)
  unfolding opening
  opening_good zero items s good = limit_good (next look items s) (next_good items s good)
  opening_good (suc n) items s good = onward_good (opening look n) (opening_good n) (next look items s) (next_good items s good)

  pub opened_good : (n : ℕ) (items : List (Item T Q)) (s : Opened T M) → opening look n items none_opened ≡ Ok s → AreGood s
  opened_good n items s is = subst Ends is (opening_good n items none_opened tt)
