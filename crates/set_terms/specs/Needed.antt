-- What comes to an interface by one event, and the comparisons to which the events of an opening come. X are names that
-- are asked for, or types that are opened.
use Rattle.std.specs.Prelude.{◌⊎◌, List, [], ◌∷◌, Bool, Some, Result, Ok, IsOkAnd}
use Rattle.interface_opening.specs.Elements.{Term, Event, has_term, has_interface, ends_element}
use Rattle.interface_opening.specs.Terms.{Choice, Sum, ◌>>=◌, meet, with_union, with_whole, sum_of, happens}
use Rattle.common_terms.specs.Comparing.{AtLists}

module _ {T F : Type 0} (same : T → T → Bool) (same_term : Term T → Term T → Bool)
    (covered : Term T → Term T → Result Bool F) where
  -- What the holder of an event then has, where `at` is what interfaces have. I stands for types by itself.
  abbrev pub changed : {I : Type 0} → (I → Sum T) → (Term I → Term T) → Event I → Result (Sum T) F
  changed at meant (has_term holder x) = Ok (with_union same same_term covered (at holder) (Some (meant x ∷ [])))
  changed at meant (has_interface holder of) = Ok (with_union same same_term covered (at holder) (at of).whole)
  changed at meant (ends_element holder) = meet same_term covered (at holder).whole (at holder).union
      >>= λ c. Ok (with_whole same same_term covered (at holder) c)

module _ {T F : Type 0} (same_term : Term T → Term T → Bool) (covered : Term T → Term T → Result Bool F)
    {X : Type 0} (needs : Term T → Term T → X → Type 0) where
  -- two lists are compared, and all types with nothing
  abbrev pub AtMeet : Choice T → Choice T → X → Type 0
  AtMeet (Some xs) (Some ys) a = AtLists same_term covered needs xs ys [] a
  AtMeet _ _ a = ⊥

  -- where an element ends
  abbrev pub AtEvent : {I : Type 0} → (I → Sum T) → Event I → X → Type 0
  AtEvent at (ends_element holder) a = AtMeet (at holder).whole (at holder).union a
  AtEvent at _ a = ⊥

  -- at each event, up to a fault
  abbrev pub AtEvents : (T → T → Bool) → List (Event T) → List (Sum T) → X → Type 0
  AtEvents same [] sums a = ⊥
  AtEvents same (event ∷ events) sums a = AtEvent (sum_of same same_term covered sums) event a
      ⊎ IsOkAnd (happens same same_term covered event sums) (λ more. AtEvents same events more a)
