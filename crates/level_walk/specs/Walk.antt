-- A walk over pairs that are due. The parts of a pair come before all others that are due, and a ready pair that was
-- met leads no further.
use Rattle.std.specs.Prelude.{◌≡◌, List, [], ◌∷◌, ◌++◌, Bool, true, false, Result, Ok, Err, Option, Some, None}
use Rattle.std.specs.List.{list_any}

module _ {P Q F : Type 0} (settle : P → Result Q F) (same : Q → Q → Bool) (steps : Q → Result (Option (List P)) F) where
  -- one visit: from what is due and what was met to the same after it
  pub data Visits : List P → List Q → List P → List Q → Type 0 where
    passed : (p : P) (q : Q) (due : List P) (met : List Q) → settle p ≡ Ok q → list_any (same q) met ≡ true
        → Visits (p ∷ due) met due met
    opened : (p : P) (q : Q) (parts due : List P) (met : List Q) → settle p ≡ Ok q → steps q ≡ Ok (Some parts)
        → Visits (p ∷ due) met (parts ++ due) (met ++ q ∷ [])

  -- what a walk comes to that began at some pairs
  pub data ComesTo (starts : List P) : List P → List Q → Type 0 where
    begins : ComesTo starts starts []
    visits : (due : List P) (met : List Q) (later : List P) (then : List Q) → ComesTo starts due met
        → Visits due met later then → ComesTo starts later then

  -- how it ends: nothing is due, or the pair that is due first fails a demand or has a fault
  pub data Ends : List P → Result Bool F → Type 0 where
    done : Ends [] (Ok true)
    differs : (p : P) (q : Q) (due : List P) → settle p ≡ Ok q → steps q ≡ Ok None → Ends (p ∷ due) (Ok false)
    unready : (p : P) (due : List P) (f : F) → settle p ≡ Err f → Ends (p ∷ due) (Err f)
    broken : (p : P) (q : Q) (due : List P) (f : F) → settle p ≡ Ok q → steps q ≡ Err f → Ends (p ∷ due) (Err f)
