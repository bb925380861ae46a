-- Rules with codes, each with a list of the places where it is broken. The first code that has a place counts, and in
-- its list the first place.
use Rattle.std.specs.Prelude.{◌≡◌, ◌<◌, ℕ, List, [], Some, Result, Ok, Err}
use Rattle.source_places.specs.declared.places.Found.{Found}
use Rattle.source_places.specs.declared.stages.Refusal.{Refusal}
use Rattle.source_places.specs.declared.stages.StageError.{StageError}
use Rattle.source_places.specs.declared.stages.StageError.TheVariants.{Refused, Failed}
use Rattle.source_places.specs.Places.{least}

-- No earlier code has a place, and this is the first one of its own code.
pub record IsRefusal {K C : Type 0} (order : K → ℕ) (places : K → List (Found C)) (r : Refusal K C) : Type 0 where
  pub earlier : (code : K) → order code < order r.code → places code ≡ []
  pub place : least (places r.code) ≡ Some r.found

-- no rule is broken
abbrev pub AreKept : {K C : Type 0} → (K → List (Found C)) → Type 0
AreKept {K} places = (code : K) → places code ≡ []

-- What a call answers that looks for one code: it goes on where the code has no place, and else refuses at the first.
abbrev pub IsStage : {K C E X : Type 0} → (K → List (Found C)) → K → Result X (StageError K C E) → Type 0
IsStage places code (Ok x) = places code ≡ []
IsStage places code (Err (Refused r)) = (r.code ≡ code) × (least (places code) ≡ Some r.found)
IsStage places code (Err (Failed e)) = Unit {0}
