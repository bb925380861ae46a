-- The places that a rule gives in all that a walk sees.
use Rattle.std.specs.Prelude.{List, [], ◌∷◌, ◌++◌}
use Rattle.source_places.specs.declared.places.Found.{Found}
use Rattle.source_walk.specs.Visits.{Visit}

abbrev pub places_in : {C : Type 0} → (Visit → List (Found C)) → List Visit → List (Found C)
places_in places [] = []
places_in places (v ∷ vs) = places v ++ places_in places vs
