-- The first of all places, found visit by visit.
use Rattle.std.proofs.Common.{◌≡◌, List, [], ◌∷◌, Option, None, sym, ap, ◌∙◌}
use Rattle.source_places.specs.declared.places.Found.{Found}
use Rattle.source_places.specs.Places.{earlier, least}
use Rattle.source_places.proofs.LeastLaws.{earlier_none, earlier_assoc, least_append}
use Rattle.source_walk.specs.Visits.{Visit}
use Rattle.source_walk.specs.Seen.{seen}
use Rattle.source_walk.specs.Rules.{places_in}

first_after : {C : Type 0} (places : Visit → List (Found C)) (a : Option (Found C)) (vs : List Visit) → seen earlier (λ v. least (places v)) a vs ≡ earlier a (least (places_in places vs))
first_after places a [] = sym (earlier_none a)
first_after places a (v ∷ vs) = first_after places (earlier a (least (places v))) vs ∙ earlier_assoc a (least (places v)) (least (places_in places vs)) ∙ ap (earlier a) (sym (least_append (places v) (places_in places vs)))

pub first_of : {C : Type 0} (places : Visit → List (Found C)) (vs : List Visit) → seen earlier (λ v. least (places v)) None vs ≡ least (places_in places vs)
first_of places vs = first_after places None vs
