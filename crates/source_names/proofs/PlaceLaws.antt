-- The first of places with a cause that is the same for all.
use Rattle.std.proofs.Common.{◌≡◌, Bool, true, false, List, [], ◌∷◌, ◌++◌, Option, Some, None, map, option_map, refl, sym, ap, ◌∙◌}
use Rattle.std.proofs.lemmas.List.{map-append}
use Rattle.source_places.specs.declared.places.Place.{Place}
use Rattle.source_places.specs.declared.places.Found.{Found}
use Rattle.source_places.specs.Places.{is_before, earlier, least}
use Rattle.source_places.proofs.LeastLaws.{least_append}
use Rattle.repeated_names.specs.Firsts.{at_first, first_of_two, first}
use Rattle.repeated_names.proofs.FirstLaws.{first_append}
use Rattle.source_walk.specs.Visits.{Visit}
use Rattle.source_walk.specs.Rules.{places_in}
use Rattle.source_names.specs.Duplicates.{found_at, duplicates_at, duplicate_at, visited}

module _ {C : Type 0} (cause : C) where
  before_one : (p q : Place) (b : Bool) → is_before q p ≡ b → earlier (Some (found_at cause p)) (Some (found_at cause q)) ≡ Some (found_at cause (at_first p (Some q)))
  before_one p q true e = rw e refl
  before_one p q false e = rw e refl

  before_any : (p : Place) (q : Option Place) → earlier (Some (found_at cause p)) (option_map (found_at cause) q) ≡ Some (found_at cause (at_first p q))
  before_any p None = refl
  before_any p (Some q) = before_one p q _ refl

  pub first_found : (ps : List Place) → least (map (found_at cause) ps) ≡ option_map (found_at cause) (first ps)
  first_found [] = refl
  first_found (p ∷ ps) = ap (earlier (Some (found_at cause p))) (first_found ps) ∙ before_any p (first ps)

  pub found_visited : (vs : List Visit) → places_in (duplicate_at cause) vs ≡ map (found_at cause) (visited vs)
  found_visited [] = refl
  found_visited (v ∷ vs) = ap (λ k. map (found_at cause) (duplicates_at v) ++ k) (found_visited vs) ∙ sym (map-append (found_at cause) (duplicates_at v) (visited vs))

  -- the first of places, some of which were seen on a walk
  pub joined_found : (outer : Option Place) (inner : Option (Found C)) (ps : List Place) (vs : List Visit)
      → outer ≡ first ps → inner ≡ least (places_in (duplicate_at cause) vs)
      → earlier (option_map (found_at cause) outer) inner ≡ least (map (found_at cause) (ps ++ visited vs))
  joined_found outer inner ps vs e f =
      ap (λ k. earlier k inner) (ap (option_map (found_at cause)) e ∙ sym (first_found ps))
      ∙ ap (earlier (least (map (found_at cause) ps))) (f ∙ ap least (found_visited vs))
      ∙ sym (ap least (map-append (found_at cause) ps (visited vs)) ∙ least_append (map (found_at cause) ps) (map (found_at cause) (visited vs)))

pub ruleset places = (first_found, first_append)
