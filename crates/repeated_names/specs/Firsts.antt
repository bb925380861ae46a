-- The first of some places.
use Rattle.std.specs.Prelude.{if◌then◌else◌, List, [], ◌∷◌, Option, Some, None}
use Rattle.source_places.specs.declared.places.Place.{Place}
use Rattle.source_places.specs.Places.{is_before}

-- the one that stands first, of a place and another if there is one
abbrev pub at_first : Place → Option Place → Place
at_first a None = a
at_first a (Some b) = if is_before b a then b else a

abbrev pub first_of_two : Option Place → Option Place → Option Place
first_of_two None y = y
first_of_two (Some a) y = Some (at_first a y)

abbrev pub first : List Place → Option Place
first [] = None
first (p ∷ ps) = Some (at_first p (first ps))
