-- The first places of names, in a map by their texts.
use Rattle.std.specs.Prelude.{◌≡◌, if◌then◌else◌, ℕ, List, [], ◌∷◌, Option, Some, None}
use Rattle.std.specs.Borrow.{Bor}
use Rattle.std.specs.HashMap.{HashMap, get_by}
use Rattle.std.specs.Str.{bytes_eq}
use Rattle.source_places.specs.declared.places.Place.{Place}
use Rattle.repeated_names.specs.Firsts.{at_first}
use Rattle.repeated_names.specs.Names.{Named}

-- the first place of a name in a list
abbrev pub first_named : List ℕ → List Named → Option Place
first_named text [] = None
first_named text (x ∷ xs) =
    if bytes_eq text x.text then Some (at_first x.place (first_named text xs)) else first_named text xs

abbrev pub place_in : {S : Type 0} → HashMap (Bor (List ℕ)) Place S → List ℕ → Option Place
place_in m text = get_by (λ k. bytes_eq text k.now) m

-- The map has the first place of each name in a list, and no other.
abbrev pub Knows : {S : Type 0} → HashMap (Bor (List ℕ)) Place S → List Named → Type 0
Knows m names = (text : List ℕ) → place_in m text ≡ first_named text names
