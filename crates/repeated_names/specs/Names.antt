-- Names with their places.
use Rattle.std.specs.Prelude.{ℕ, List, Vec, map}
use Rattle.source_places.specs.declared.places.Place.{Place}
use Rattle.repeated_names.specs.declared.names.NameAt.{NameAt}

-- a name at a place
pub record Named : Type 0 where
  pub place : Place
  pub text : List ℕ

abbrev pub named : NameAt → Named
named n = record { place = n.place; text = n.text.now }

abbrev pub named_group : {A : Type 0} → Vec NameAt A → List Named
named_group group = map named group.items
