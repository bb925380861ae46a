-- Places in the files of a package, and the first of those that are found.
use Rattle.std.specs.Prelude.{◌≡◌, ◌==◌, ◌&&◌, ◌||◌, nat_lt, if◌then◌else◌, Bool, true, false, List, [], ◌∷◌}
use Rattle.std.specs.Prelude.{◌++◌, Option, Some, None}
use Rattle.std.specs.List.{AllByRecursion}
use Rattle.source_places.specs.declared.places.Place.{Place}
use Rattle.source_places.specs.declared.places.Found.{Found}

-- it stands in an earlier file, or before the other in one file
abbrev pub is_before : Place → Place → Bool
is_before a b = nat_lt a.file b.file || ((a.file == b.file) && nat_lt a.at b.at)

-- the one that stands first, and the left one of two at one place
abbrev pub earlier : {C : Type 0} → Option (Found C) → Option (Found C) → Option (Found C)
earlier None y = y
earlier (Some a) None = Some a
earlier (Some a) (Some b) = if is_before b.place a.place then Some b else Some a

abbrev pub least : {C : Type 0} → List (Found C) → Option (Found C)
least [] = None
least (x ∷ xs) = earlier (Some x) (least xs)

-- It is listed, those before it in the list stand behind it, and none stands before it.
pub record IsLeast {C : Type 0} (xs : List (Found C)) (x : Found C) : Type 0 where
  pub front : List (Found C)
  pub rest : List (Found C)
  pub split : xs ≡ front ++ x ∷ rest
  pub passed : AllByRecursion (λ y. is_before x.place y.place ≡ true) front
  pub first : AllByRecursion (λ y. is_before y.place x.place ≡ false) rest
