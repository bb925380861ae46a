-- Names that are equal in lists.
use Rattle.std.specs.Prelude.{◌≢◌, if◌then◌else◌, List, [], ◌∷◌, ◌++◌}
use Rattle.std.specs.List.{AllByRecursion}
use Rattle.std.specs.Str.{bytes_eq}
use Rattle.source_places.specs.declared.places.Place.{Place}
use Rattle.source_places.specs.Places.{is_before}
use Rattle.repeated_names.specs.Names.{Named}

abbrev pub later : Place → Place → Place
later a b = if is_before a b then b else a

-- of each name in a list that equals this one, the later of the two places
abbrev pub equal_to : Named → List Named → List Place
equal_to x [] = []
equal_to x (y ∷ ys) = if bytes_eq x.text y.text then later x.place y.place ∷ equal_to x ys else equal_to x ys

-- the later place of each two equal names
abbrev pub repeats : List Named → List Place
repeats [] = []
repeats (x ∷ xs) = equal_to x xs ++ repeats xs

-- the later place of each two equal names of which one is in the first list and one in the second
abbrev pub common : List Named → List Named → List Place
common [] ys = []
common (x ∷ xs) ys = equal_to x ys ++ common xs ys

-- the same in each of some groups, and between a group and this list
abbrev pub group_clashes : List Named → List (List Named) → List Place
group_clashes all [] = []
group_clashes all (g ∷ gs) = (repeats g ++ common g all) ++ group_clashes all gs

-- and in the list itself
abbrev pub clashes : List Named → List (List Named) → List Place
clashes all groups = repeats all ++ group_clashes all groups

-- no two names are equal
abbrev pub AllDiffer : List Named → Type 0
AllDiffer [] = Unit {0}
AllDiffer (x ∷ xs) = AllByRecursion (λ y. x.text ≢ y.text) xs × AllDiffer xs
