-- What identity needs in order to be an equivalence: that nothing to which types lead has a fault, and that covering of
-- terms behaves as one.
use Rattle.std.specs.Prelude.{◌≡◌, ℕ, zero, suc, List, true, Option, Some, None, Result, Ok, Err, IsOkAnd}
use Rattle.std.specs.List.{AllByRecursion}
use Rattle.replacement.specs.declared.faults.SetFault.{SetFault}
use Rattle.type_terms.specs.Trees.{Tree, named, alias, instance}
use Rattle.type_sets.specs.Covering.{Answer}
use Rattle.type_sets.specs.TypeSets.{TypeSet}
use Rattle.type_alike.specs.Sides.{Side, Sides, Pair, settle}
use Rattle.type_alike.specs.Sets.{terms_alike, set_in}
use Rattle.type_alike.specs.Comparing.{steps}

abbrev pub between : Side → Side → Sides
between left right = record { left = left; right = right }

-- what two types lead to isn't faulty, and this holds of each pair of parts; they may differ here
abbrev pub WhereTold : (Pair → Type 0) → Result (Option (List Pair)) SetFault → Type 0
WhereTold Holds (Err fault) = ⊥
WhereTold Holds (Ok None) = Unit {0}
WhereTold Holds (Ok (Some parts)) = AllByRecursion Holds parts

-- down to a depth, no pair to which this one leads has a fault
abbrev pub NoFault : Sides → ℕ → Pair → Type 0
NoFault sides zero p = Unit {0}
NoFault sides (suc n) p = IsOkAnd (settle sides p) (λ q. WhereTold (NoFault sides n) (steps sides q))

abbrev pub IsTold : Answer → Type 0
IsTold answer = IsOkAnd answer (λ alike. Unit {0})

-- Where the terms of three type sets are alike one after another, so are those of the first and the last, if that is
-- told at all.
abbrev pub CoveringComposes : Side → Side → Side → Type 0
CoveringComposes left middle right = (x y z : Tree) (s t u : TypeSet)
    → set_in left x ≡ Ok s → set_in middle y ≡ Ok t → set_in right z ≡ Ok u
    → terms_alike (between left middle) s.terms t.terms ≡ Ok true
    → terms_alike (between middle right) t.terms u.terms ≡ Ok true
    → IsTold (terms_alike (between left right) s.terms u.terms)
    → terms_alike (between left right) s.terms u.terms ≡ Ok true

-- Where it is told whether the terms of a type set are alike with themselves, they are.
abbrev pub CoversItself : Side → Type 0
CoversItself side = (x : Tree) (s : TypeSet) → set_in side x ≡ Ok s
    → IsTold (terms_alike (between side side) s.terms s.terms)
    → terms_alike (between side side) s.terms s.terms ≡ Ok true

-- an instance is of a defined type, and no alias stands here
abbrev pub IsHead : Tree → Type 0
IsHead (alias q) = ⊥
IsHead (instance (named q) args) = Unit {0}
IsHead (instance base args) = ⊥
IsHead _ = Unit {0}

-- down to a depth, no type to which these lead has a fault, and each has a head that is a type
abbrev pub IsSound : Sides → ℕ → Pair → Type 0
IsSound sides zero p = Unit {0}
IsSound sides (suc n) p =
    IsOkAnd (settle sides p) (λ q. IsHead q.left × WhereTold (IsSound sides n) (steps sides q))
