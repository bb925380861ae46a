-- What comes of visits, one after another.
use Rattle.std.specs.Prelude.{List, [], ◌∷◌}
use Rattle.source_walk.specs.Visits.{Visit}

-- what there is so far, joined with what is told of each visit
abbrev pub seen : {S : Type 0} → (S → S → S) → (Visit → S) → S → List Visit → S
seen join tells so_far [] = so_far
seen join tells so_far (v ∷ vs) = seen join tells (join so_far (tells v)) vs
