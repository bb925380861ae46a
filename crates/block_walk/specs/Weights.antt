-- How much steps that are left come to at the most, so that their number is bounded.
use Rattle.std.specs.Prelude.{ℕ, ◌+◌, List, [], ◌∷◌, length}
use Rattle.type_terms.specs.Parts.{tree_size}
use Rattle.file_layout.specs.Walk.{walk}
use Rattle.block_walk.specs.Steps.{Step, say, tell, meet, finish}

abbrev pub step_weight : Step → ℕ
step_weight (say text) = 1
step_weight (tell path) = 1
step_weight (meet type) = length (walk type) + tree_size type
step_weight (finish type) = 1

abbrev pub steps_weight : List Step → ℕ
steps_weight [] = 0
steps_weight (x ∷ xs) = step_weight x + steps_weight xs
