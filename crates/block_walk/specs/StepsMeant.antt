-- Steps over nodes, as they are meant.
use Rattle.std.specs.Prelude.{◌≡◌, ℕ, List, ◌++◌, map}
use Rattle.position_codec.specs.Place.{Place, place_at}
use Rattle.type_terms.specs.Trees.{Text, Tree}
use Rattle.block_walk.specs.declared.steps.Step.{Step as Todo}
use Rattle.block_walk.specs.declared.steps.Step.TheVariants as todo
use Rattle.block_walk.specs.Steps.{Step, say, tell, meet, finish}

-- some place in a file
abbrev pub at_file : Text → Place
at_file file = place_at file 0 0

-- where each number of a node stands for a type
module _ (type : ℕ → Tree) where
  abbrev pub meant_step : Todo → Step
  meant_step (todo.Say text) = say text.now
  meant_step (todo.Tell path) = tell path.now
  meant_step (todo.Meet id) = meet (type id)
  meant_step (todo.Finish id) = finish (type id)

-- Steps were added, whatever types the numbers stand for.
abbrev pub AddsSteps : List Todo → List Todo → ((ℕ → Tree) → List Step) → Type 0
AddsSteps old new steps = (type : ℕ → Tree) → map (meant_step type) new ≡ map (meant_step type) old ++ steps type
