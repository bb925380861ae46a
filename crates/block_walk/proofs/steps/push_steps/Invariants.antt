use Rattle.std.proofs.Common.{◌≡◌, ◌++◌, ℕ, map, drop}
use Rattle.position_codec.specs.Place.{no_place}
use Rattle.type_terms.specs.Trees.{Tree}
use Rattle.block_writer.specs.Adding.{meant}
use Rattle.block_walk.specs.Steps.{items_steps}
use Rattle.block_walk.specs.StepsMeant.{at_file, meant_step}
use Rattle.block_walk.proofs.steps.push_steps.Given as goal

abbrev pub invariant-loop-item : goal.invariant-loop-item
invariant-loop-item l = (type : ℕ → Tree)
    → map (meant_step type) l.into.items ++ items_steps (at_file l.file) (map (meant type) (drop l.item-index l.items))
    ≡ map (meant_step type) l.fn.into.items ++ items_steps no_place (map (meant type) l.items)
