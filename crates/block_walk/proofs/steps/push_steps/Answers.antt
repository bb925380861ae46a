use Rattle.std.proofs.Common.{◌++◌, ◌≤◌, length, map, arith}
use Rattle.position_codec.specs.Place.{no_place}
use Rattle.block_writer.specs.Adding.{meant}
use Rattle.block_walk.specs.Steps.{items_steps}
use Rattle.block_walk.specs.StepsMeant.{meant_step}
use Rattle.block_walk.proofs.StepLemmas.{step_next, steps_done}
use Rattle.block_walk.proofs.steps.push_steps.Goals as goal

pub loop-item-preserved : goal.loop-item-preserved
loop-item-preserved c type =
    step_next type c.loop-item.into.items c.push_step.new.into.items (map (meant_step type) c.args.into.now.items ++ items_steps no_place (map (meant type) c.args.items.now)) c.loop-item.file.now c.file_after-file.result.now
    c.args.items.now c.loop-item.item-index c.item-item.result c.loop-item-test.true c.item-item.is c.in_ok-push_step.ensures (c.file_after-file.ensures type) (c.loop-item.invariant type)

pub returns : goal.returns
returns c type =
    let done : length c.args.items.now ≤ c.loop-item.item-index = omega (arith, c.loop-item-test.false) in
    steps_done type c.loop-item.into.items (map (meant_step type) c.args.into.now.items ++ items_steps no_place (map (meant type) c.args.items.now)) c.loop-item.file.now c.args.items.now c.loop-item.item-index done
    (c.loop-item.invariant type)
