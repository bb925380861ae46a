use Rattle.std.proofs.Common.{ap, sym, map, ◌++◌, ◌∙◌}
use Rattle.std.proofs.lemmas.Result.{on_ok_weaker}
use Rattle.block_writer.specs.Adding.{meant}
use Rattle.block_walk.specs.Steps.{item_steps, file_steps}
use Rattle.block_walk.specs.StepsMeant.{at_file, meant_step}
use Rattle.block_walk.proofs.steps.push_step.Goals as goal

pub returns-in-Position : goal.returns-in-Position
returns-in-Position c =
    let file = c.args.file.now in
    let old = c.args.into.now.items in
    on_ok_weaker c.push_file.result
    (λ adds type.
    adds type
    ∙ ap (λ steps. map (meant_step type) old ++ steps)
    (ap (file_steps file) c.file_of.ensures ∙ ap (λ x. item_steps (at_file file) (meant type x)) (sym c.in-Position.is)))
    c.push_file.ensures

pub returns-in-NoPosition : goal.returns-in-NoPosition
returns-in-NoPosition c =
    let file = c.args.file.now in
    let old = c.args.into.now.items in
    on_ok_weaker c.push_file-in-NoPosition.result
    (λ adds type.
    adds type
    ∙ ap (λ steps. map (meant_step type) old ++ steps) (ap (λ x. item_steps (at_file file) (meant type x)) (sym c.in-NoPosition.is)))
    c.push_file-in-NoPosition.ensures
