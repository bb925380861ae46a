use Rattle.std.specs.Prelude.{ℕ, ◌+◌, sum}
use Rattle.cycle_rules.specs.declared.shapes.Form.{Form}
use Rattle.cycle_rules.specs.declared.shapes.Form.TheOpen.{Form-F}
use Rattle.cycle_rules.specs.declared.shapes.Form.TheOpen as layer
use Rattle.cycle_rules.specs.declared.shapes.Form.TheFolds.{fold-Form}

-- a form, and those that stand in it, of which the counts are at hand
unfoldable pub count_step : Form-F ℕ → ℕ
count_step layer.Stop = 1
count_step (layer.Held i) = 1
count_step (layer.Apply t arguments) = 1 + sum arguments
count_step (layer.Parts all) = 1 + sum all

-- how many forms stand in a form, itself counted
unfoldable pub form_count : Form → ℕ
form_count = fold-Form ℕ count_step
