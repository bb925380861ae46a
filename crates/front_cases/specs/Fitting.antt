-- What the check of cycles asks of lists.
use Rattle.std.specs.Prelude.{◌≡◌, ℕ, ◌<◌, List, slice_get, Some}
use Rattle.cycle_rules.specs.declared.shapes.Form.{Form}
use Rattle.cycle_rules.specs.declared.shapes.DeclShape.{DeclShape}
use Rattle.cycle_rules.specs.Forms.{Fits}

-- each number is below a bound
abbrev pub AllBelow : List ℕ → ℕ → Type 0
AllBelow numbers bound = (k v : ℕ) → slice_get numbers k ≡ Some v → v < bound

-- each form fits a declaration with so many parameters
abbrev pub AllFit : List DeclShape → ℕ → List Form → Type 0
AllFit shapes params forms = (k : ℕ) (form : Form) → slice_get forms k ≡ Some form → Fits shapes params form
