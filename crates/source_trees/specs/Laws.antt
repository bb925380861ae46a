-- What the laws of this crate say.
use Rattle.std.specs.Prelude.{◌≡◌, ℕ, List, Some, slice_get}
use Rattle.go_syntax.specs.declared.tree.ConstSpec.{ConstSpec}
use Rattle.go_syntax.specs.declared.tree.Top.{Top}
use Rattle.go_syntax.specs.declared.tree.Top.TheVariants as top

-- The declaration of this number is these constants.
abbrev pub AreConstants : List Top → ℕ → ConstSpec → Type 0
AreConstants tops k c = slice_get tops k ≡ Some (top.Constant c)
