-- The specifications of each keyword take tokens.
use Rattle.std.proofs.Common.{ℕ, ◌≤◌}
use Rattle.go_syntax.specs.declared.decls.Keyword.{Keyword}
use Rattle.go_syntax.specs.declared.decls.Keyword.TheVariants as keyword
use Rattle.go_syntax.specs.Specs.{spec_of}
use Rattle.go_expr_syntax.proofs.Rows.{Eats}
use Rattle.go_syntax.proofs.FileReads.{var_eats, type_spec_eats}

pub spec_eats : (k : Keyword) (n : ℕ) → 2 ≤ n → Eats (spec_of k n)
spec_eats keyword.Var n two = var_eats n
spec_eats keyword.Type n two = type_spec_eats n two
