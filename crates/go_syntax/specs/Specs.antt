-- The specifications of each keyword.
use Rattle.std.specs.Prelude.{ℕ, List}
use Rattle.go_expr_syntax.specs.declared.symbols.Symbol.{Symbol}
use Rattle.go_syntax.specs.declared.decls.Keyword.{Keyword}
use Rattle.go_syntax.specs.declared.decls.Keyword.TheVariants as keyword
use Rattle.go_syntax.specs.declared.tree.Top.{Top}
use Rattle.go_expr_syntax.specs.Reading.{Reply}
use Rattle.go_syntax.specs.Files.{var_spec_at, type_spec_at}

abbrev pub spec_of : Keyword → ℕ → List Symbol → Reply Top
spec_of keyword.Var n = var_spec_at n
spec_of keyword.Type n = type_spec_at n
