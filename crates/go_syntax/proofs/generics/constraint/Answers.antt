use Rattle.std.proofs.Common.{ℕ, subst}
use Rattle.go_expr_syntax.specs.Reading.{told_at, Gives}
use Rattle.go_type_syntax.specs.Elements.{union_at}
use Rattle.go_type_syntax.specs.Types.{type_at, lower_at}
use Rattle.go_syntax.proofs.generics.constraint.Goals as goal

pub returns : goal.returns
returns c =
    let n = c.args.left in
    subst (λ (at : ℕ). Gives (λ x. (x.0, x.1.now)) c.told_at.result (told_at at (union_at n (type_at n) (lower_at n) c.args.tokens.now))) c.start.ensures (c.told_at.ensures _ c.union_type.ensures)
