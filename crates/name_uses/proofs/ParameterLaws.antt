-- A type with arguments is none of the type parameters.
use Rattle.std.proofs.Common.{◌≡◌, ℕ, false, List, [], ◌∷◌, refl, ap}
use Rattle.go_expr_syntax.specs.declared.tree.NameExpr.{NameExpr}
use Rattle.go_type_syntax.specs.declared.tree.TypeExpr.{TypeExpr}
use Rattle.go_type_syntax.specs.declared.tree.TypeExpr.TheVariants as y
use Rattle.go_type_syntax.proofs.PlainTypeLaws.{plain_named}
use Rattle.source_scopes.specs.Scopes.{Scopes}
use Rattle.source_trees.specs.Literals.{literal_of}
use Rattle.source_trees.specs.Trees.{written_type}
use Rattle.source_trees.specs.Words.{word}
use Rattle.name_uses.specs.Uses.{Offers, is_own_parameter}

pub with_arguments : (o : Offers) (s : Scopes) (source : List ℕ) (x : NameExpr) (args : List TypeExpr) (at : ℕ) → (args ≡ [] → ⊥) → is_own_parameter o s (written_type source (y.Name x args at)) ≡ false
with_arguments o s source x [] at h = absurd (h refl)
with_arguments o s source x (a ∷ more) at h = ap (is_own_parameter o s) (plain_named (word source) (literal_of source) x (a ∷ more) at)
