-- What a token does inside brackets, where the innermost is listed last.
use Rattle.std.proofs.Common.{◌≡◌, Bool, List, [], ◌∷◌, reverse, None, refl, sym, ap, ◌∙◌}
use Rattle.std.proofs.lemmas.List.{reverse-reverse}
use Rattle.go_expr_syntax.specs.declared.symbols.Symbol.{Symbol}
use Rattle.go_syntax.specs.declared.skipped.Bracket.{Bracket}
use Rattle.go_syntax.specs.declared.skipped.Step.TheVariants as step
use Rattle.go_syntax.specs.Skipped.{opened, closed, Steps}

none_left : (bs : List Bracket) → reverse bs ≡ [] → bs ≡ []
none_left bs e = sym (reverse-reverse bs) ∙ ap reverse e

inside_goes : (line : Bool) (bs : List Bracket) (k : Symbol) → (bs ≡ [] → ⊥) → opened k ≡ None → closed k ≡ None → Steps line bs k step.Goes bs
inside_goes line [] k h e f = absurd (h refl)
inside_goes line (b ∷ bs) k h e f = λ more ts. rw (e, f) refl

pub stands_inside : (line : Bool) (bs : List Bracket) (k : Symbol) → (bs ≡ [] → ⊥) → opened k ≡ None → closed k ≡ None → Steps line (reverse bs) k step.Goes (reverse bs)
stands_inside line bs k h e f = inside_goes line (reverse bs) k (λ n. h (none_left bs n)) e f
