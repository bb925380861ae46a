-- The turns of the readers of parameters and of unions.
use Rattle.std.proofs.Common.{◌≡◌, ℕ, min, Bool, List, [], ◌∷◌, ◌++◌, Ok, Err, refl, sym, ap, ◌∙◌, append_assoc, arith}
use Rattle.go_expr_syntax.specs.declared.symbols.Symbol.{Symbol}
use Rattle.go_expr_syntax.specs.declared.symbols.Symbol.TheVariants as t
use Rattle.go_expr_syntax.specs.declared.symbols.Ident.{Ident}
use Rattle.go_expr_syntax.specs.declared.faults.Fault.{Fault}
use Rattle.go_type_syntax.specs.declared.tree.ParamExpr.{ParamExpr}
use Rattle.go_type_syntax.specs.declared.tree.TermExpr.{TermExpr}
use Rattle.go_type_syntax.specs.declared.tree.TypeExpr.{TypeExpr}
use Rattle.go_type_syntax.specs.declared.tree.TypeExpr.TheVariants as y
use Rattle.go_expr_syntax.specs.Reading.{Reply, past, choose, is_comma, Fit}
use Rattle.go_expr_syntax.specs.Names.{ident_at}
use Rattle.go_type_syntax.specs.Params.{after_bare, after_ident, params_from}
use Rattle.go_type_syntax.proofs.ParamReads.{from_ident, from_is}
use Rattle.go_expr_syntax.proofs.NameTurns.{ok_rest}
use Rattle.go_expr_syntax.proofs.Turns.{through, through_same}

-- ---- identifiers with a comma behind each

abbrev ident_read : Ident → Reply Ident → Ident
ident_read d (Ok z) = z.0
ident_read d (Err f) = d

module _ (v : Bool) (n : ℕ) (inner : List Symbol → Reply (Fit TypeExpr)) (names : List Ident) where
  abbrev from : List Symbol → Reply (Fit (List ParamExpr))
  from = params_from v n inner names

  pub from_none : (rest : List Symbol) (f : Fault) → ident_at rest ≡ Err f → from rest ≡ after_bare v n inner names rest
  from_none [] f e = refl
  from_none (t.Ident i ∷ rest) f e = absurd cc
  from_none (k ∷ rest) f e = refl

  pub from_open : (rest : List Symbol) (i : Ident) (after : List Symbol) (g : Fault) → ident_at rest ≡ Ok (i, after) → past is_comma after ≡ Err g → from rest ≡ after_ident v n inner names i after
  from_open [] i after g e p = absurd cc
  from_open (t.Ident j ∷ rest) i after g e p =
      let a : rest ≡ after = ok_rest j i rest after e in
      let b : j ≡ i = ap (ident_read j) e in
      from_is v n inner names j rest ∙ ap (from_ident v n inner names j) a ∙ ap (λ k. from_ident v n inner names k after) b ∙ ap (λ r. choose r (params_from v n inner (names ++ i ∷ [])) (after_ident v n inner names i after)) p
  from_open (k ∷ rest) i after g e p = absurd cc

  pub from_goes : (rest : List Symbol) (i : Ident) (after next : List Symbol) → ident_at rest ≡ Ok (i, after) → past is_comma after ≡ Ok next → from rest ≡ params_from v n inner (names ++ i ∷ []) next
  from_goes [] i after next e p = absurd cc
  from_goes (t.Ident j ∷ rest) i after next e p =
      let a : rest ≡ after = ok_rest j i rest after e in
      let b : j ≡ i = ap (ident_read j) e in
      from_is v n inner names j rest ∙ ap (from_ident v n inner names j) a ∙ ap (λ k. from_ident v n inner names k after) b ∙ ap (λ r. choose r (params_from v n inner (names ++ i ∷ [])) (after_ident v n inner names i after)) p
  from_goes (k ∷ rest) i after next e p = absurd cc

-- ---- unions

abbrev pub union_of : List TermExpr → ℕ → ℕ → Fit TypeExpr
union_of xs k at = (y.Union xs at, k)

-- terms so far, and more of them
pub terms_join : (front : List TermExpr) (k at : ℕ) (x : Fit TermExpr) (read : Reply (Fit (List TermExpr))) → through (λ xs. union_of (front ++ x.0 ∷ xs.0) (min k (min x.1 xs.1)) at) read ≡ through (λ xs. union_of ((front ++ x.0 ∷ []) ++ xs.0) (min (min k x.1) xs.1) at) read
terms_join front k at x read =
    through_same (λ xs. union_of (front ++ x.0 ∷ xs.0) (min k (min x.1 xs.1)) at) (λ xs. union_of ((front ++ x.0 ∷ []) ++ xs.0) (min (min k x.1) xs.1) at) read
    (λ xs. let e : min k (min x.1 xs.1) ≡ min (min k x.1) xs.1 = omega arith in
    ap (λ j. union_of (front ++ x.0 ∷ xs.0) j at) e ∙ ap (λ (ys : List TermExpr). union_of ys (min (min k x.1) xs.1) at) (sym (append_assoc front (x.0 ∷ []) xs.0)))
