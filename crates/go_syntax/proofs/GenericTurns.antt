-- A turn of the loop that reads type parameters.
use Rattle.std.proofs.Common.{◌≡◌, ℕ, List, [], ◌∷◌, ◌++◌, Ok, Err, refl, ◌∙◌, append_assoc}
use Rattle.go_expr_syntax.specs.declared.symbols.Symbol.{Symbol}
use Rattle.go_syntax.specs.declared.tree.TParam.{TParam}
use Rattle.go_expr_syntax.specs.declared.faults.Fault.{Fault}
use Rattle.go_expr_syntax.specs.Reading.{Reply, past, is_comma, is_close_bracket, series}
use Rattle.go_syntax.specs.Generics.{tparam_at, tparams, tparams_row}
use Rattle.go_syntax.proofs.GenericReads.{tparam_eats}
use Rattle.go_expr_syntax.proofs.Turns.{through_same, series_goes}

pub tparams_more : (n : ℕ) (found : List TParam) (rest : List Symbol) (g : Fault) (x : TParam) (us vs : List Symbol) (d : Fault) (total : Reply (List TParam)) → past is_close_bracket rest ≡ Err g → tparam_at n rest ≡ Ok (x, us)
    → past is_close_bracket us ≡ Err d → past is_comma us ≡ Ok vs → tparams_row n found rest ≡ total → tparams_row n (found ++ x ∷ []) vs ≡ total
tparams_more n found rest g x us vs d total e h p q so =
    through_same (λ xs. (found ++ x ∷ []) ++ xs) (λ xs. found ++ x ∷ xs) (series tparams (tparam_at n) vs) (λ xs. simp append_assoc)
    ∙ series_goes tparams (tparam_at n) (tparam_eats n) (λ xs. found ++ xs) rest g x us vs d total refl e h p q so
