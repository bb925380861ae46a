-- A turn of the loop that reads the arguments of a receiver.
use Rattle.std.proofs.Common.{◌≡◌, List, [], ◌∷◌, ◌++◌, Ok, Err, refl, ◌∙◌, append_assoc}
use Rattle.go_expr_syntax.specs.declared.symbols.Symbol.{Symbol}
use Rattle.go_expr_syntax.specs.declared.symbols.Ident.{Ident}
use Rattle.go_expr_syntax.specs.declared.faults.Fault.{Fault}
use Rattle.go_expr_syntax.specs.Reading.{Reply, past, is_comma, is_close_bracket, series}
use Rattle.go_expr_syntax.specs.Names.{ident_at}
use Rattle.go_syntax.specs.Functions.{idents, idents_row}
use Rattle.go_syntax.proofs.FuncReads.{ident_eats}
use Rattle.go_expr_syntax.proofs.Turns.{through_same, series_goes}

pub idents_more : (found : List Ident) (rest : List Symbol) (g : Fault) (i : Ident) (us vs : List Symbol) (d : Fault) (total : Reply (List Ident)) → past is_close_bracket rest ≡ Err g → ident_at rest ≡ Ok (i, us) → past is_close_bracket us ≡ Err d
    → past is_comma us ≡ Ok vs → idents_row found rest ≡ total → idents_row (found ++ i ∷ []) vs ≡ total
idents_more found rest g i us vs d total e h p q so =
    through_same (λ xs. (found ++ i ∷ []) ++ xs) (λ xs. found ++ i ∷ xs) (series idents ident_at vs) (λ xs. simp append_assoc)
    ∙ series_goes idents ident_at ident_eats (λ xs. found ++ xs) rest g i us vs d total refl e h p q so
