-- The turns of the loops that read constants.
use Rattle.std.proofs.Common.{◌≡◌, ℕ, suc, ◌<◌, List, [], ◌∷◌, ◌++◌, length, Ok, Err, refl, sym, ap, ◌∙◌, append_assoc, length-append, arith}
use Rattle.std.proofs.lemmas.List.{append-nil}
use Rattle.go_expr_syntax.specs.declared.symbols.Symbol.{Symbol}
use Rattle.go_syntax.specs.declared.constants.Written.{Written}
use Rattle.go_expr_syntax.specs.declared.expressions.Operand.{Operand}
use Rattle.go_expr_syntax.specs.declared.tree.Expr.{Expr}
use Rattle.go_syntax.specs.declared.tree.Top.{Top}
use Rattle.go_expr_syntax.specs.declared.faults.Fault.{Fault}
use Rattle.go_expr_syntax.specs.declared.faults.Stop.{Stop}
use Rattle.go_expr_syntax.specs.declared.faults.Stop.TheVariants as stop
use Rattle.go_expr_syntax.specs.Reading.{Reply, ◌>>=◌, past, is_comma, is_semicolon, is_close_paren, series_by, rows, row, Fails}
use Rattle.go_expr_syntax.specs.Operands.{outer_expr}
use Rattle.go_syntax.specs.Constants.{source_of, constants, exprs_step, exprs_at, const_spec_at}
use Rattle.go_syntax.specs.Files.{counting}
use Rattle.go_expr_syntax.proofs.Rows.{Eats, eats_of, row_is, past_shorter}
use Rattle.go_expr_syntax.proofs.Steps.{steps_is}
use Rattle.go_expr_syntax.proofs.Turns.{with_front, regroup}
use Rattle.go_expr_syntax.proofs.OperandReads.{ExprAt, no_expr_here}
use Rattle.go_syntax.proofs.ConstReads.{outer_reads, exprs_local, const_eats}

-- ---- lists of expressions

expr_eats : (n : ℕ) → Eats (outer_expr n)
expr_eats n = eats_of (ExprAt 5) (outer_expr n) (no_expr_here 5) (outer_reads n)

exprs_open : (n : ℕ) (found : List Expr) (rest : List Symbol) → with_front found (exprs_at n rest) ≡ with_front found (exprs_step n (exprs_at n) rest)
exprs_open n found rest = ap (with_front found) (steps_is (exprs_step n) (exprs_local n) rest)

exprs_fail : (n : ℕ) (found : List Expr) (rest : List Symbol) (f : Fault) (total : Reply (List Expr)) → outer_expr n rest ≡ Err f → with_front found (exprs_at n rest) ≡ total → total ≡ Err f
exprs_fail n found rest f total e so =
    let here : with_front found (exprs_step n (exprs_at n) rest) ≡ Err f = rw e refl in
    sym so ∙ exprs_open n found rest ∙ here

pub exprs_stop : (n : ℕ) (found : List Expr) (rest : List Symbol) (s : Stop) (total : Reply (List Expr)) → Fails s (outer_expr n rest) → with_front found (exprs_at n rest) ≡ total → Fails s total
exprs_stop n found rest stop.OutOfMemory total e so = tt
exprs_stop n found rest (stop.At f) total e so = exprs_fail n found rest f total e so

pub exprs_done : (n : ℕ) (found : List Expr) (rest : List Symbol) (x : Operand) (spare : ℕ) (after : List Symbol) (f : Fault) (total : Reply (List Expr)) → outer_expr n rest ≡ Ok ((x, spare), after) → past is_comma after ≡ Err f
    → with_front found (exprs_at n rest) ≡ total → total ≡ Ok (found ++ x.expr ∷ [], after)
exprs_done n found rest x spare after f total e p so =
    let here : with_front found (exprs_step n (exprs_at n) rest) ≡ Ok (found ++ x.expr ∷ [], after) = rw (e, p) refl in
    sym so ∙ exprs_open n found rest ∙ here

pub exprs_go : (n : ℕ) (found : List Expr) (rest : List Symbol) (x : Operand) (spare : ℕ) (after next : List Symbol) (total : Reply (List Expr)) → outer_expr n rest ≡ Ok ((x, spare), after) → past is_comma after ≡ Ok next
    → with_front found (exprs_at n rest) ≡ total → with_front (found ++ x.expr ∷ []) (exprs_at n next) ≡ total
exprs_go n found rest x spare after next total e p so =
    let here : with_front found (exprs_step n (exprs_at n) rest) ≡ with_front (found ++ x.expr ∷ []) (exprs_at n next) = rw (e, p) (regroup found x.expr (exprs_at n next)) in
    sym here ∙ sym (exprs_open n found rest) ∙ so

pub exprs_smaller : (n : ℕ) (rest : List Symbol) (x : Operand) (spare : ℕ) (after next : List Symbol) → outer_expr n rest ≡ Ok ((x, spare), after) → past is_comma after ≡ Ok next → length next < length rest
exprs_smaller n rest x spare after next e p =
    let a : length after < length rest = expr_eats n rest ((x, spare), after) e in
    let b : length next < length after = past_shorter is_comma after next p in
    omega arith

-- ---- groups

-- what was read before, and what is still read and counted
abbrev pub counts_on : ℕ → List Top → ℕ → List Symbol → Reply (List Top)
counts_on n found last rest = with_front found (counting (length found) last (row is_close_paren (const_spec_at n) rest))

-- the next specification, declared
abbrev pub next_of : List Top → ℕ → Written → Top
next_of found last w = constants w (length found) (source_of w.values (length found) last)

count_opens : (n : ℕ) (found : List Top) (last : ℕ) (rest : List Symbol)
    → counts_on n found last rest ≡ with_front found (counting (length found) last (series_by (rows is_close_paren) (const_spec_at n) (row is_close_paren (const_spec_at n)) rest))
count_opens n found last rest = ap (λ (r : Reply (List Written)). with_front found (counting (length found) last r)) (row_is is_close_paren (const_spec_at n) (const_eats n) rest)

count_regroup : (found : List Top) (last : ℕ) (w : Written) (read : Reply (List Written))
    → with_front found (counting (length found) last (read >>= λ ws. Ok (w ∷ ws.0, ws.1))) ≡ with_front (found ++ next_of found last w ∷ []) (counting (length (found ++ next_of found last w ∷ [])) (source_of w.values (length found) last) read)
count_regroup found last w (Ok z) =
    let e : length (found ++ next_of found last w ∷ []) ≡ suc (length found) = rw (length-append {A = Top}) (omega arith) in
    rw e (ap (λ (xs : List Top). Ok (xs, z.1)) (simp append_assoc))
count_regroup found last w (Err f) = refl

pub count_closed : (n : ℕ) (found : List Top) (last : ℕ) (rest after : List Symbol) (total : Reply (List Top)) → past is_close_paren rest ≡ Ok after → counts_on n found last rest ≡ total → total ≡ Ok (found, after)
count_closed n found last rest after total e so =
    let here : with_front found (counting (length found) last (series_by (rows is_close_paren) (const_spec_at n) (row is_close_paren (const_spec_at n)) rest)) ≡ Ok (found, after) = rw e (ap (λ (xs : List Top). Ok (xs, after)) (append-nil found)) in
    sym so ∙ count_opens n found last rest ∙ here

count_fails : (n : ℕ) (found : List Top) (last : ℕ) (rest : List Symbol) (g f : Fault) (total : Reply (List Top)) → past is_close_paren rest ≡ Err g → const_spec_at n rest ≡ Err f → counts_on n found last rest ≡ total → total ≡ Err f
count_fails n found last rest g f total e h so =
    let here : with_front found (counting (length found) last (series_by (rows is_close_paren) (const_spec_at n) (row is_close_paren (const_spec_at n)) rest)) ≡ Err f = rw (e, h) refl in
    sym so ∙ count_opens n found last rest ∙ here

pub count_stops : (n : ℕ) (found : List Top) (last : ℕ) (rest : List Symbol) (g : Fault) (s : Stop) (total : Reply (List Top)) → past is_close_paren rest ≡ Err g → Fails s (const_spec_at n rest) → counts_on n found last rest ≡ total → Fails s total
count_stops n found last rest g stop.OutOfMemory total e h so = tt
count_stops n found last rest g (stop.At f) total e h so = count_fails n found last rest g f total e h so

pub count_last : (n : ℕ) (found : List Top) (last : ℕ) (rest : List Symbol) (g : Fault) (w : Written) (us after : List Symbol) (total : Reply (List Top)) → past is_close_paren rest ≡ Err g → const_spec_at n rest ≡ Ok (w, us)
    → past is_close_paren us ≡ Ok after → counts_on n found last rest ≡ total → total ≡ Ok (found ++ next_of found last w ∷ [], after)
count_last n found last rest g w us after total e h p so =
    let here : with_front found (counting (length found) last (series_by (rows is_close_paren) (const_spec_at n) (row is_close_paren (const_spec_at n)) rest)) ≡ Ok (found ++ next_of found last w ∷ [], after) = rw (e, h, p) refl in
    sym so ∙ count_opens n found last rest ∙ here

pub count_stuck : (n : ℕ) (found : List Top) (last : ℕ) (rest : List Symbol) (g : Fault) (w : Written) (us : List Symbol) (d f : Fault) (total : Reply (List Top)) → past is_close_paren rest ≡ Err g → const_spec_at n rest ≡ Ok (w, us)
    → past is_close_paren us ≡ Err d → past is_semicolon us ≡ Err f → counts_on n found last rest ≡ total → total ≡ Err f
count_stuck n found last rest g w us d f total e h p q so =
    let here : with_front found (counting (length found) last (series_by (rows is_close_paren) (const_spec_at n) (row is_close_paren (const_spec_at n)) rest)) ≡ Err f = rw (e, h, p, q) refl in
    sym so ∙ count_opens n found last rest ∙ here

pub count_more : (n : ℕ) (found : List Top) (last : ℕ) (rest : List Symbol) (g : Fault) (w : Written) (us vs : List Symbol) (d : Fault) (total : Reply (List Top)) → past is_close_paren rest ≡ Err g → const_spec_at n rest ≡ Ok (w, us)
    → past is_close_paren us ≡ Err d → past is_semicolon us ≡ Ok vs → counts_on n found last rest ≡ total → counts_on n (found ++ next_of found last w ∷ []) (source_of w.values (length found) last) vs ≡ total
count_more n found last rest g w us vs d total e h p q so =
    let here : with_front found (counting (length found) last (series_by (rows is_close_paren) (const_spec_at n) (row is_close_paren (const_spec_at n)) rest)) ≡ counts_on n (found ++ next_of found last w ∷ []) (source_of w.values (length found) last) vs =
    rw (e, h, p, q) (count_regroup found last w (row is_close_paren (const_spec_at n) vs)) in
    sym here ∙ sym (count_opens n found last rest) ∙ so
