-- The turns of the loop that reads names.
use Rattle.std.proofs.Common.{◌≡◌, ◌<◌, List, [], ◌∷◌, ◌++◌, length, Ok, Err, refl, sym, ap, ◌∙◌, arith}
use Rattle.go_expr_syntax.specs.declared.symbols.Symbol.{Symbol}
use Rattle.go_expr_syntax.specs.declared.symbols.Symbol.TheVariants as t
use Rattle.go_expr_syntax.specs.declared.symbols.Ident.{Ident}
use Rattle.go_expr_syntax.specs.declared.faults.Fault.{Fault}
use Rattle.go_expr_syntax.specs.Reading.{Reply, ◌>>=◌, past, is_comma}
use Rattle.go_expr_syntax.specs.Names.{ident_at, names_end, names_at}
use Rattle.go_expr_syntax.proofs.Rows.{past_shorter}
use Rattle.go_expr_syntax.proofs.NameReads.{after_ident}
use Rattle.go_expr_syntax.proofs.Turns.{with_front, regroup}

abbrev by_ident : List Symbol → Reply (List Ident)
by_ident ts = ident_at ts >>= λ i. names_end names_at i.0 i.1

names_step : (ts : List Symbol) → names_at ts ≡ by_ident ts
names_step [] = refl
names_step (t.Ident i ∷ ts) = after_ident i ts
names_step (k ∷ ts) = refl

pub names_fail : (found : List Ident) (rest : List Symbol) (f : Fault) (total : Reply (List Ident)) → ident_at rest ≡ Err f → with_front found (names_at rest) ≡ total → total ≡ Err f
names_fail found rest f total e so =
    let here : with_front found (by_ident rest) ≡ Err f = rw e refl in
    sym so ∙ ap (with_front found) (names_step rest) ∙ here

pub names_done : (found : List Ident) (rest : List Symbol) (i : Ident) (after : List Symbol) (f : Fault) (total : Reply (List Ident)) → ident_at rest ≡ Ok (i, after) → past is_comma after ≡ Err f → with_front found (names_at rest) ≡ total
    → total ≡ Ok (found ++ i ∷ [], after)
names_done found rest i after f total e p so =
    let here : with_front found (by_ident rest) ≡ Ok (found ++ i ∷ [], after) = rw (e, p) refl in
    sym so ∙ ap (with_front found) (names_step rest) ∙ here

pub names_go : (found : List Ident) (rest : List Symbol) (i : Ident) (after next : List Symbol) (total : Reply (List Ident)) → ident_at rest ≡ Ok (i, after) → past is_comma after ≡ Ok next → with_front found (names_at rest) ≡ total
    → with_front (found ++ i ∷ []) (names_at next) ≡ total
names_go found rest i after next total e p so =
    let here : with_front found (by_ident rest) ≡ with_front (found ++ i ∷ []) (names_at next) = rw (e, p) (regroup found i (names_at next)) in
    sym here ∙ sym (ap (with_front found) (names_step rest)) ∙ so

abbrev pub read : Ident → List Symbol → Reply Ident
read i ts = Ok (i, ts)

abbrev rest_of : List Symbol → Reply Ident → List Symbol
rest_of ts (Ok z) = z.1
rest_of ts (Err f) = ts

pub ok_rest : (j i : Ident) (ts after : List Symbol) → read j ts ≡ read i after → ts ≡ after
ok_rest j i ts after e = ap (rest_of ts) e

ident_shorter : (ts : List Symbol) (i : Ident) (after : List Symbol) → ident_at ts ≡ Ok (i, after) → length after < length ts
ident_shorter [] i after e = absurd cc
ident_shorter (t.Ident j ∷ ts) i after e = let same : ts ≡ after = ok_rest j i ts after e in rw (sym same) (omega arith)
ident_shorter (k ∷ ts) i after e = absurd cc

pub names_smaller : (rest : List Symbol) (i : Ident) (after next : List Symbol) → ident_at rest ≡ Ok (i, after) → past is_comma after ≡ Ok next → length next < length rest
names_smaller rest i after next e p =
    let a : length after < length rest = ident_shorter rest i after e in
    let b : length next < length after = past_shorter is_comma after next p in
    omega arith
