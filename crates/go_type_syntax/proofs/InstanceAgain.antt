-- A type's name with its arguments is read again, where the arguments are.
use Rattle.std.proofs.Common.{◌≡◌, ℕ, zero, suc, ◌-◌, min, max, false, List, [], ◌∷◌, Ok, refl, sym, ap, ◌∙◌, arith}
use Rattle.go_expr_syntax.specs.declared.symbols.Symbol.{Symbol}
use Rattle.go_expr_syntax.specs.declared.symbols.Symbol.TheVariants as t
use Rattle.go_expr_syntax.specs.declared.symbols.Ident.{Ident}
use Rattle.go_expr_syntax.specs.declared.tree.NameExpr.{NameExpr}
use Rattle.go_type_syntax.specs.declared.tree.TypeExpr.{TypeExpr}
use Rattle.go_expr_syntax.specs.Reading.{Reply, starts, is_open_bracket, is_close_bracket, series, Fit}
use Rattle.go_expr_syntax.specs.Names.{dotted}
use Rattle.go_type_syntax.specs.Grammar.{instance, named}
use Rattle.go_type_syntax.specs.Elements.{type_list, types_at, instance_by, args_by}
use Rattle.go_type_syntax.specs.Types.{readers, type_at}
use Rattle.go_expr_syntax.proofs.Agreeing.{Agrees, told_again, agrees_bind, agrees_as, agrees_from, sized, fit_at, choose_other, series_opens, series_none, series_once, series_twice, less_none, less_last, less_more}
use Rattle.go_type_syntax.proofs.Standing.{TypeAt, no_type_here}
use Rattle.go_expr_syntax.proofs.Rows.{Eats, eats_of, series_is}
use Rattle.go_type_syntax.proofs.TypeReads.{type_reads}
use Rattle.go_type_syntax.proofs.Misreading.{name_type}

type_eats : (n : ℕ) → Eats (type_at n)
type_eats n = eats_of TypeAt (type_at n) no_type_here (type_reads n)

abbrev pub many : ℕ → List Symbol → Reply (Fit (List TypeExpr))
many n ts = series (type_list n) (type_at n) ts

pub types_none : (n c : ℕ) (rest : List Symbol) → Agrees n 0 (sized n 0 []) rest (many n (t.CloseBracket c ∷ rest))
types_none n c rest = agrees_as n 0 (fit_at [] n) (sized n 0 []) rest (many n (t.CloseBracket c ∷ rest)) (less_none n) (series_none (type_list n) (type_at n) (type_eats n) n (t.CloseBracket c) rest refl)

pub types_last : (n m : ℕ) (ts : List Symbol) (x : TypeExpr) (c : ℕ) (rest : List Symbol) → starts is_close_bracket ts ≡ false → Agrees n m (sized n m x) (t.CloseBracket c ∷ rest) (type_at n ts) → Agrees n m (sized n m (x ∷ [])) rest (many n ts)
types_last n m ts x c rest e h =
    agrees_as n m (fit_at (x ∷ []) (min (n - m) n)) (sized n m (x ∷ [])) rest (many n ts) (less_last n m (n - m) x refl)
    (series_once (type_list n) (type_at n) (type_eats n) n m ts (sized n m x) (t.CloseBracket c) rest e refl h)

pub types_more : (n m j : ℕ) (ts : List Symbol) (x : TypeExpr) (s : ℕ) (us : List Symbol) (xs : List TypeExpr) (rest : List Symbol) → starts is_close_bracket ts ≡ false → Agrees n m (sized n m x) (t.Comma s ∷ us) (type_at n ts) → Agrees n j (sized n j xs) rest (many n us)
    → Agrees n (max m j) (sized n (max m j) (x ∷ xs)) rest (many n ts)
types_more n m j ts x s us xs rest e h g =
    agrees_as n (max m j) (fit_at (x ∷ xs) (min (n - m) (n - j))) (sized n (max m j) (x ∷ xs)) rest (many n ts) (less_more n m j (n - m) x xs refl)
    (series_twice (type_list n) (type_at n) (type_eats n) n m j ts (sized n m x) (t.Comma s) us (sized n j xs) rest e refl refl refl h g)

-- one at least
pub some_types : (n m : ℕ) (ts : List Symbol) (xs : List TypeExpr) (rest : List Symbol) → starts is_close_bracket ts ≡ false → Agrees n m (sized n m xs) rest (many n ts) → Agrees n m (sized n m xs) rest (types_at n (type_at n) ts)
some_types n m ts xs rest e h =
    agrees_from n m (sized n m xs) rest (many n ts) (types_at n (type_at n) ts) (sym (series_is (type_list n) (type_at n) (type_eats n) ts ∙ series_opens (type_list n) (type_at n) (many n) ts e)) h

pub instance_again : (l m o : ℕ) (x : NameExpr) (ts : List Symbol) (xs : List TypeExpr) (rest : List Symbol) → Agrees l m (sized l m xs) rest (types_at l (type_at l) ts)
    → Agrees (suc l) (suc m) (sized (suc l) (suc m) (instance x xs)) rest (args_by l (type_at l) x (t.OpenBracket o ∷ ts))
instance_again l m o x ts xs rest h =
    let less : l - m ≡ suc l - suc m = omega arith in
    agrees_bind l m (sized l m xs) rest (suc l) (suc m) (sized (suc l) (suc m) (instance x xs)) rest (types_at l (type_at l) ts) (λ z ws. Ok ((instance x z.0, z.1), ws)) h (λ d. omega arith)
    (λ f. (ap (fit_at (instance x xs)) less, refl, omega arith))

pub plain_again : (l : ℕ) (x : NameExpr) (rest : List Symbol) → starts is_open_bracket rest ≡ false → Agrees (suc l) 1 (sized (suc l) 1 (named x)) rest (args_by l (type_at l) x rest)
plain_again l x rest e =
    let less : l ≡ suc l - 1 = omega arith in
    rw (choose_other is_open_bracket rest (instance_by l (type_at l) x) (Ok ((named x, l), rest)) e) (ap (fit_at (named x)) less, refl, omega arith)

pub named_again : (n m : ℕ) (i : Ident) (ws : List Symbol) (x : NameExpr) (us : List Symbol) (ty : TypeExpr) (rest : List Symbol) → dotted i ws ≡ Ok (x, us) → ((l : ℕ) → Agrees (suc l) (suc m) (sized (suc l) (suc m) ty) rest (args_by l (type_at l) x us))
    → Agrees n (suc m) (sized n (suc m) ty) rest (type_at n (t.Ident i ∷ ws))
unfolding readers
named_again zero m i ws x us ty rest d h = omega arith
named_again (suc l) m i ws x us ty rest d h = rw (name_type l i ws x us d) (told_again (suc l) (suc m) (sized (suc l) (suc m) ty) rest i.start (args_by l (type_at l) x us) (h l))
