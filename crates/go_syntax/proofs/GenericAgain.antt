-- Type parameters that are written are read again.
use Rattle.std.proofs.Common.{◌≡◌, ℕ, ◌≤◌, max, true, false, List, [], ◌∷◌, Some, Ok, Err, refl, sym, ◌∙◌, arith}
use Rattle.go_expr_syntax.specs.declared.symbols.Operator.{Operator}
use Rattle.go_expr_syntax.specs.declared.symbols.Symbol.{Symbol}
use Rattle.go_expr_syntax.specs.declared.symbols.Symbol.TheVariants as t
use Rattle.go_expr_syntax.specs.declared.symbols.Ident.{Ident}
use Rattle.go_expr_syntax.specs.declared.faults.Fault.TheVariants.{Unexpected, Deep, DotImport, Call}
use Rattle.go_syntax.specs.declared.tree.TParam.{TParam}
use Rattle.go_type_syntax.specs.declared.tree.TypeExpr.{TypeExpr}
use Rattle.go_type_syntax.specs.declared.tree.TermExpr.{TermExpr}
use Rattle.go_expr_syntax.specs.declared.expressions.Operand.{Operand}
use Rattle.go_expr_syntax.specs.Reading.{Reply, starts, is_ident, is_comma, is_bar, is_open_bracket, is_close_bracket, series, start_of}
use Rattle.go_expr_syntax.specs.Names as names_of
use Rattle.go_expr_syntax.specs.Names.{IsNames, own, of_package}
use Rattle.go_expr_syntax.specs.Expressions as x
use Rattle.go_expr_syntax.specs.Expressions.{between_of, IsExpr}
use Rattle.go_type_syntax.specs.Grammar as g
use Rattle.go_type_syntax.specs.Grammar.{IsType, IsTerm, IsUnion}
use Rattle.go_type_syntax.specs.Elements.{union_at}
use Rattle.go_type_syntax.specs.Types.{type_at, lower_at}
use Rattle.go_syntax.specs.Generics as q
use Rattle.go_syntax.specs.Generics.{tparam, IsTParam, IsTParams, IsGeneric, opens_params, tparam_type, tparam_more, tparam_at, tparams, tparams_at, generic_at, constraint_at}
use Rattle.go_expr_syntax.specs.Reading.{shows_length}
use Rattle.go_expr_syntax.proofs.Rows.{series_is}
use Rattle.go_expr_syntax.proofs.Agreeing.{Agrees, agrees_bind, agrees_from, sized, choose_other, names_again, series_opens, series_none, series_once, series_twice, told_again}
use Rattle.go_type_syntax.proofs.Follows.{Free, no_comma, type_begins}
use Rattle.go_type_syntax.proofs.TypeAgain.{union_again}
use Rattle.go_syntax.proofs.GenericReads.{tparam_eats, tparam_no_close}

-- a part that is no deeper doesn't matter
pub agrees_more : {X : Type 0} (n m j : ℕ) (z : X) (rest : List Symbol) (r : Reply X) → m ≤ n → Agrees n j z rest r → Agrees n (max m j) z rest r
agrees_more n m j z rest (Ok y) le h = (h.0, h.1, omega (arith, h.2))
agrees_more n m j z rest (Err (Deep k began)) le h = omega (arith, h)
agrees_more n m j z rest (Err (Unexpected k)) le h = absurd h
agrees_more n m j z rest (Err (DotImport k)) le h = absurd h
agrees_more n m j z rest (Err (Call k at)) le h = absurd h

-- ---- constraints

term_no_comma : (m : ℕ) (ts : List Symbol) (z : TermExpr) (rest : List Symbol) → IsTerm m ts z rest → starts is_comma ts ≡ false
term_no_comma m ts z rest (g.exactly n us ty r a) = no_comma us (type_begins n us ty r a)
term_no_comma m ts z rest (g.approximately n at us ty r a) = refl

union_no_comma : (m : ℕ) (ts : List Symbol) (ty : TypeExpr) (rest : List Symbol) → IsUnion m ts ty rest → starts is_comma ts ≡ false
union_no_comma m ts ty rest (g.alone n us z r a) = no_comma us (type_begins n us z r a)
union_no_comma m ts ty rest (g.approximate n at us z r a) = refl
union_no_comma m ts ty rest (g.several k n b us vs z zs r a c) = term_no_comma k us z (t.Bar b ∷ vs) a

tparam_is : (n : ℕ) (i : Ident) (names : List Ident) (ts us : List Symbol) → IsNames ts (i ∷ names) us → starts is_comma us ≡ false → tparam_at n ts ≡ tparam_type n (i ∷ names) i.start us
tparam_is n i names ts us (names_of.one j r) e = choose_other is_comma us (tparam_more n i) (tparam_type n (i ∷ []) i.start us) e
tparam_is n i names ts us (names_of.more j c vs ns r w) e = rw (names_again vs names us w e) refl

tparam_again : (n m : ℕ) (ts : List Symbol) (z : TParam) (rest : List Symbol) → IsTParam m ts z rest → starts is_bar rest ≡ false → Free rest → Agrees n m z rest (tparam_at n ts)
tparam_again n m ts z rest (q.constrained j us i names vs ty r a w) b free =
    rw (tparam_is n i names us vs a (union_no_comma j vs ty r w))
    (agrees_bind n j (sized n j ty) r n j (tparam (i ∷ names) ty i.start) r (constraint_at n vs) (λ y ws. Ok (tparam (i ∷ names) y.0 i.start, ws)) (told_again n j (sized n j ty) r (start_of vs) (union_at n (type_at n) (lower_at n) vs) (union_again j vs ty r w b free n)) (λ d. d) (λ f. (refl, refl, f)))

-- ---- lists of type parameters

tparams_again : (n m : ℕ) (ts : List Symbol) (zs : List TParam) (rest : List Symbol) → IsTParams m ts zs rest → Agrees n m zs rest (series tparams (tparam_at n) ts)
tparams_again n m ts zs rest (q.no_tparam c r) = series_none tparams (tparam_at n) (tparam_eats n) n (t.CloseBracket c) r refl
tparams_again n m ts zs rest (q.last_tparam j c us z r a) =
    series_once tparams (tparam_at n) (tparam_eats n) n j us z (t.CloseBracket c) r (tparam_no_close j us z (t.CloseBracket c ∷ r) a) refl (tparam_again n j us z (t.CloseBracket c ∷ r) a refl refl)
tparams_again n m ts zs rest (q.more_tparams i j s us vs z ys r a b) =
    series_twice tparams (tparam_at n) (tparam_eats n) n i j us z (t.Comma s) vs ys r (tparam_no_close i us z (t.Comma s ∷ vs) a) refl refl refl (tparam_again n i us z (t.Comma s ∷ vs) a refl refl) (tparams_again n j vs ys r b)

pub some_again : (n m : ℕ) (ts : List Symbol) (zs : List TParam) (rest : List Symbol) → starts is_close_bracket ts ≡ false → IsTParams m ts zs rest → Agrees n m zs rest (tparams_at n ts)
some_again n m ts zs rest s w =
    agrees_from n m zs rest (series tparams (tparam_at n) ts) (tparams_at n ts) (sym (series_opens tparams (tparam_at n) (series tparams (tparam_at n)) ts s) ∙ sym (series_is tparams (tparam_at n) (tparam_eats n) ts)) (tparams_again n m ts zs rest w)

pub generic_again : (n m : ℕ) (ts : List Symbol) (zs : List TParam) (rest : List Symbol) → IsGeneric m ts zs rest → starts is_open_bracket rest ≡ false → Agrees n m zs rest (generic_at n ts)
generic_again n m ts zs rest (q.plain r) e = agrees_from n 0 [] r (Ok ([], r)) (generic_at n r) (choose_other is_open_bracket r (tparams_at n) (Ok ([], r)) e) (refl, refl, omega arith)
generic_again n m ts zs rest (q.with_params j o us ys r s w) e = some_again n j us ys r s w

-- ---- an array opens no type parameters

abbrev behind : List Symbol → List Symbol
behind [] = []
behind (k ∷ ts) = ts

between_shows : (k : Symbol) (op : Operator) → between_of k ≡ Some op → shows_length k ≡ true
between_shows (t.Star at) op e = refl
between_shows (t.Bar at) op e = refl
between_shows (t.Operator o at) op e = refl
between_shows _ op e = absurd cc

expr_shows : (l m : ℕ) (ts : List Symbol) (z : Operand) (rest : List Symbol) → IsExpr l m ts z rest → starts shows_length rest ≡ true → starts is_ident ts ≡ true → starts shows_length (behind ts) ≡ true
expr_shows l m ts z rest (x.a_literal token r) s e = absurd cc
expr_shows l m ts z rest (x.a_text span r) s e = absurd cc
expr_shows l m ts z rest (x.a_name us y r (own i r')) s e = s
expr_shows l m ts z rest (x.a_name us y r (of_package p d i r')) s e = refl
expr_shows l m ts z rest (x.a_conversion n us y at vs w c r (own i r') v) s e = refl
expr_shows l m ts z rest (x.a_conversion n us y at vs w c r (of_package p d i r') v) s e = refl
expr_shows l m ts z rest (x.in_parens n at us y c r w) s e = absurd cc
expr_shows l m ts z rest (x.after_sign n op at us y r u w) s e = absurd cc
expr_shows l m ts z rest (x.alone j n us y r w) s e = expr_shows j n us y r w s e
expr_shows l m ts z rest (x.joined j i n us y k op vs w r a b c d) s e = expr_shows _ i us y (k ∷ vs) a (between_shows k op b) e

array_opens_none : (a : ℕ) (ts : List Symbol) → (starts is_ident ts ≡ true → starts shows_length (behind ts) ≡ true) → opens_params (t.OpenBracket a ∷ ts) ≡ false
array_opens_none a [] h = refl
array_opens_none a (t.Ident j ∷ ts) h = rw (h refl) refl
array_opens_none a (_ ∷ ts) h = refl

pub type_opens_none : (m : ℕ) (ts : List Symbol) (ty : TypeExpr) (rest : List Symbol) → IsType m ts ty rest → opens_params ts ≡ false
type_opens_none m ts ty rest (g.name n us z r (g.by_name k vs y ws args r' (own i q) a)) = refl
type_opens_none m ts ty rest (g.name n us z r (g.by_name k vs y ws args r' (of_package p d i q) a)) = refl
type_opens_none m ts ty rest (g.paren n at c us z r a) = refl
type_opens_none m ts ty rest (g.pointer n at us z r a) = refl
type_opens_none m ts ty rest (g.slice n at c us z r a) = refl
type_opens_none m ts ty rest (g.array i n at c us y vs z r a d) = array_opens_none at us (λ e. expr_shows 5 i us y (t.CloseBracket c ∷ vs) a refl e)
type_opens_none m ts ty rest (g.map_of i n at b c us key vs z r a d) = refl
type_opens_none m ts ty rest (g.both_ways n at us z r e a) = refl
type_opens_none m ts ty rest (g.send_only n at b us z r a) = refl
type_opens_none m ts ty rest (g.receive_only n at b us z r a) = refl
type_opens_none m ts ty rest (g.struct n at b us fs r a) = refl
type_opens_none m ts ty rest (g.func n at us s r a) = refl
type_opens_none m ts ty rest (g.interface n at b us es r a) = refl

pub name_opens : (a : ℕ) (j : Ident) (ts : List Symbol) → starts shows_length ts ≡ false → opens_params (t.OpenBracket a ∷ t.Ident j ∷ ts) ≡ true
name_opens a j ts s = rw s refl
