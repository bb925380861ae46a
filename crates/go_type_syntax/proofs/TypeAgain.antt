-- A type that is written is read again.
use Rattle.std.proofs.Common.{◌≡◌, ℕ, zero, suc, ◌-◌, ◌≤◌, min, max, Bool, true, false, List, [], ◌∷◌, ◌++◌, map, length, Ok, Err, refl, sym, ap, subst, ◌∙◌, arith}
use Rattle.go_expr_syntax.specs.declared.symbols.Symbol.{Symbol}
use Rattle.go_expr_syntax.specs.declared.symbols.Symbol.TheVariants as t
use Rattle.go_expr_syntax.specs.declared.symbols.Ident.{Ident}
use Rattle.go_expr_syntax.specs.declared.tree.NameExpr.{NameExpr}
use Rattle.go_type_syntax.specs.declared.tree.FieldExpr.{FieldExpr}
use Rattle.go_type_syntax.specs.declared.params.Param.{Param}
use Rattle.go_type_syntax.specs.declared.tree.ParamExpr.{ParamExpr}
use Rattle.go_type_syntax.specs.declared.tree.SigExpr.{SigExpr}
use Rattle.go_type_syntax.specs.declared.tree.TermExpr.{TermExpr}
use Rattle.go_type_syntax.specs.declared.tree.ElemExpr.{ElemExpr}
use Rattle.go_type_syntax.specs.declared.tree.ElemExpr.TheVariants as elem
use Rattle.go_type_syntax.specs.declared.tree.TypeExpr.{TypeExpr}
use Rattle.go_type_syntax.specs.declared.tree.TypeExpr.TheVariants as y
use Rattle.go_expr_syntax.specs.Reading.{Reply, ◌>>=◌, told_at, start_of, starts, begins_type, is_arrow, is_bar, is_ident, is_open_paren, is_open_bracket, is_close_bracket, is_semicolon, is_close_brace, too_deep, series_end, Fit, fits, with_fit}
use Rattle.go_expr_syntax.specs.Names.{plain, own, of_package, IsTag, none, some}
use Rattle.go_type_syntax.specs.Grammar as g
use Rattle.go_type_syntax.specs.Grammar.{named, instance, field, param, IsNamed, IsArgs, IsTypes, IsType, IsField, IsFields, IsParam, IsParams, IsSig, IsTerm, IsTerms, IsUnion, IsElem, IsElems}
use Rattle.go_type_syntax.specs.Params.{item, params_row, params_end, named_by, types_by, bare, param_at, params_from, sig_at}
use Rattle.go_expr_syntax.specs.Reading.{shows_types}
use Rattle.go_type_syntax.specs.Elements.{type_list, args_by, term_at, terms_at, union_at, elem_at, elems_at}
use Rattle.go_expr_syntax.specs.Reading.{shows_elem}
use Rattle.go_expr_syntax.specs.declared.expressions.Operand.{Operand}
use Rattle.go_expr_syntax.specs.Operands.{expr_at}
use Rattle.go_type_syntax.specs.Types.{paren_by, map_by, tagged, only_by, lone_by, with_type, paren_end, array_end, array_by, map_end, no_type, field_by, fields_at, type_by, readers, type_at, lower_at}
use Rattle.go_expr_syntax.proofs.Agreeing.{Agrees, told_again, untold, agrees_bind, agrees_as, agrees_from, sized, fit_at, choose_other, name_again, series_none, series_once, series_twice, less_none, less_last, less_more}
use Rattle.go_type_syntax.proofs.Follows.{Free, free_type, tag_again, free_dot, free_bracket, free_paren, args_no_dot, type_begins, type_opens, sig_opens, field_no_close, param_no_close, elem_no_brace, ends_field, end_free, end_no_bar, end_shown, tag_free}
use Rattle.go_type_syntax.proofs.FieldAgain.{shared_again, embedded_again, pointer_again}
use Rattle.go_type_syntax.proofs.InstanceAgain.{many, types_none, types_last, types_more, some_types, instance_again, plain_again, named_again}
use Rattle.go_type_syntax.proofs.Misreading.{Loses, Misread, ends_inner, inner_free, args_end, args_or, name_misread, paren_misread, other_misread, no_expr_at, array_then, array_loses, loses_first, loses_second, Closes, goes, ends, untyped, needed_within}
use Rattle.go_expr_syntax.specs.Either.{needed}
use Rattle.go_expr_syntax.specs.declared.faults.Fault.TheVariants.{Unexpected, Deep, DotImport, Call}
use Rattle.go_type_syntax.proofs.Standing.{TypesAt}
use Rattle.go_type_syntax.proofs.ElemReads.{many_reads}
use Rattle.go_expr_syntax.proofs.NameReads.{through_value}
use Rattle.go_type_syntax.proofs.ParamReads.{rest_reads}
use Rattle.go_type_syntax.proofs.ParamAgain as p
use Rattle.go_type_syntax.proofs.ParamAgain.{found, bare_height}
use Rattle.go_type_syntax.proofs.ElemAgain as e
use Rattle.go_expr_syntax.proofs.ExprAgain.{expr_no_bracket, expr_again}
use Rattle.go_type_syntax.proofs.TypeReads.{field_eats, type_none, type_reads}

-- ---- types, where the types inside are read again

-- where parts are read again, whatever number of nodes is allowed
abbrev Again : ℕ → List Symbol → TypeExpr → List Symbol → Type 0
Again m ts ty rest = (n : ℕ) → Agrees n m (sized n m ty) rest (type_at n ts)

-- one type more round a type
wrap_again : (n m : ℕ) (ty : TypeExpr) (rest : List Symbol) (make : TypeExpr → TypeExpr) (ts us : List Symbol) → no_type ts ≡ too_deep ts → ((l : ℕ) → type_by l (type_at l) (lower_at l) ts ≡ with_type (type_at l) make us) → Again m us ty rest
    → Agrees n (suc m) (sized n (suc m) (make ty)) rest (type_at n ts)
unfolding readers
wrap_again zero m ty rest make ts us z h a = rw z (omega arith)
wrap_again (suc n) m ty rest make ts us z h a =
    let less : n - m ≡ suc n - suc m = omega arith in
    rw (h n)
    (told_again (suc n) (suc m) (sized (suc n) (suc m) (make ty)) rest (start_of ts) (with_type (type_at n) make us)
    (agrees_bind n m (sized n m ty) rest (suc n) (suc m) (sized (suc n) (suc m) (make ty)) rest (type_at n us) (λ w vs. Ok ((make w.0, w.1), vs)) (a n) (λ d. omega arith) (λ f. (ap (fit_at (make ty)) less, refl, omega arith))))

paren_again : (n m at c : ℕ) (ts : List Symbol) (ty : TypeExpr) (rest : List Symbol) → Again m ts ty (t.CloseParen c ∷ rest) → Agrees n (suc m) (sized n (suc m) (y.Paren ty at)) rest (type_at n (t.OpenParen at ∷ ts))
unfolding readers
paren_again zero m at c ts ty rest h = omega arith
paren_again (suc n) m at c ts ty rest h =
    let less : n - m ≡ suc n - suc m = omega arith in
    told_again (suc n) (suc m) (sized (suc n) (suc m) (y.Paren ty at)) rest at (paren_by (type_at n) at ts)
    (agrees_bind n m (sized n m ty) (t.CloseParen c ∷ rest) (suc n) (suc m) (sized (suc n) (suc m) (y.Paren ty at)) rest (type_at n ts) (paren_end at) (h n) (λ d. omega arith) (λ f. (ap (fit_at (y.Paren ty at)) less, refl, omega arith)))

array_again : (n m j at c : ℕ) (ts : List Symbol) (x : Operand) (us : List Symbol) (ty : TypeExpr) (rest : List Symbol) → starts is_close_bracket ts ≡ false → ((l : ℕ) → Agrees l m (x, l - m) (t.CloseBracket c ∷ us) (expr_at l ts)) → Again j us ty rest
    → Agrees n (suc (max m j)) (sized n (suc (max m j)) (y.Array x.expr ty at)) rest (type_at n (t.OpenBracket at ∷ ts))
unfolding readers
array_again zero m j at c ts x us ty rest e h k = omega arith
array_again (suc n) m j at c ts x us ty rest e h k =
    let less : min (n - m) (n - j) ≡ suc n - suc (max m j) = omega arith in
    rw (choose_other is_close_bracket ts (with_type (type_at n) (λ z. y.Slice z at)) (array_by n (type_at n) at ts) e)
    (told_again (suc n) (suc (max m j)) (sized (suc n) (suc (max m j)) (y.Array x.expr ty at)) rest at (array_by n (type_at n) at ts)
    (agrees_bind n m (x, n - m) (t.CloseBracket c ∷ us) (suc n) (suc (max m j)) (sized (suc n) (suc (max m j)) (y.Array x.expr ty at)) rest (expr_at n ts) (array_end (type_at n) at) (h n) (λ d. omega arith)
    (λ f. agrees_bind n j (sized n j ty) rest (suc n) (suc (max m j)) (sized (suc n) (suc (max m j)) (y.Array x.expr ty at)) rest (type_at n us) (λ w vs. Ok ((y.Array x.expr w.0 at, min (n - m) w.1), vs)) (k n) (λ d. omega arith)
    (λ w. (ap (fit_at (y.Array x.expr ty at)) less, refl, omega arith)))))

map_again : (n m j at b c : ℕ) (ts : List Symbol) (key : TypeExpr) (us : List Symbol) (ty : TypeExpr) (rest : List Symbol) → Again m ts key (t.CloseBracket c ∷ us) → Again j us ty rest
    → Agrees n (suc (max m j)) (sized n (suc (max m j)) (y.MapOf key ty at)) rest (type_at n (t.Map at ∷ t.OpenBracket b ∷ ts))
unfolding readers
map_again zero m j at b c ts key us ty rest h k = omega arith
map_again (suc n) m j at b c ts key us ty rest h k =
    let less : min (n - m) (n - j) ≡ suc n - suc (max m j) = omega arith in
    told_again (suc n) (suc (max m j)) (sized (suc n) (suc (max m j)) (y.MapOf key ty at)) rest at (map_by (type_at n) at (t.OpenBracket b ∷ ts))
    (agrees_bind n m (sized n m key) (t.CloseBracket c ∷ us) (suc n) (suc (max m j)) (sized (suc n) (suc (max m j)) (y.MapOf key ty at)) rest (type_at n ts) (map_end (type_at n) at) (h n) (λ d. omega arith)
    (λ f. agrees_bind n j (sized n j ty) rest (suc n) (suc (max m j)) (sized (suc n) (suc (max m j)) (y.MapOf key ty at)) rest (type_at n us) (λ w vs. Ok ((y.MapOf key w.0 at, min (n - m) w.1), vs)) (k n) (λ d. omega arith)
    (λ w. (ap (fit_at (y.MapOf key ty at)) less, refl, omega arith))))

-- a type round a list of things
round_again : {X : Type 0} (n m : ℕ) (xs : X) (rest : List Symbol) (make : X → TypeExpr) (ts us : List Symbol) (read : ℕ → List Symbol → Reply (Fit X)) → no_type ts ≡ too_deep ts
    → ((l : ℕ) → type_by l (type_at l) (lower_at l) ts ≡ (read l us >>= λ z. Ok ((make z.0.0, z.0.1), z.1))) → ((l : ℕ) → Agrees l m (sized l m xs) rest (read l us)) → Agrees n (suc m) (sized n (suc m) (make xs)) rest (type_at n ts)
unfolding readers
round_again zero m xs rest make ts us read z h a = rw z (omega arith)
round_again (suc n) m xs rest make ts us read z h a =
    let less : n - m ≡ suc n - suc m = omega arith in
    rw (h n)
    (told_again (suc n) (suc m) (sized (suc n) (suc m) (make xs)) rest (start_of ts) (read n us >>= λ z. Ok ((make z.0.0, z.0.1), z.1))
    (agrees_bind n m (sized n m xs) rest (suc n) (suc m) (sized (suc n) (suc m) (make xs)) rest (read n us) (λ w vs. Ok ((make w.0, w.1), vs)) (a n) (λ d. omega arith) (λ f. (ap (fit_at (make xs)) less, refl, omega arith))))

-- ---- rows of fields

fields_none : (n c : ℕ) (rest : List Symbol) → Agrees n 0 (sized n 0 []) rest (fields_at n (type_at n) (t.CloseBrace c ∷ rest))
fields_none n c rest = agrees_as n 0 (fit_at [] n) (sized n 0 []) rest (fields_at n (type_at n) (t.CloseBrace c ∷ rest)) (less_none n) (series_none (fits n is_semicolon is_close_brace) (field_by n (type_at n)) (field_eats n) n (t.CloseBrace c) rest refl)

fields_last : (n m : ℕ) (ts : List Symbol) (x : FieldExpr) (c : ℕ) (rest : List Symbol) → starts is_close_brace ts ≡ false → Agrees n m (sized n m x) (t.CloseBrace c ∷ rest) (field_by n (type_at n) ts) → Agrees n m (sized n m (x ∷ [])) rest (fields_at n (type_at n) ts)
fields_last n m ts x c rest e h =
    agrees_as n m (fit_at (x ∷ []) (min (n - m) n)) (sized n m (x ∷ [])) rest (fields_at n (type_at n) ts) (less_last n m (n - m) x refl)
    (series_once (fits n is_semicolon is_close_brace) (field_by n (type_at n)) (field_eats n) n m ts (sized n m x) (t.CloseBrace c) rest e refl h)

fields_more : (n m j : ℕ) (ts : List Symbol) (x : FieldExpr) (s : ℕ) (us : List Symbol) (xs : List FieldExpr) (rest : List Symbol) → starts is_close_brace ts ≡ false → Agrees n m (sized n m x) (t.Semicolon s ∷ us) (field_by n (type_at n) ts)
    → Agrees n j (sized n j xs) rest (fields_at n (type_at n) us) → Agrees n (max m j) (sized n (max m j) (x ∷ xs)) rest (fields_at n (type_at n) ts)
fields_more n m j ts x s us xs rest e h g =
    agrees_as n (max m j) (fit_at (x ∷ xs) (min (n - m) (n - j))) (sized n (max m j) (x ∷ xs)) rest (fields_at n (type_at n) ts) (less_more n m j (n - m) x xs refl)
    (series_twice (fits n is_semicolon is_close_brace) (field_by n (type_at n)) (field_eats n) n m j ts (sized n m x) (t.Semicolon s) us (sized n j xs) rest e refl refl refl h g)

-- ---- how a type begins

data Opening : ℕ → List Symbol → TypeExpr → List Symbol → Type 0 where
  lone : (i : Ident) (rest : List Symbol) → Opening 1 (t.Ident i ∷ rest) (named (plain i)) rest
  of_other : (m : ℕ) (q : Ident) (d : ℕ) (us : List Symbol) (ty : TypeExpr) (rest : List Symbol) → 1 ≤ m → Opening m (t.Ident q ∷ t.Dot d ∷ us) ty rest
  generic : (m : ℕ) (i : Ident) (o : ℕ) (us : List Symbol) (ty : TypeExpr) (rest : List Symbol) → 1 ≤ m → Opening m (t.Ident i ∷ t.OpenBracket o ∷ us) ty rest
  otherwise : (m : ℕ) (ts : List Symbol) (ty : TypeExpr) (rest : List Symbol) → starts is_ident ts ≡ false → starts begins_type ts ≡ true → Opening m ts ty rest

opening : (m : ℕ) (ts : List Symbol) (ty : TypeExpr) (rest : List Symbol) → IsType m ts ty rest → Opening m ts ty rest
opening m ts ty rest (g.name n us z r (g.by_name k vs x ws args r' (own i q) (g.no_args r''))) = lone i r
opening m ts ty rest (g.name n us z r (g.by_name k vs x ws args r' (own i q) (g.some_args j o ps xs r'' e b))) = generic _ i o ps _ r (omega arith)
opening m ts ty rest (g.name n us z r (g.by_name k vs x ws args r' (of_package q d i q') a)) = of_other _ q d _ _ r (omega arith)
opening m ts ty rest (g.paren n at c us z r a) = otherwise _ _ _ _ refl refl
opening m ts ty rest (g.pointer n at us z r a) = otherwise _ _ _ _ refl refl
opening m ts ty rest (g.slice n at c us z r a) = otherwise _ _ _ _ refl refl
opening m ts ty rest (g.array i n at c us x vs z r a d) = otherwise _ _ _ _ refl refl
opening m ts ty rest (g.map_of i n at b c us key vs z r a d) = otherwise _ _ _ _ refl refl
opening m ts ty rest (g.both_ways n at us z r s a) = otherwise _ _ _ _ refl refl
opening m ts ty rest (g.send_only n at b us z r a) = otherwise _ _ _ _ refl refl
opening m ts ty rest (g.receive_only n at b us z r a) = otherwise _ _ _ _ refl refl
opening m ts ty rest (g.struct n at b us fs r a) = otherwise _ _ _ _ refl refl
opening m ts ty rest (g.func n at us s r a) = otherwise _ _ _ _ refl refl
opening m ts ty rest (g.interface n at b us es r a) = otherwise _ _ _ _ refl refl

tall : (m : ℕ) (ts : List Symbol) (ty : TypeExpr) (rest : List Symbol) → IsType m ts ty rest → 1 ≤ m
tall m ts ty rest (g.name n us z r (g.by_name k vs x ws args r' a b)) = omega arith
tall m ts ty rest (g.paren n at c us z r a) = omega arith
tall m ts ty rest (g.pointer n at us z r a) = omega arith
tall m ts ty rest (g.slice n at c us z r a) = omega arith
tall m ts ty rest (g.array i n at c us x vs z r a d) = omega arith
tall m ts ty rest (g.map_of i n at b c us key vs z r a d) = omega arith
tall m ts ty rest (g.both_ways n at us z r s a) = omega arith
tall m ts ty rest (g.send_only n at b us z r a) = omega arith
tall m ts ty rest (g.receive_only n at b us z r a) = omega arith
tall m ts ty rest (g.struct n at b us fs r a) = omega arith
tall m ts ty rest (g.func n at us s r a) = omega arith
tall m ts ty rest (g.interface n at b us es r a) = omega arith

-- ---- parameters that are types, where rows are read again

-- where the whole is behind these identifiers
abbrev Behinds : Bool → ℕ → List Ident → ℕ → List Symbol → List ParamExpr → List Symbol → Type 0
Behinds v n names m ts xs rest = Agrees n (max (bare_height names) m) (sized n (max (bare_height names) m) (map bare names ++ xs)) rest (params_from v n (type_at n) names ts)

shows_close : (v : Bool) (c : ℕ) → shows_types v (t.CloseParen c) ≡ true
shows_close true c = refl
shows_close false c = refl

row_behind : (v : Bool) (n m : ℕ) (names : List Ident) (ts : List Symbol) (xs : List ParamExpr) (rest : List Symbol) → starts is_ident ts ≡ false → starts (shows_types v) ts ≡ true → Agrees n m (sized n m xs) rest (params_row false v n (type_at n) ts)
    → Behinds v n names m ts xs rest
row_behind v n m names ts xs rest i s h =
    agrees_from n (max (bare_height names) m) (sized n (max (bare_height names) m) (map bare names ++ xs)) rest _ (params_from v n (type_at n) names ts) (p.from_other v n (type_at n) names ts i) (p.after_again v n m names ts xs rest s h)

none_behind : (v : Bool) (n m : ℕ) (ts : List Symbol) (xs : List ParamExpr) (rest : List Symbol) → Behinds v n [] m ts xs rest → Agrees n m (sized n m xs) rest (params_from v n (type_at n) [] ts)
none_behind v n m ts xs rest h = let o : max 0 m ≡ m = omega arith in subst (λ j. Agrees n j (sized n j xs) rest (params_from v n (type_at n) [] ts)) o h

begins_shown : (v : Bool) (ts : List Symbol) → starts begins_type ts ≡ true → starts (shows_types v) ts ≡ true
begins_shown v [] e = e
begins_shown v (k ∷ ts) e = p.shows_so v k e

-- where the reading of the first one as a name loses
abbrev NameLoses : Bool → ℕ → List Ident → List Symbol → Type 0
NameLoses v n names ts = (i : Ident) (o : ℕ) (us : List Symbol) → ts ≡ t.Ident i ∷ t.OpenBracket o ∷ us → Loses (named_by v n (type_at n) names i (t.OpenBracket o ∷ us)) (types_by v n (type_at n) names i (t.OpenBracket o ∷ us))

last_types : (v : Bool) (n m c : ℕ) (names : List Ident) (ts : List Symbol) (ty : TypeExpr) (start : ℕ) (rest : List Symbol) → Opening m ts ty (t.CloseParen c ∷ rest) → start ≡ start_of ts → Agrees n m (sized n m ty) (t.CloseParen c ∷ rest) (type_at n ts)
    → Agrees n m (sized n m (param [] false ty start ∷ [])) rest (params_row false v n (type_at n) ts) → NameLoses v n names ts → Behinds v n names m ts (param [] false ty start ∷ []) rest
last_types v n m c names ts ty start rest (lone i r) e a h loses =
    rw e (p.types_again v n 1 1 names i (t.CloseParen c ∷ rest) (named (plain i)) (t.CloseParen c ∷ rest) (param [] false (named (plain i)) i.start ∷ []) rest refl (omega arith) (omega arith) a (λ le. p.rest_last false v n 1 false (param [] false (named (plain i)) i.start) c rest le))
last_types v n m c names ts ty start rest (of_other k q d us z r one) e a h loses =
    rw e (p.types_again v n k k names q (t.Dot d ∷ us) z (t.CloseParen c ∷ rest) (param [] false z q.start ∷ []) rest refl one (omega arith) a (λ le. p.rest_last false v n k false (param [] false z q.start) c rest le))
last_types v n m c names ts ty start rest (generic k i o us z r one) e a h loses =
    rw e (p.bracket_again v n k k names i o us z (t.CloseParen c ∷ rest) (param [] false z i.start ∷ []) rest one (omega arith) a (λ le. p.rest_last false v n k false (param [] false z i.start) c rest le) (loses i o us refl))
last_types v n m c names ts ty start rest (otherwise j us z r i b) e a h loses = row_behind v n m names ts (param [] false ty start ∷ []) rest i (begins_shown v ts b) h

more_types : (v : Bool) (n m j s : ℕ) (names : List Ident) (ts us : List Symbol) (ty : TypeExpr) (start : ℕ) (xs : List ParamExpr) (rest : List Symbol) → Opening m ts ty (t.Comma s ∷ us) → start ≡ start_of ts → Agrees n m (sized n m ty) (t.Comma s ∷ us) (type_at n ts)
    → ((i : Ident) → Behinds v n (names ++ i ∷ []) j us xs rest) → Agrees n j (sized n j xs) rest (params_row false v n (type_at n) us) → Agrees n (max m j) (sized n (max m j) (param [] false ty start ∷ xs)) rest (params_row false v n (type_at n) ts)
    → NameLoses v n names ts → Behinds v n names (max m j) ts (param [] false ty start ∷ xs) rest
more_types v n m j s names ts us ty start xs rest (lone i r) e a later row whole loses = rw e (p.bare_again n j names i xs rest (params_from v n (type_at n) (names ++ i ∷ []) us) (later i))
more_types v n m j s names ts us ty start xs rest (of_other k q d ws z r one) e a later row whole loses =
    rw e (p.types_again v n k (max k j) names q (t.Dot d ∷ ws) z (t.Comma s ∷ us) (param [] false z q.start ∷ xs) rest refl one (omega arith) a (λ le. p.rest_more false v n k j (param [] false z q.start) s us xs rest le row))
more_types v n m j s names ts us ty start xs rest (generic k i o ws z r one) e a later row whole loses =
    rw e (p.bracket_again v n k (max k j) names i o ws z (t.Comma s ∷ us) (param [] false z i.start ∷ xs) rest one (omega arith) a (λ le. p.rest_more false v n k j (param [] false z i.start) s us xs rest le row) (loses i o ws refl))
more_types v n m j s names ts us ty start xs rest (otherwise k vs z r i b) e a later row whole loses = row_behind v n (max m j) names ts (param [] false ty start ∷ xs) rest i (begins_shown v ts b) whole

-- ---- embedded types, where unions are read again

-- what stands after an identifier that begins a union
record Followed (m : ℕ) (us : List Symbol) : Type 0 where
  no_paren : starts is_open_paren us ≡ false
  shown : starts shows_elem us ≡ true
  some : 1 ≤ m

type_followed : (m : ℕ) (i : Ident) (us : List Symbol) (ty : TypeExpr) (rest : List Symbol) → IsType m (t.Ident i ∷ us) ty rest → starts is_open_paren rest ≡ false → starts shows_elem rest ≡ true → Followed m us
type_followed m i us ty rest (g.name n ts z r (g.by_name k vs x ws args r' (own j q) (g.no_args r''))) o s = record { no_paren = o; shown = s; some = omega arith }
type_followed m i us ty rest (g.name n ts z r (g.by_name k vs x ws args r' (own j q) (g.some_args l p ps xs r'' e b))) o s = record { no_paren = refl; shown = refl; some = omega arith }
type_followed m i us ty rest (g.name n ts z r (g.by_name k vs x ws args r' (of_package q d j q') a)) o s = record { no_paren = refl; shown = refl; some = omega arith }

term_followed : (m j : ℕ) (i : Ident) (us : List Symbol) (x : TermExpr) (b : ℕ) (rest : List Symbol) → IsTerm m (t.Ident i ∷ us) x (t.Bar b ∷ rest) → Followed (suc (max m j)) us
term_followed m j i us x b rest (g.exactly n ts ty r a) = let w = type_followed n i us ty (t.Bar b ∷ rest) a refl refl in record { no_paren = w.no_paren; shown = w.shown; some = omega arith }

union_followed : (m : ℕ) (i : Ident) (us : List Symbol) (ty : TypeExpr) (rest : List Symbol) → IsUnion m (t.Ident i ∷ us) ty rest → starts ends_field rest ≡ true → Followed m us
union_followed m i us ty rest (g.alone n ts z r a) e = type_followed n i us z rest a (free_paren rest (end_free rest e)) (end_shown rest e)
union_followed m i us ty rest (g.several k j b ts vs x xs r a c) e = term_followed k j i us x b vs a

embeds_again : (n m : ℕ) (us : List Symbol) (ty : TypeExpr) (rest : List Symbol) → ((i : Ident) (vs : List Symbol) → us ≡ t.Ident i ∷ vs → Followed m vs) → Agrees n m (sized n m ty) rest (union_at n (type_at n) (lower_at n) us)
    → Agrees n m (sized n m (elem.Embedded ty (start_of us))) rest (elem_at n (type_at n) (lower_at n) us)
embeds_again n m [] ty rest w h = e.union_again_at n m [] ty rest h
embeds_again n m (t.Ident i ∷ us) ty rest w h = let f = w i us refl in e.ident_again n m i us ty rest f.no_paren f.shown f.some h
embeds_again n m (k ∷ us) ty rest w h = e.union_again_at n m (k ∷ us) ty rest h

-- ---- the first argument of a type, read as an expression

-- what stands behind it: more of them, or the bracket that closes
data Behind : List Symbol → List Symbol → Type 0 where
  continues : (s j : ℕ) (us : List Symbol) (xs : List TypeExpr) (rest : List Symbol) → ((l : ℕ) → Agrees l j (sized l j xs) rest (many l us)) → Behind (t.Comma s ∷ us) rest
  closed : (c : ℕ) (rest : List Symbol) → Behind (t.CloseBracket c ∷ rest) rest

data Inside : List Symbol → List Symbol → Type 0 where
  first_is : (ts rest : List Symbol) (height : ℕ) (type : TypeExpr) (behind : List Symbol) → starts is_close_bracket ts ≡ false → Behind behind rest
      → ((l : ℕ) → Agrees l height (sized l height type) behind (type_at l ts)) → ((l : ℕ) → Misread (expr_at l ts) (type_at l ts)) → Inside ts rest

-- where a bracket follows the identifier that begins a type
abbrev Insides : List Symbol → List Symbol → Type 0
Insides ts rest = (i : Ident) (o : ℕ) (ws : List Symbol) → ts ≡ t.Ident i ∷ t.OpenBracket o ∷ ws → starts is_open_bracket rest ≡ false → Inside ws rest

no_inside : (ts rest : List Symbol) → starts is_ident ts ≡ false → Insides ts rest
no_inside ts rest e i o ws same f = let d : starts is_ident (t.Ident i ∷ t.OpenBracket o ∷ ws) ≡ false = subst (λ (ps : List Symbol). starts is_ident ps ≡ false) same e in absurd cc

bracket_first : (r : List Symbol) (o : ℕ) (ws : List Symbol) → r ≡ t.OpenBracket o ∷ ws → starts is_open_bracket r ≡ false → ⊥
bracket_first r o ws e f = let d : starts is_open_bracket (t.OpenBracket o ∷ ws) ≡ false = subst (λ (ps : List Symbol). starts is_open_bracket ps ≡ false) e f in absurd cc

-- an array's reading, from its bracket
only_is : (l : ℕ) (i : Ident) (o : ℕ) (ws : List Symbol) → starts is_close_bracket ws ≡ false → only_by (type_at (suc l)) i (t.OpenBracket o ∷ ws) ≡ (told_at o (array_by l (type_at l) o ws) >>= λ z. tagged (i ∷ []) z.0 i.start z.1)
unfolding readers
only_is l i o ws e = ap (λ (r : Reply (Fit TypeExpr)). told_at o r >>= λ z. tagged (i ∷ []) z.0 i.start z.1) (choose_other is_close_bracket ws (with_type (type_at l) (λ z. y.Slice z o)) (array_by l (type_at l) o ws) e)

thrice : {A B C D : Type 0} (r : Reply A) (f : A × List Symbol → Reply B) (g : B × List Symbol → Reply C) (h : C × List Symbol → Reply D) → (((r >>= f) >>= g) >>= h) ≡ (r >>= λ w. ((f w >>= g) >>= h))
thrice (Ok z) f g h = refl
thrice (Err e) f g h = refl

abbrev grown : Fit TypeExpr → Fit (List TypeExpr) × List Symbol → Reply (Fit (List TypeExpr))
grown z ys = Ok ((z.0 ∷ ys.0.0, min z.1 ys.0.1), ys.1)

abbrev made_of : Ident → Fit (List TypeExpr) × List Symbol → Reply (Fit TypeExpr)
made_of i args = Ok ((instance (plain i) args.0.0, args.0.1), args.1)

abbrev embedded_as : Ident → Fit TypeExpr × List Symbol → Reply (Fit FieldExpr)
embedded_as i ty = tagged [] ty.0 i.start ty.1

-- after the first argument of an embedded type
abbrev field_more : ℕ → Ident → Fit TypeExpr → List Symbol → Reply (Fit FieldExpr)
field_more l i w r = (series_end (type_list l) (many l) w r >>= made_of i) >>= embedded_as i

-- a type with arguments, from the bracket
abbrev instance_is : ℕ → Ident → List Symbol → Reply (Fit TypeExpr)
instance_is l i ws = (type_at l ws >>= λ w. series_end (type_list l) (many l) w.0 w.1) >>= made_of i

lone_is : (l : ℕ) (i : Ident) (o : ℕ) (ws : List Symbol) → lone_by (suc l) (type_at (suc l)) i (t.OpenBracket o ∷ ws) ≡ (told_at i.start (instance_is l i ws) >>= embedded_as i)
unfolding readers
lone_is l i o ws = refl

lone_more : (l : ℕ) (i : Ident) (ws : List Symbol) → (instance_is l i ws >>= embedded_as i) ≡ (type_at l ws >>= λ w. field_more l i w.0 w.1)
lone_more l i ws = thrice (type_at l ws) (λ w. series_end (type_list l) (many l) w.0 w.1) (made_of i) (embedded_as i)

tag_shorter : (us : List Symbol) (tag : List ℕ) (rest : List Symbol) → IsTag us tag rest → length rest ≤ length us
tag_shorter us tag rest (none r) = omega arith
tag_shorter us tag rest (some s r) = omega arith

-- the rest of an embedded type, after more arguments
abbrev field_rest : Fit TypeExpr → Ident → ℕ → Reply (Fit (List TypeExpr)) → Reply (Fit FieldExpr)
field_rest z i l reply = ((reply >>= grown z) >>= made_of i) >>= embedded_as i

rest_needs : (l j : ℕ) (i : Ident) (z : Fit TypeExpr) (vs us : List Symbol) (xs : List TypeExpr) (tag : List ℕ) (rest : List Symbol) (reply : Reply (Fit (List TypeExpr))) → Agrees l j (sized l j xs) us reply → needed reply ≤ length vs → IsTag us tag rest → starts ends_field rest ≡ true
    → needed (field_rest z i l reply) ≤ length vs
rest_needs l j i z vs us xs tag rest (Ok w) a le t e =
    let same : length w.1 ≡ length us = ap length a.1 in
    let short = tag_shorter us tag rest t in
    rw (a.1, tag_again us tag rest t e) (omega (arith, same, short, le))
rest_needs l j i z vs us xs tag rest (Err (Deep k began)) a le t e = le
rest_needs l j i z vs us xs tag rest (Err (Unexpected k)) a le t e = absurd a
rest_needs l j i z vs us xs tag rest (Err (DotImport k)) a le t e = absurd a
rest_needs l j i z vs us xs tag rest (Err (Call k at)) a le t e = absurd a

field_closes : (l : ℕ) (i : Ident) (z : Fit TypeExpr) (us : List Symbol) (tag : List ℕ) (rest behind : List Symbol) → Behind behind us → IsTag us tag rest → starts ends_field rest ≡ true → Closes (field_more l i z behind) behind
field_closes l i z us tag rest behind (closed c r) w e =
    ends c us (untyped us (free_type us (tag_free us tag rest w e))) (rw (tag_again us tag rest w e) (tag_shorter us tag rest w))
field_closes l i z us tag rest behind (continues s j vs xs r a) w e =
    let le = rest_needs l j i z vs us xs tag rest (many l vs) (a l) (needed_within TypesAt (many l) vs l j (sized l j xs) us (many l vs) (many_reads l (type_at l) (type_reads l) vs) (a l)) w e in
    goes s vs (omega (arith, le))

field_loses : (n m : ℕ) (i : Ident) (o : ℕ) (ws : List Symbol) (ty : TypeExpr) (us : List Symbol) (tag : List ℕ) (rest : List Symbol) → Inside ws us → Agrees n m (sized n m ty) us (type_at n (t.Ident i ∷ t.OpenBracket o ∷ ws)) → IsTag us tag rest → starts ends_field rest ≡ true
    → Loses (only_by (type_at n) i (t.OpenBracket o ∷ ws)) (lone_by n (type_at n) i (t.OpenBracket o ∷ ws))
field_loses zero m i o ws ty us tag rest first h w e = rw (type_none 0 (t.OpenBracket o ∷ ws) refl) tt
field_loses (suc l) m i o ws ty us tag rest (first_is ts vs height type behind opens follows again as_expr) h w e =
    rw (only_is l i o ws opens, lone_is l i o ws)
    (loses_first o (array_by l (type_at l) o ws) (λ z. tagged (i ∷ []) z.0 i.start z.1) (told_at i.start (instance_is l i ws) >>= embedded_as i)
    (loses_second (array_then l o (λ z vs. tagged (i ∷ []) z i.start vs) (expr_at l ws)) i.start (instance_is l i ws) (embedded_as i)
    (rw (lone_more l i ws)
    (array_loses l height o (sized l height type) behind (λ z vs. tagged (i ∷ []) z i.start vs) (expr_at l ws) (type_at l ws) (field_more l i) (as_expr l) (again l)
    (λ same f. field_closes l i (sized l height type) us tag rest behind follows w e)))))

-- ---- parameters before a bracket: a name loses, where a type with arguments is written

abbrev names_after : Bool → ℕ → List Symbol → Param → Reply (Fit (List ParamExpr))
names_after v n vs x = with_fit ([], n) (params_end true v n (type_at n) x vs)

-- the type of a name before a bracket
named_is : (v : Bool) (n : ℕ) (names : List Ident) (i : Ident) (o : ℕ) (us : List Symbol)
    → named_by v n (type_at n) names i (t.OpenBracket o ∷ us) ≡ (type_at n (t.OpenBracket o ∷ us) >>= λ z. names_after v n z.1 (item (names ++ i ∷ []) false z.0 (p.head_start (names ++ i ∷ []))))
named_is true n [] i o us = through_value (type_at n (t.OpenBracket o ∷ us)) (λ z. item (i ∷ []) false z i.start) (λ x vs. names_after true n vs x)
named_is false n [] i o us = through_value (type_at n (t.OpenBracket o ∷ us)) (λ z. item (i ∷ []) false z i.start) (λ x vs. names_after false n vs x)
named_is v n (j ∷ names) i o us = through_value (type_at n (t.OpenBracket o ∷ us)) (λ z. item (j ∷ names ++ i ∷ []) false z j.start) (λ x vs. names_after v n vs x)

-- an array's reading, from its bracket
named_then : (v : Bool) (l : ℕ) (names : List Ident) (i : Ident) (o : ℕ) (us : List Symbol) → starts is_close_bracket us ≡ false
    → named_by v (suc l) (type_at (suc l)) names i (t.OpenBracket o ∷ us)
    ≡ (told_at o (array_by l (type_at l) o us) >>= λ z. names_after v (suc l) z.1 (item (names ++ i ∷ []) false z.0 (p.head_start (names ++ i ∷ []))))
unfolding readers
named_then v l names i o us e =
    named_is v (suc l) names i o us
    ∙ ap (λ (r : Reply (Fit TypeExpr)). told_at o r >>= λ z. names_after v (suc l) z.1 (item (names ++ i ∷ []) false z.0 (p.head_start (names ++ i ∷ []))))
    (choose_other is_close_bracket us (with_type (type_at l) (λ z. y.Slice z o)) (array_by l (type_at l) o us) e)

-- the first type of a list, and what follows it
abbrev types_after : Bool → ℕ → List Ident → Ident → Fit TypeExpr × List Symbol → Reply (Fit (List ParamExpr))
types_after v l names i ty = with_fit (map bare names, l) (params_end false v (suc l) (type_at (suc l)) (item [] false ty.0 i.start) ty.1)

-- after the first argument of a type that is a parameter
abbrev param_more : Bool → ℕ → List Ident → Ident → Fit TypeExpr → List Symbol → Reply (Fit (List ParamExpr))
param_more v l names i w r = (series_end (type_list l) (many l) w r >>= made_of i) >>= types_after v l names i

types_is : (v : Bool) (l : ℕ) (names : List Ident) (i : Ident) (o : ℕ) (us : List Symbol)
    → types_by v (suc l) (type_at (suc l)) names i (t.OpenBracket o ∷ us) ≡ (told_at i.start (instance_is l i us) >>= types_after v l names i)
unfolding readers
types_is v l names i o us = refl

types_onward : (v : Bool) (l : ℕ) (names : List Ident) (i : Ident) (us : List Symbol) → (instance_is l i us >>= types_after v l names i) ≡ (type_at l us >>= λ w. param_more v l names i w.0 w.1)
types_onward v l names i us = thrice (type_at l us) (λ w. series_end (type_list l) (many l) w.0 w.1) (made_of i) (types_after v l names i)

-- the type of the parameter, from its first argument
made_is : (l : ℕ) (i : Ident) (o : ℕ) (us : List Symbol) (z : Fit TypeExpr) (behind : List Symbol) → type_at l us ≡ Ok (z, behind)
    → type_at (suc l) (t.Ident i ∷ t.OpenBracket o ∷ us) ≡ told_at i.start (series_end (type_list l) (many l) z behind >>= made_of i)
unfolding readers
made_is l i o us z behind e = ap (λ (r : Reply (Fit TypeExpr)). told_at i.start ((r >>= λ w. series_end (type_list l) (many l) w.0 w.1) >>= made_of i)) e

fit_needs : {Y : Type 0} (front : Fit (List Y)) (reply : Reply (Fit (List Y))) → needed (with_fit front reply) ≡ needed reply
fit_needs front (Ok z) = refl
fit_needs front (Err f) = refl

-- a parameter's type goes no further than what follows it
rest_within : (v : Bool) (l k j q : ℕ) (names : List Ident) (i : Ident) (ty : TypeExpr) (vs : List Symbol) (xs : List ParamExpr) (rest : List Symbol) (reply : Reply (Fit TypeExpr)) → Agrees (suc l) k (sized (suc l) k ty) vs reply → needed reply ≤ q
    → (k ≤ suc l → Agrees (suc l) j (sized (suc l) j xs) rest (params_end false v (suc l) (type_at (suc l)) (found (suc l) k false (param [] false ty i.start)) vs)) → needed (reply >>= types_after v l names i) ≤ q
rest_within v l k j q names i ty vs xs rest (Ok w) a le g =
    let x : Param = found (suc l) k false (param [] false ty i.start) in
    let read = params_end false v (suc l) (type_at (suc l)) x in
    let same : length w.1 ≡ length vs = ap length a.1 in
    let within : needed (read vs) ≤ length vs =
    needed_within _ read vs (suc l) j (sized (suc l) j xs) rest (read vs) (rest_reads false v (suc l) (type_at (suc l)) (type_reads (suc l)) x vs) (g a.2) in
    rw (a.0, a.1, fit_needs (map bare names, l) (read vs)) (omega (arith, same, le, within))
rest_within v l k j q names i ty vs xs rest (Err (Deep d began)) a le g = le
rest_within v l k j q names i ty vs xs rest (Err (Unexpected d)) a le g = absurd a
rest_within v l k j q names i ty vs xs rest (Err (DotImport d)) a le g = absurd a
rest_within v l k j q names i ty vs xs rest (Err (Call d at)) a le g = absurd a

grown_needs : (i : Ident) (z : Fit TypeExpr) (reply : Reply (Fit (List TypeExpr))) → needed ((reply >>= grown z) >>= made_of i) ≡ needed reply
grown_needs i z (Ok w) = refl
grown_needs i z (Err f) = refl

param_closes : (v : Bool) (l k j : ℕ) (names : List Ident) (i : Ident) (ty : TypeExpr) (z : Fit TypeExpr) (vs : List Symbol) (xs : List ParamExpr) (rest behind : List Symbol) → Behind behind vs → starts begins_type vs ≡ false
    → Agrees (suc l) k (sized (suc l) k ty) vs (series_end (type_list l) (many l) z behind >>= made_of i)
    → (k ≤ suc l → Agrees (suc l) j (sized (suc l) j xs) rest (params_end false v (suc l) (type_at (suc l)) (found (suc l) k false (param [] false ty i.start)) vs)) → Closes (param_more v l names i z behind) behind
param_closes v l k j names i ty z vs xs rest behind (closed c r) e h g =
    ends c vs (untyped vs e) (rest_within v l k j (length vs) names i ty vs xs rest (Ok ((instance (plain i) (z.0 ∷ []), min z.1 l), vs)) h (omega arith) g)
param_closes v l k j names i ty z vs xs rest behind (continues s m us zs r a) e h g =
    let most = needed_within TypesAt (many l) us l m (sized l m zs) vs (many l us) (many_reads l (type_at l) (type_reads l) us) (a l) in
    let le : needed ((many l us >>= grown z) >>= made_of i) ≤ length us = rw (grown_needs i z (many l us)) most in
    let within = rest_within v l k j (length us) names i ty vs xs rest ((many l us >>= grown z) >>= made_of i) h le g in
    goes s us (omega (arith, within))

-- no type begins behind the first parameter
names_loses : (v : Bool) (n k j : ℕ) (names : List Ident) (i : Ident) (o : ℕ) (us : List Symbol) (ty : TypeExpr) (vs : List Symbol) (xs : List ParamExpr) (rest : List Symbol) → Inside us vs → starts begins_type vs ≡ false
    → Agrees n k (sized n k ty) vs (type_at n (t.Ident i ∷ t.OpenBracket o ∷ us)) → (k ≤ n → Agrees n j (sized n j xs) rest (params_end false v n (type_at n) (found n k false (param [] false ty i.start)) vs))
    → Loses (named_by v n (type_at n) names i (t.OpenBracket o ∷ us)) (types_by v n (type_at n) names i (t.OpenBracket o ∷ us))
names_loses v zero k j names i o us ty vs xs rest first e h g = rw (named_is v 0 names i o us, type_none 0 (t.OpenBracket o ∷ us) refl) tt
names_loses v (suc l) k j names i o us ty vs xs rest (first_is ts ws height type behind opens follows again as_expr) e h g =
    rw (named_then v l names i o us opens, types_is v l names i o us)
    (loses_first o (array_by l (type_at l) o us) (λ z. names_after v (suc l) z.1 (item (names ++ i ∷ []) false z.0 (p.head_start (names ++ i ∷ [])))) (told_at i.start (instance_is l i us) >>= types_after v l names i)
    (loses_second (array_then l o (λ z ws. names_after v (suc l) ws (item (names ++ i ∷ []) false z (p.head_start (names ++ i ∷ [])))) (expr_at l us)) i.start (instance_is l i us) (types_after v l names i)
    (rw (types_onward v l names i us)
    (array_loses l height o (sized l height type) behind (λ z ws. names_after v (suc l) ws (item (names ++ i ∷ []) false z (p.head_start (names ++ i ∷ [])))) (expr_at l us) (type_at l us) (param_more v l names i) (as_expr l) (again l)
    (λ same f. param_closes v l k j names i ty (sized l height type) vs xs rest behind follows e
    (untold (suc l) k (sized (suc l) k ty) vs i.start (series_end (type_list l) (many l) (sized l height type) behind >>= made_of i)
    (subst (Agrees (suc l) k (sized (suc l) k ty) vs) (made_is l i o us (sized l height type) behind same) h)) g)))))

-- ---- everything

mutual
  pub type_again : (m : ℕ) (ts : List Symbol) (ty : TypeExpr) (rest : List Symbol) → IsType m ts ty rest → Free rest → (n : ℕ) → Agrees n m (sized n m ty) rest (type_at n ts)
  type_again m ts ty rest (g.name j us z r w) f n = named_is_again j us z r w f n
  type_again m ts ty rest (g.paren j at c us z r a) f n = paren_again n j at c us z r (type_again j us z (t.CloseParen c ∷ r) a refl)
  type_again m ts ty rest (g.pointer j at us z r a) f n = wrap_again n j z r (λ w. y.Pointer w at) (t.Star at ∷ us) us refl (λ l. refl) (type_again j us z r a f)
  type_again m ts ty rest (g.slice j at c us z r a) f n = wrap_again n j z r (λ w. y.Slice w at) (t.OpenBracket at ∷ t.CloseBracket c ∷ us) us refl (λ l. refl) (type_again j us z r a f)
  type_again m ts ty rest (g.array i j at c us x vs z r a d) f n =
      array_again n i j at c us x vs z r (expr_no_bracket i us x (t.CloseBracket c ∷ vs) a) (expr_again i us x (t.CloseBracket c ∷ vs) a refl (λ p. omega (arith, p))) (type_again j vs z r d f)
  type_again m ts ty rest (g.map_of i j at b c us key vs z r a d) f n = map_again n i j at b c us key vs z r (type_again i us key (t.CloseBracket c ∷ vs) a refl) (type_again j vs z r d f)
  type_again m ts ty rest (g.both_ways j at us z r s a) f n =
      wrap_again n j z r (λ w. y.Chan true true w at) (t.Chan at ∷ us) us refl (λ l. choose_other is_arrow us (with_type (type_at l) (λ w. y.Chan false true w at)) (with_type (type_at l) (λ w. y.Chan true true w at) us) s) (type_again j us z r a f)
  type_again m ts ty rest (g.send_only j at b us z r a) f n = wrap_again n j z r (λ w. y.Chan false true w at) (t.Chan at ∷ t.Arrow b ∷ us) us refl (λ l. refl) (type_again j us z r a f)
  type_again m ts ty rest (g.receive_only j at b us z r a) f n = wrap_again n j z r (λ w. y.Chan true false w at) (t.Arrow at ∷ t.Chan b ∷ us) us refl (λ l. refl) (type_again j us z r a f)
  type_again m ts ty rest (g.struct j at b us fs r a) f n = round_again n j fs r (λ w. y.Struct w at) (t.Struct at ∷ t.OpenBrace b ∷ us) us (λ l. fields_at l (type_at l)) refl (λ l. refl) (fields_again j us fs r a)
  type_again m ts ty rest (g.func j at us s r a) f n = round_again n j s r (λ w. y.Func w at) (t.Func at ∷ us) us (λ l. sig_at l (type_at l)) refl (λ l. refl) (sig_again j us s r a f)
  type_again m ts ty rest (g.interface j at b us es r a) f n =
      round_again n j es r (λ w. y.Interface w at) (t.Interface at ∷ t.OpenBrace b ∷ us) us (λ l. elems_at l (type_at l) (lower_at l)) refl (λ l. refl) (elems_again j us es r a)

  pub named_is_again : (m : ℕ) (ts : List Symbol) (ty : TypeExpr) (rest : List Symbol) → IsNamed m ts ty rest → Free rest → (n : ℕ) → Agrees n m (sized n m ty) rest (type_at n ts)
  named_is_again m ts ty rest (g.by_name k vs x ws args r q a) f n =
      let o = name_again vs x ws q (args_no_dot k ws args r a (free_dot r f)) in
      subst (λ (ps : List Symbol). Agrees n (suc k) (sized n (suc k) (instance x args)) r (type_at n ps)) (sym o.2) (named_again n k o.0 o.1 x ws (instance x args) r o.3 (args_again k ws args r a f x))

  pub args_again : (m : ℕ) (ts : List Symbol) (args : List TypeExpr) (rest : List Symbol) → IsArgs m ts args rest → Free rest → (x : NameExpr) (l : ℕ) → Agrees (suc l) (suc m) (sized (suc l) (suc m) (instance x args)) rest (args_by l (type_at l) x ts)
  args_again m ts args rest (g.no_args r) f x l = plain_again l x r (free_bracket r f)
  args_again m ts args rest (g.some_args n o us xs r e b) f x l = instance_again l n o x us xs r (some_types l n us xs r e (types_again n us xs r b l))

  pub types_again : (m : ℕ) (ts : List Symbol) (xs : List TypeExpr) (rest : List Symbol) → IsTypes m ts xs rest → (n : ℕ) → Agrees n m (sized n m xs) rest (many n ts)
  types_again m ts xs rest (g.no_type c r) n = types_none n c r
  types_again m ts xs rest (g.last_type j c us z r a) n = types_last n j us z c r (type_opens j us z (t.CloseBracket c ∷ r) a) (type_again j us z (t.CloseBracket c ∷ r) a refl n)
  types_again m ts xs rest (g.more_types i j s us vs z zs r a b) n = types_more n i j us z s vs zs r (type_opens i us z (t.Comma s ∷ vs) a) (type_again i us z (t.Comma s ∷ vs) a refl n) (types_again j vs zs r b n)

  inside_again : (m : ℕ) (ts : List Symbol) (xs : List TypeExpr) (rest : List Symbol) → IsTypes m ts xs rest → starts is_close_bracket ts ≡ false → Inside ts rest
  inside_again m ts xs rest (g.no_type c r) d = absurd cc
  inside_again m ts xs rest (g.last_type j c us z r a) d =
      first_is us r j z (t.CloseBracket c ∷ r) d (closed c r) (type_again j us z (t.CloseBracket c ∷ r) a refl) (λ l. misread j us z (t.CloseBracket c ∷ r) a refl l (type_again j us z (t.CloseBracket c ∷ r) a refl l))
  inside_again m ts xs rest (g.more_types i j s us vs z zs r a b) d =
      first_is us r i z (t.Comma s ∷ vs) d (continues s j vs zs r (types_again j vs zs r b)) (type_again i us z (t.Comma s ∷ vs) a refl) (λ l. misread i us z (t.Comma s ∷ vs) a refl l (type_again i us z (t.Comma s ∷ vs) a refl l))

  named_inside : (m : ℕ) (ts : List Symbol) (ty : TypeExpr) (rest : List Symbol) → IsNamed m ts ty rest → Insides ts rest
  named_inside m ts ty rest (g.by_name k vs x us args r (own h q) (g.no_args r')) i o ws same f = let e : r' ≡ t.OpenBracket o ∷ ws = cc in absurd (bracket_first r' o ws e f)
  named_inside m ts ty rest (g.by_name k vs x us args r (own h q) (g.some_args j p ps xs r' d b)) i o ws same f = let e : ps ≡ ws = cc in subst (λ (qs : List Symbol). Inside qs r') e (inside_again j ps xs r' b d)
  named_inside m ts ty rest (g.by_name k vs x us args r (of_package p d h q) a) i o ws same f = absurd cc

  -- what stands in brackets behind the identifier that begins a type
  type_inside : (m : ℕ) (ts : List Symbol) (ty : TypeExpr) (rest : List Symbol) → IsType m ts ty rest → Insides ts rest
  type_inside m ts ty rest (g.name n us z r a) = named_inside n us z r a
  type_inside m ts ty rest (g.paren n at c us z r a) = no_inside ts rest refl
  type_inside m ts ty rest (g.pointer n at us z r a) = no_inside ts rest refl
  type_inside m ts ty rest (g.slice n at c us z r a) = no_inside ts rest refl
  type_inside m ts ty rest (g.array k n at c us x vs z r a d) = no_inside ts rest refl
  type_inside m ts ty rest (g.map_of k n at b c us key vs z r a d) = no_inside ts rest refl
  type_inside m ts ty rest (g.both_ways n at us z r s a) = no_inside ts rest refl
  type_inside m ts ty rest (g.send_only n at b us z r a) = no_inside ts rest refl
  type_inside m ts ty rest (g.receive_only n at b us z r a) = no_inside ts rest refl
  type_inside m ts ty rest (g.struct n at b us fs r a) = no_inside ts rest refl
  type_inside m ts ty rest (g.func n at us s r a) = no_inside ts rest refl
  type_inside m ts ty rest (g.interface n at b us es r a) = no_inside ts rest refl

  -- read as an expression
  pub misread : (m : ℕ) (ts : List Symbol) (ty : TypeExpr) (rest : List Symbol) → IsType m ts ty rest → starts ends_inner rest ≡ true → (n : ℕ) → Agrees n m (sized n m ty) rest (type_at n ts) → Misread (expr_at n ts) (type_at n ts)
  misread m ts ty rest (g.name j us z r (g.by_name k vs x ws args r' q b)) e n a =
      let o = name_again vs x ws q (args_no_dot k ws args r b (free_dot r (inner_free r e))) in
      subst (λ (ps : List Symbol). Misread (expr_at n ps) (type_at n ps)) (sym o.2)
      (name_misread n (suc k) o.0 o.1 x ws (instance x args) r o.3 (args_end k ws args r b e) (args_or k ws args r b) (subst (λ (ps : List Symbol). Agrees n (suc k) (sized n (suc k) (instance x args)) r (type_at n ps)) o.2 a))
  misread m ts ty rest (g.paren j at c us z r w) e n a = paren_misread n j at c us z r e (type_again j us z (t.CloseParen c ∷ r) w refl) (λ l. misread j us z (t.CloseParen c ∷ r) w refl l (type_again j us z (t.CloseParen c ∷ r) w refl l))
  misread m ts ty rest (g.pointer j at us z r w) e n a = other_misread n m ts ty rest (no_expr_at n (t.Star at) (us) refl) a
  misread m ts ty rest (g.slice j at c us z r w) e n a = other_misread n m ts ty rest (no_expr_at n (t.OpenBracket at) (t.CloseBracket c ∷ us) refl) a
  misread m ts ty rest (g.array i j at c us x vs z r w v) e n a = other_misread n m ts ty rest (no_expr_at n (t.OpenBracket at) (us) refl) a
  misread m ts ty rest (g.map_of i j at b c us key vs z r w v) e n a = other_misread n m ts ty rest (no_expr_at n (t.Map at) (t.OpenBracket b ∷ us) refl) a
  misread m ts ty rest (g.both_ways j at us z r s w) e n a = other_misread n m ts ty rest (no_expr_at n (t.Chan at) (us) refl) a
  misread m ts ty rest (g.send_only j at b us z r w) e n a = other_misread n m ts ty rest (no_expr_at n (t.Chan at) (t.Arrow b ∷ us) refl) a
  misread m ts ty rest (g.receive_only j at b us z r w) e n a = other_misread n m ts ty rest (no_expr_at n (t.Arrow at) (t.Chan b ∷ us) refl) a
  misread m ts ty rest (g.struct j at b us fs r w) e n a = other_misread n m ts ty rest (no_expr_at n (t.Struct at) (t.OpenBrace b ∷ us) refl) a
  misread m ts ty rest (g.func j at us s r w) e n a = other_misread n m ts ty rest (no_expr_at n (t.Func at) (us) refl) a
  misread m ts ty rest (g.interface j at b us es r w) e n a = other_misread n m ts ty rest (no_expr_at n (t.Interface at) (t.OpenBrace b ∷ us) refl) a

  pub field_again : (m : ℕ) (ts : List Symbol) (x : FieldExpr) (rest : List Symbol) → IsField m ts x rest → starts ends_field rest ≡ true → (n : ℕ) → Agrees n m (sized n m x) rest (field_by n (type_at n) ts)
  field_again m ts x rest (g.shared j i names us vs z ws tag r a w q) e n = shared_again n j i names us vs z ws tag r a (type_begins j vs z ws w) (type_again j vs z ws w (tag_free ws tag r q e) n) q e
  field_again m ts x rest (g.embedded j us z vs tag r w q) e n = embedded_again n j us z vs tag r w (named_is_again j us z vs w (tag_free vs tag r q e) n) q e
      (λ i o ws same. field_loses n j i o ws z vs tag r (named_inside j us z vs w i o ws same (free_bracket vs (tag_free vs tag r q e))) (subst (λ (ps : List Symbol). Agrees n j (sized n j z) vs (type_at n ps)) same (named_is_again j us z vs w (tag_free vs tag r q e) n)) q e)
  field_again m ts x rest (g.embedded_pointer j at us z vs tag r w q) e n =
      pointer_again n j at us z vs tag r w (wrap_again n j z vs (λ v. y.Pointer v at) (t.Star at ∷ us) us refl (λ l. refl) (named_is_again j us z vs w (tag_free vs tag r q e))) q e

  pub fields_again : (m : ℕ) (ts : List Symbol) (xs : List FieldExpr) (rest : List Symbol) → IsFields m ts xs rest → (n : ℕ) → Agrees n m (sized n m xs) rest (fields_at n (type_at n) ts)
  fields_again m ts xs rest (g.none c r) n = fields_none n c r
  fields_again m ts xs rest (g.last j c us x r a) n = fields_last n j us x c r (field_no_close j us x (t.CloseBrace c ∷ r) a) (field_again j us x (t.CloseBrace c ∷ r) a refl n)
  fields_again m ts xs rest (g.more i j s us vs x ys r a b) n = fields_more n i j us x s vs ys r (field_no_close i us x (t.Semicolon s ∷ vs) a) (field_again i us x (t.Semicolon s ∷ vs) a refl n) (fields_again j vs ys r b n)

  pub param_again : (w v f : Bool) (m : ℕ) (ts : List Symbol) (x : ParamExpr) (rest : List Symbol) → IsParam w v f m ts x rest → Free rest → (n : ℕ) → Agrees n m (found n m f x) rest (param_at w v (type_at n) ts)
  param_again w v f m ts x rest (g.unnamed u j us z r a) e n = p.unnamed_again u n j us z r (type_begins j us z r a) (type_again j us z r a e n)
  param_again w v f m ts x rest (g.sharing u j i names us vs z r a b) e n = p.sharing_again u n j i names us vs z r a (type_begins j vs z r b) (type_again j vs z r b e n)
  param_again w v f m ts x rest (g.unnamed_rest j at us z r a) e n = p.param_type_again n j [] true at us z r (type_again j us z r a e n)
  param_again w v f m ts x rest (g.named_rest j i at us z r a) e n = p.param_type_again n j (i ∷ []) true i.start us z r (type_again j us z r a e n)

  pub params_again : (w v : Bool) (m : ℕ) (ts : List Symbol) (xs : List ParamExpr) (rest : List Symbol) → IsParams w v m ts xs rest → (n : ℕ) → Agrees n m (sized n m xs) rest (params_row w v n (type_at n) ts)
  params_again w v m ts xs rest (g.no_param w' v' c r) n = p.row_none w v n c r
  params_again w v m ts xs rest (g.last_param w' v' f j c us x r a) n = p.row_last w v n j f us x c r (param_no_close w v f j us x (t.CloseParen c ∷ r) a) (param_again w v f j us x (t.CloseParen c ∷ r) a refl n)
  params_again w v m ts xs rest (g.more_params w' v' i j s us vs x ys r a b) n =
      p.row_more w v n i j us x s vs ys r (param_no_close w v false i us x (t.Comma s ∷ vs) a) (param_again w v false i us x (t.Comma s ∷ vs) a refl n) (params_again w v j vs ys r b n)
  params_again w v m ts xs rest (g.variadic_comma w' v' j s c us x r a) n =
      p.row_final w v n j us x s c r (param_no_close w v true j us x (t.Comma s ∷ t.CloseParen c ∷ r) a) (param_again w v true j us x (t.Comma s ∷ t.CloseParen c ∷ r) a refl n)

  pub types_from : (v : Bool) (m : ℕ) (ts : List Symbol) (xs : List ParamExpr) (rest : List Symbol) → IsParams false v m ts xs rest → (n : ℕ) (names : List Ident) → Behinds v n names m ts xs rest
  types_from v m ts xs rest (g.no_param w u c r) n names = row_behind v n 0 names (t.CloseParen c ∷ r) [] r refl (shows_close v c) (p.row_none false v n c r)
  types_from v m ts xs rest (g.last_param w u f j c us x r (g.unnamed u' k vs z r' a)) n names =
      last_types v n k c names vs z (start_of vs) r (opening k vs z (t.CloseParen c ∷ r) a) refl (type_again k vs z (t.CloseParen c ∷ r) a refl n) (p.row_last false v n k false vs x c r (param_no_close false v false k vs x (t.CloseParen c ∷ r) (g.unnamed u' k vs z (t.CloseParen c ∷ r) a))
      (p.unnamed_again v n k vs z (t.CloseParen c ∷ r) (type_begins k vs z (t.CloseParen c ∷ r) a) (type_again k vs z (t.CloseParen c ∷ r) a refl n)))
      (λ i o us same. names_loses v n k k names i o us z (t.CloseParen c ∷ r) (param [] false z i.start ∷ []) r (type_inside k vs z (t.CloseParen c ∷ r) a i o us same refl) refl
      (subst (λ (ps : List Symbol). Agrees n k (sized n k z) (t.CloseParen c ∷ r) (type_at n ps)) same (type_again k vs z (t.CloseParen c ∷ r) a refl n)) (λ le. p.rest_last false v n k false (param [] false z i.start) c r le))
  types_from v m ts xs rest (g.last_param w u f j c us x r (g.unnamed_rest k at vs z r' a)) n names =
      row_behind true n k names (t.Ellipsis at ∷ vs) (x ∷ []) r refl refl (p.row_last false true n k true (t.Ellipsis at ∷ vs) x c r refl (p.param_type_again n k [] true at vs z (t.CloseParen c ∷ r) (type_again k vs z (t.CloseParen c ∷ r) a refl n)))
  types_from v m ts xs rest (g.more_params w u i j s us ws x ys r (g.unnamed u' k vs z r' a) b) n names =
      more_types v n k j s names vs ws z (start_of vs) ys r (opening k vs z (t.Comma s ∷ ws) a) refl (type_again k vs z (t.Comma s ∷ ws) a refl n) (λ l. types_from v j ws ys r b n (names ++ l ∷ [])) (params_again false v j ws ys r b n)
      (p.row_more false v n k j vs x s ws ys r (param_no_close false v false k vs x (t.Comma s ∷ ws) (g.unnamed u' k vs z (t.Comma s ∷ ws) a))
      (p.unnamed_again v n k vs z (t.Comma s ∷ ws) (type_begins k vs z (t.Comma s ∷ ws) a) (type_again k vs z (t.Comma s ∷ ws) a refl n)) (params_again false v j ws ys r b n))
      (λ h o qs same. names_loses v n k (max k j) names h o qs z (t.Comma s ∷ ws) (param [] false z h.start ∷ ys) r (type_inside k vs z (t.Comma s ∷ ws) a h o qs same refl) refl
      (subst (λ (ps : List Symbol). Agrees n k (sized n k z) (t.Comma s ∷ ws) (type_at n ps)) same (type_again k vs z (t.Comma s ∷ ws) a refl n)) (λ le. p.rest_more false v n k j (param [] false z h.start) s ws ys r le (params_again false v j ws ys r b n)))
  types_from v m ts xs rest (g.variadic_comma w u j s c us x r (g.unnamed_rest k at vs z r' a)) n names =
      row_behind true n k names (t.Ellipsis at ∷ vs) (x ∷ []) r refl refl (p.row_final false true n k (t.Ellipsis at ∷ vs) x s c r refl (p.param_type_again n k [] true at vs z (t.Comma s ∷ t.CloseParen c ∷ r) (type_again k vs z (t.Comma s ∷ t.CloseParen c ∷ r) a refl n)))

  pub names_from : (v : Bool) (m : ℕ) (ts : List Symbol) (xs : List ParamExpr) (rest : List Symbol) → IsParams true v m ts xs rest → (n : ℕ) → Agrees n m (sized n m xs) rest (params_from v n (type_at n) [] ts)
  names_from v m ts xs rest (g.no_param w u c r) n = row_behind v n 0 [] (t.CloseParen c ∷ r) [] r refl (shows_close v c) (p.row_none false v n c r)
  names_from v m ts xs rest (g.last_param w u f j c us x r (g.sharing u' k i names vs ws z r' a b)) n =
      p.shared_first v n k k [] (i ∷ names) vs ws (t.CloseParen c ∷ r) z (x ∷ []) r a (type_begins k ws z (t.CloseParen c ∷ r) b) (type_again k ws z (t.CloseParen c ∷ r) b refl n) (omega arith) (λ le. p.rest_last true v n k false x c r le)
  names_from v m ts xs rest (g.last_param w u f j c us x r (g.named_rest k i at vs z r' a)) n =
      p.first_again true n k k true x (t.Ellipsis at ∷ vs) (t.CloseParen c ∷ r) (x ∷ []) r [] i refl (p.param_type_again n k (i ∷ []) true i.start vs z (t.CloseParen c ∷ r) (type_again k vs z (t.CloseParen c ∷ r) a refl n)) (omega arith) (λ le. p.rest_last true true n k true x c r le)
  names_from v m ts xs rest (g.more_params w u l j s us qs x ys r (g.sharing u' k i names vs ws z r' a b) d) n =
      p.shared_first v n k (max k j) [] (i ∷ names) vs ws (t.Comma s ∷ qs) z (x ∷ ys) r a (type_begins k ws z (t.Comma s ∷ qs) b) (type_again k ws z (t.Comma s ∷ qs) b refl n) (omega arith) (λ le. p.rest_more true v n k j x s qs ys r le (params_again true v j qs ys r d n))
  names_from v m ts xs rest (g.variadic_comma w u j s c us x r (g.named_rest k i at vs z r' a)) n =
      p.first_again true n k k true x (t.Ellipsis at ∷ vs) (t.Comma s ∷ t.CloseParen c ∷ r) (x ∷ []) r [] i refl (p.param_type_again n k (i ∷ []) true i.start vs z (t.Comma s ∷ t.CloseParen c ∷ r) (type_again k vs z (t.Comma s ∷ t.CloseParen c ∷ r) a refl n)) (omega arith)
      (λ le. p.rest_final true true n k x s c r le)

  pub sig_again : (m : ℕ) (ts : List Symbol) (s : SigExpr) (rest : List Symbol) → IsSig m ts s rest → Free rest → (n : ℕ) → Agrees n m (sized n m s) rest (sig_at n (type_at n) ts)
  sig_again m ts s rest (g.no_result true j at us ps r a) f n = p.no_result_again n j at us ps r f (names_from true j us ps r a n)
  sig_again m ts s rest (g.no_result false j at us ps r a) f n = p.no_result_again n j at us ps r f (none_behind true n j us ps r (types_from true j us ps r a n []))
  sig_again m ts s rest (g.results true true i j at o us vs ps rs r a b) f n = p.results_again n i j at o us vs ps rs r (names_from true i us ps (t.OpenParen o ∷ vs) a n) (names_from false j vs rs r b n)
  sig_again m ts s rest (g.results true false i j at o us vs ps rs r a b) f n = p.results_again n i j at o us vs ps rs r (names_from true i us ps (t.OpenParen o ∷ vs) a n) (none_behind false n j vs rs r (types_from false j vs rs r b n []))
  sig_again m ts s rest (g.results false true i j at o us vs ps rs r a b) f n = p.results_again n i j at o us vs ps rs r (none_behind true n i us ps (t.OpenParen o ∷ vs) (types_from true i us ps (t.OpenParen o ∷ vs) a n [])) (names_from false j vs rs r b n)
  sig_again m ts s rest (g.results false false i j at o us vs ps rs r a b) f n = p.results_again n i j at o us vs ps rs r (none_behind true n i us ps (t.OpenParen o ∷ vs) (types_from true i us ps (t.OpenParen o ∷ vs) a n [])) (none_behind false n j vs rs r (types_from false j vs rs r b n []))
  sig_again m ts s rest (g.result true i j at us vs ps z r a o b) f n = p.result_again n i j at us vs ps z r (names_from true i us ps vs a n) o (type_begins j vs z r b) (type_again j vs z r b f n)
  sig_again m ts s rest (g.result false i j at us vs ps z r a o b) f n = p.result_again n i j at us vs ps z r (none_behind true n i us ps vs (types_from true i us ps vs a n [])) o (type_begins j vs z r b) (type_again j vs z r b f n)

  pub term_again : (m : ℕ) (ts : List Symbol) (x : TermExpr) (rest : List Symbol) → IsTerm m ts x rest → Free rest → (n : ℕ) → Agrees n m (sized n m x) rest (term_at (type_at n) ts)
  term_again m ts x rest (g.exactly j us z r a) f n = e.term_plain (type_at n) n j us z r (type_begins j us z r a) (type_again j us z r a f n)
  term_again m ts x rest (g.approximately j at us z r a) f n = e.term_tilde (type_at n) n j at us z r (type_again j us z r a f n)

  pub terms_again : (m : ℕ) (ts : List Symbol) (xs : List TermExpr) (rest : List Symbol) → IsTerms m ts xs rest → starts is_bar rest ≡ false → Free rest → (n : ℕ) → Agrees n m (sized n m xs) rest (terms_at (type_at n) ts)
  terms_again m ts xs rest (g.one_term j us x r a) b f n = e.terms_one n j us x r b (term_again j us x r a f n)
  terms_again m ts xs rest (g.more_terms i j k us vs x ys r a c) b f n = e.terms_more n i j k us vs x ys r (term_again i us x (t.Bar k ∷ vs) a refl n) (terms_again j vs ys r c b f n)

  pub union_again : (m : ℕ) (ts : List Symbol) (ty : TypeExpr) (rest : List Symbol) → IsUnion m ts ty rest → starts is_bar rest ≡ false → Free rest → (n : ℕ) → Agrees n m (sized n m ty) rest (union_at n (type_at n) (lower_at n) ts)
  union_again m ts ty rest (g.alone j us z r a) b f n = e.union_alone n j (lower_at n) us z r (type_begins j us z r a) b (type_again j us z r a f n)
  union_again m ts ty rest (g.approximate j at us z r a) b f n = e.tilde_alone n j at us z r b (type_again j us z r a f)
  union_again m ts ty rest (g.several i j k us vs x xs r (g.exactly l ws z r' a) c) b f n =
      e.plain_several n l j k ws vs z xs r (type_begins l ws z (t.Bar k ∷ vs) a) (tall l ws z (t.Bar k ∷ vs) a) (type_again l ws z (t.Bar k ∷ vs) a refl n) (terms_again j vs xs r c b f)
  union_again m ts ty rest (g.several i j k us vs x xs r (g.approximately l at ws z r' a) c) b f n = e.tilde_several n l j at k ws vs z xs r (type_again l ws z (t.Bar k ∷ vs) a refl) (terms_again j vs xs r c b f)

  pub elem_again : (m : ℕ) (ts : List Symbol) (x : ElemExpr) (rest : List Symbol) → IsElem m ts x rest → starts ends_field rest ≡ true → (n : ℕ) → Agrees n m (sized n m x) rest (elem_at n (type_at n) (lower_at n) ts)
  elem_again m ts x rest (g.method j i us s r a) f n = e.method_again n j i us s r (sig_opens j us s r a) (sig_again j us s r a (end_free r f) n)
  elem_again m ts x rest (g.embeds j us z r a) f n =
      embeds_again n j us z r (λ i vs same. union_followed j i vs z r (subst (λ (ws : List Symbol). IsUnion j ws z r) same a) f) (union_again j us z r a (end_no_bar r f) (end_free r f) n)

  pub elems_again : (m : ℕ) (ts : List Symbol) (xs : List ElemExpr) (rest : List Symbol) → IsElems m ts xs rest → (n : ℕ) → Agrees n m (sized n m xs) rest (elems_at n (type_at n) (lower_at n) ts)
  elems_again m ts xs rest (g.no_elem c r) n = e.elems_none n c r
  elems_again m ts xs rest (g.last_elem j c us x r a) n = e.elems_last n j us x c r (elem_no_brace j us x (t.CloseBrace c ∷ r) a) (elem_again j us x (t.CloseBrace c ∷ r) a refl n)
  elems_again m ts xs rest (g.more_elems i j s us vs x ys r a b) n = e.elems_more n i j us x s vs ys r (elem_no_brace i us x (t.Semicolon s ∷ vs) a) (elem_again i us x (t.Semicolon s ∷ vs) a refl n) (elems_again j vs ys r b n)
