-- Parameters that are written are read again, where the types in them are.
use Rattle.std.proofs.Common.{◌≡◌, ℕ, zero, suc, ◌-◌, ◌≤◌, min, max, Bool, true, false, List, [], ◌∷◌, ◌++◌, map, Ok, refl, sym, ap, subst, append_assoc, arith}
use Rattle.go_expr_syntax.specs.declared.symbols.Symbol.{Symbol}
use Rattle.go_expr_syntax.specs.declared.symbols.Symbol.TheVariants as t
use Rattle.go_expr_syntax.specs.declared.symbols.Ident.{Ident}
use Rattle.go_type_syntax.specs.declared.params.Param.{Param}
use Rattle.go_type_syntax.specs.declared.tree.ParamExpr.{ParamExpr}
use Rattle.go_type_syntax.specs.declared.tree.TypeExpr.{TypeExpr}
use Rattle.go_expr_syntax.specs.Reading.{Reply, starts, begins_type, is_ident, is_comma, is_ellipsis, is_open_paren, is_open_bracket, is_close_paren, start_of, placed, peek, Fit, with_fit}
use Rattle.go_expr_syntax.specs.Names.{IsNames, one, more}
use Rattle.go_type_syntax.specs.Grammar.{param, signature}
use Rattle.go_type_syntax.specs.Params.{item, params, param_type, type_param, unnamed_param, lone_param, more_params, named_param, param_at, params_row, params_end, bare, after_bare, types_by, names_by, named_by, name_or_type, after_ident, params_from, result_list, result_type, no_results, results_by, sig_at}
use Rattle.go_expr_syntax.specs.Reading.{shows_types, shows_type}
use Rattle.go_type_syntax.specs.Types.{type_at}
use Rattle.go_expr_syntax.proofs.Agreeing.{Agrees, agrees_bind, agrees_as, agrees_from, sized, fit_at, placed_again, choose_other, names_again, end_last, end_more, end_final, series_none, series_once, series_twice, series_final, less_none, less_last, less_more}
use Rattle.go_type_syntax.proofs.Misreading.{Loses, first_counts, second_counts}
use Rattle.go_type_syntax.proofs.Follows.{Free, free_type, free_paren, no_comma, no_dots, not_shown}
use Rattle.go_type_syntax.proofs.TypeReads.{param_eats}

-- ---- one parameter

-- such a parameter, where its type has m nodes of n
abbrev pub found : ℕ → ℕ → Bool → ParamExpr → Param
found n m f x = record { expr = x; fit = n - m; last = f }

pub param_type_again : (n m : ℕ) (names : List Ident) (f : Bool) (at : ℕ) (us : List Symbol) (ty : TypeExpr) (rest : List Symbol) → Agrees n m (sized n m ty) rest (type_at n us) → Agrees n m (found n m f (param names f ty at)) rest (param_type (type_at n) names f at us)
param_type_again n m names f at us ty rest h = agrees_bind n m (sized n m ty) rest n m (found n m f (param names f ty at)) rest (type_at n us) (λ z ws. Ok (item names f z at, ws)) h (λ d. d) (λ le. (refl, refl, le))

pub type_param_again : (n m : ℕ) (us : List Symbol) (ty : TypeExpr) (rest : List Symbol) → Agrees n m (sized n m ty) rest (type_at n us) → Agrees n m (found n m false (param [] false ty (start_of us))) rest (type_param (type_at n) us)
type_param_again n m us ty rest h =
    agrees_bind n m (sized n m ty, start_of us) rest n m (found n m false (param [] false ty (start_of us))) rest (placed (type_at n) us) (λ z ws. Ok (item [] false z.0 z.1, ws))
    (placed_again n m (sized n m ty) rest us (type_at n) h) (λ d. d) (λ le. (refl, refl, le))

unnamed_is : (v : Bool) (inner : List Symbol → Reply (Fit TypeExpr)) (us : List Symbol) → starts begins_type us ≡ true → unnamed_param v inner us ≡ type_param inner us
unnamed_is true inner us b = choose_other is_ellipsis us (param_type inner [] true (start_of us)) (type_param inner us) (no_dots us b)
unnamed_is false inner us b = refl

lone_is : (v : Bool) (inner : List Symbol → Reply (Fit TypeExpr)) (i : Ident) (us : List Symbol) → starts begins_type us ≡ true → lone_param v inner i us ≡ param_type inner (i ∷ []) false i.start us
lone_is true inner i us b = choose_other is_ellipsis us (param_type inner (i ∷ []) true i.start) (param_type inner (i ∷ []) false i.start us) (no_dots us b)
lone_is false inner i us b = refl

pub unnamed_again : (v : Bool) (n m : ℕ) (us : List Symbol) (ty : TypeExpr) (rest : List Symbol) → starts begins_type us ≡ true → Agrees n m (sized n m ty) rest (type_at n us)
    → Agrees n m (found n m false (param [] false ty (start_of us))) rest (unnamed_param v (type_at n) us)
unnamed_again v n m us ty rest b h = rw (unnamed_is v (type_at n) us b) (type_param_again n m us ty rest h)

pub sharing_again : (v : Bool) (n m : ℕ) (i : Ident) (names : List Ident) (ts us : List Symbol) (ty : TypeExpr) (rest : List Symbol) → IsNames ts (i ∷ names) us → starts begins_type us ≡ true → Agrees n m (sized n m ty) rest (type_at n us)
    → Agrees n m (found n m false (param (i ∷ names) false ty i.start)) rest (named_param v (type_at n) ts)
sharing_again v n m i names ts us ty rest (one j r) b h =
    rw (choose_other is_comma us (more_params (type_at n) i) (lone_param v (type_at n) i us) (no_comma us b), lone_is v (type_at n) i us b) (param_type_again n m (i ∷ []) false i.start us ty rest h)
sharing_again v n m i names ts us ty rest (more j c ws ns r q) b h =
    rw (names_again ws names us q (no_comma us b)) (param_type_again n m (i ∷ names) false i.start us ty rest h)

-- ---- rows of parameters

module _ (w v : Bool) (n : ℕ) where
  abbrev one_at : List Symbol → Reply Param
  one_at = param_at w v (type_at n)

  pub row_none : (c : ℕ) (rest : List Symbol) → Agrees n 0 (sized n 0 []) rest (params_row w v n (type_at n) (t.CloseParen c ∷ rest))
  row_none c rest = agrees_as n 0 (fit_at [] n) (sized n 0 []) rest (params_row w v n (type_at n) (t.CloseParen c ∷ rest)) (less_none n) (series_none (params n) one_at (param_eats w v n) n (t.CloseParen c) rest refl)

  pub row_last : (m : ℕ) (f : Bool) (ts : List Symbol) (x : ParamExpr) (c : ℕ) (rest : List Symbol) → starts is_close_paren ts ≡ false → Agrees n m (found n m f x) (t.CloseParen c ∷ rest) (one_at ts)
      → Agrees n m (sized n m (x ∷ [])) rest (params_row w v n (type_at n) ts)
  row_last m f ts x c rest e h =
      agrees_as n m (fit_at (x ∷ []) (min (n - m) n)) (sized n m (x ∷ [])) rest (params_row w v n (type_at n) ts) (less_last n m (n - m) x refl)
      (series_once (params n) one_at (param_eats w v n) n m ts (found n m f x) (t.CloseParen c) rest e refl h)

  pub row_more : (m j : ℕ) (ts : List Symbol) (x : ParamExpr) (s : ℕ) (us : List Symbol) (xs : List ParamExpr) (rest : List Symbol) → starts is_close_paren ts ≡ false → Agrees n m (found n m false x) (t.Comma s ∷ us) (one_at ts)
      → Agrees n j (sized n j xs) rest (params_row w v n (type_at n) us) → Agrees n (max m j) (sized n (max m j) (x ∷ xs)) rest (params_row w v n (type_at n) ts)
  row_more m j ts x s us xs rest e h g =
      agrees_as n (max m j) (fit_at (x ∷ xs) (min (n - m) (n - j))) (sized n (max m j) (x ∷ xs)) rest (params_row w v n (type_at n) ts) (less_more n m j (n - m) x xs refl)
      (series_twice (params n) one_at (param_eats w v n) n m j ts (found n m false x) (t.Comma s) us (sized n j xs) rest e refl refl refl h g)

  pub row_final : (m : ℕ) (ts : List Symbol) (x : ParamExpr) (s c : ℕ) (rest : List Symbol) → starts is_close_paren ts ≡ false → Agrees n m (found n m true x) (t.Comma s ∷ t.CloseParen c ∷ rest) (one_at ts)
      → Agrees n m (sized n m (x ∷ [])) rest (params_row w v n (type_at n) ts)
  row_final m ts x s c rest e h =
      agrees_as n m (fit_at (x ∷ []) (min (n - m) n)) (sized n m (x ∷ [])) rest (params_row w v n (type_at n) ts) (less_last n m (n - m) x refl)
      (series_final (params n) one_at (param_eats w v n) n m ts (found n m true x) (t.Comma s) (t.CloseParen c) rest e refl refl refl refl h)

  -- what stands after a parameter
  pub rest_last : (m : ℕ) (f : Bool) (x : ParamExpr) (c : ℕ) (rest : List Symbol) → m ≤ n → Agrees n m (sized n m (x ∷ [])) rest (params_end w v n (type_at n) (found n m f x) (t.CloseParen c ∷ rest))
  rest_last m f x c rest le =
      agrees_as n m (fit_at (x ∷ []) (min (n - m) n)) (sized n m (x ∷ [])) rest (params_end w v n (type_at n) (found n m f x) (t.CloseParen c ∷ rest)) (less_last n m (n - m) x refl)
      (end_last (params n) (params_row w v n (type_at n)) n m (found n m f x) (t.CloseParen c) rest refl le)

  pub rest_more : (m j : ℕ) (x : ParamExpr) (s : ℕ) (us : List Symbol) (xs : List ParamExpr) (rest : List Symbol) → m ≤ n → Agrees n j (sized n j xs) rest (params_row w v n (type_at n) us)
      → Agrees n (max m j) (sized n (max m j) (x ∷ xs)) rest (params_end w v n (type_at n) (found n m false x) (t.Comma s ∷ us))
  rest_more m j x s us xs rest le g =
      agrees_as n (max m j) (fit_at (x ∷ xs) (min (n - m) (n - j))) (sized n (max m j) (x ∷ xs)) rest (params_end w v n (type_at n) (found n m false x) (t.Comma s ∷ us)) (less_more n m j (n - m) x xs refl)
      (end_more (params n) (params_row w v n (type_at n)) n m j (found n m false x) (t.Comma s) us (sized n j xs) rest refl refl refl le g)

  pub rest_final : (m : ℕ) (x : ParamExpr) (s c : ℕ) (rest : List Symbol) → m ≤ n → Agrees n m (sized n m (x ∷ [])) rest (params_end w v n (type_at n) (found n m true x) (t.Comma s ∷ t.CloseParen c ∷ rest))
  rest_final m x s c rest le =
      agrees_as n m (fit_at (x ∷ []) (min (n - m) n)) (sized n m (x ∷ [])) rest (params_end w v n (type_at n) (found n m true x) (t.Comma s ∷ t.CloseParen c ∷ rest)) (less_last n m (n - m) x refl)
      (end_final (params n) (params_row w v n (type_at n)) n m (found n m true x) (t.Comma s) (t.CloseParen c) rest refl refl refl refl le)

-- ---- identifiers that are types

-- nodes of these types
abbrev pub bare_height : List Ident → ℕ
bare_height [] = 0
bare_height (i ∷ names) = 1

small_height : (names : List Ident) → bare_height names ≤ 1
small_height [] = omega arith
small_height (i ∷ names) = omega arith

-- parameters behind types of at most one node, k of which are left over
behind_again : (n m h k : ℕ) (front xs : List ParamExpr) (rest : List Symbol) (r : Reply (Fit (List ParamExpr))) → h ≤ 1 → h ≤ n → k ≡ n - h → Agrees n m (sized n m xs) rest r
    → Agrees n (max h m) (sized n (max h m) (front ++ xs)) rest (with_fit (front, k) r)
behind_again n m h k front xs rest r a b e g =
    let o : min k (n - m) ≡ n - max h m = omega (arith, e) in
    agrees_bind n m (sized n m xs) rest n (max h m) (sized n (max h m) (front ++ xs)) rest r (λ z ws. Ok ((front ++ z.0, min k z.1), ws)) g (λ d. omega arith)
    (λ le. (ap (fit_at (front ++ xs)) o, refl, omega arith))

-- behind none
none_again : (n m : ℕ) (xs : List ParamExpr) (rest : List Symbol) (r : Reply (Fit (List ParamExpr))) → Agrees n m (sized n m xs) rest r → Agrees n m (sized n m xs) rest (with_fit ([], n) r)
none_again n m xs rest r h =
    let o : min n (n - m) ≡ n - m = omega arith in
    agrees_bind n m (sized n m xs) rest n m (sized n m xs) rest r (λ z ws. Ok (([] ++ z.0, min n z.1), ws)) h (λ d. d) (λ le. (ap (fit_at xs) o, refl, le))

pub shows_so : (v : Bool) (k : Symbol) → begins_type k ≡ true → shows_types v k ≡ true
shows_so true (t.Ellipsis at) e = refl
shows_so v (t.CloseParen at) e = refl
shows_so true k e = e
shows_so false k e = e

-- all are types, and a row of types follows
pub after_again : (v : Bool) (n m : ℕ) (names : List Ident) (ts : List Symbol) (xs : List ParamExpr) (rest : List Symbol) → starts (shows_types v) ts ≡ true → Agrees n m (sized n m xs) rest (params_row false v n (type_at n) ts)
    → Agrees n (max (bare_height names) m) (sized n (max (bare_height names) m) (map bare names ++ xs)) rest (after_bare v n (type_at n) names ts)
after_again v n m [] ts xs rest s h = behind_again n m 0 n [] xs rest (params_row false v n (type_at n) ts) (omega arith) (omega arith) (omega arith) h
after_again v zero m (i ∷ names) ts xs rest s h = rw s (omega arith)
after_again v (suc n) m (i ∷ names) ts xs rest s h = behind_again (suc n) m 1 n (map bare (i ∷ names)) xs rest (params_row false v (suc n) (type_at (suc n)) ts) (omega arith) (omega arith) (omega arith) h

-- a type that begins with the identifier follows
pub types_by_again : (v : Bool) (n k j : ℕ) (names : List Ident) (i : Ident) (us : List Symbol) (ty : TypeExpr) (vs : List Symbol) (xs : List ParamExpr) (rest : List Symbol) → 1 ≤ k → k ≤ j → Agrees n k (sized n k ty) vs (type_at n (t.Ident i ∷ us))
    → (k ≤ n → Agrees n j (sized n j xs) rest (params_end false v n (type_at n) (found n k false (param [] false ty i.start)) vs))
    → Agrees n (max (bare_height names) j) (sized n (max (bare_height names) j) (map bare names ++ xs)) rest (types_by v n (type_at n) names i us)
types_by_again v zero k j names i us ty vs xs rest p l h g = omega arith
types_by_again v (suc n) k j names i us ty vs xs rest p l h g =
    let same : max 1 j ≡ max (bare_height names) j = omega (arith, small_height names) in
    agrees_bind (suc n) k (sized (suc n) k ty) vs (suc n) (max (bare_height names) j) (sized (suc n) (max (bare_height names) j) (map bare names ++ xs)) rest (type_at (suc n) (t.Ident i ∷ us))
    (λ z ws. with_fit (map bare names, n) (params_end false v (suc n) (type_at (suc n)) (item [] false z i.start) ws)) h (λ d. omega arith)
    (λ f. subst (λ o. Agrees (suc n) o (sized (suc n) o (map bare names ++ xs)) rest (with_fit (map bare names, n) (params_end false v (suc n) (type_at (suc n)) (found (suc n) k false (param [] false ty i.start)) vs))) same
    (behind_again (suc n) j 1 n (map bare names) xs rest (params_end false v (suc n) (type_at (suc n)) (found (suc n) k false (param [] false ty i.start)) vs) (omega arith) (omega arith) (omega arith) (g f)))

-- where the next token shows it
pub types_again : (v : Bool) (n k j : ℕ) (names : List Ident) (i : Ident) (us : List Symbol) (ty : TypeExpr) (vs : List Symbol) (xs : List ParamExpr) (rest : List Symbol) → starts shows_type us ≡ true → 1 ≤ k → k ≤ j → Agrees n k (sized n k ty) vs (type_at n (t.Ident i ∷ us))
    → (k ≤ n → Agrees n j (sized n j xs) rest (params_end false v n (type_at n) (found n k false (param [] false ty i.start)) vs))
    → Agrees n (max (bare_height names) j) (sized n (max (bare_height names) j) (map bare names ++ xs)) rest (after_ident v n (type_at n) names i us)
types_again v n k j names i us ty vs xs rest s p l h g = rw s (types_by_again v n k j names i us ty vs xs rest p l h g)

-- before a bracket, where the reading as a name loses
pub bracket_again : (v : Bool) (n k j : ℕ) (names : List Ident) (i : Ident) (o : ℕ) (us : List Symbol) (ty : TypeExpr) (vs : List Symbol) (xs : List ParamExpr) (rest : List Symbol) → 1 ≤ k → k ≤ j → Agrees n k (sized n k ty) vs (type_at n (t.Ident i ∷ t.OpenBracket o ∷ us))
    → (k ≤ n → Agrees n j (sized n j xs) rest (params_end false v n (type_at n) (found n k false (param [] false ty i.start)) vs))
    → Loses (named_by v n (type_at n) names i (t.OpenBracket o ∷ us)) (types_by v n (type_at n) names i (t.OpenBracket o ∷ us))
    → Agrees n (max (bare_height names) j) (sized n (max (bare_height names) j) (map bare names ++ xs)) rest (after_ident v n (type_at n) names i (t.OpenBracket o ∷ us))
bracket_again v n k j names i o us ty vs xs rest p l h g loses =
    second_counts n (max (bare_height names) j) (sized n (max (bare_height names) j) (map bare names ++ xs)) rest (named_by v n (type_at n) names i (t.OpenBracket o ∷ us)) (types_by v n (type_at n) names i (t.OpenBracket o ∷ us)) loses
    (types_by_again v n k j names i (t.OpenBracket o ∷ us) ty vs xs rest p l h g)

-- one more identifier with a comma is one more type
bare_more : (names : List Ident) (i : Ident) (xs : List ParamExpr) → map bare (names ++ i ∷ []) ++ xs ≡ map bare names ++ (bare i ∷ xs)
bare_more [] i xs = refl
bare_more (j ∷ names) i xs = ap (λ (ys : List ParamExpr). bare j ∷ ys) (bare_more names i xs)

pub height_more : (names : List Ident) (i : Ident) → bare_height (names ++ i ∷ []) ≡ 1
height_more [] i = refl
height_more (j ∷ names) i = refl

pub bare_again : (n m : ℕ) (names : List Ident) (i : Ident) (xs : List ParamExpr) (rest : List Symbol) (r : Reply (Fit (List ParamExpr))) → Agrees n (max (bare_height (names ++ i ∷ [])) m) (sized n (max (bare_height (names ++ i ∷ [])) m) (map bare (names ++ i ∷ []) ++ xs)) rest r
    → Agrees n (max (bare_height names) (max 1 m)) (sized n (max (bare_height names) (max 1 m)) (map bare names ++ (bare i ∷ xs))) rest r
bare_again n m names i xs rest r h =
    let e : max (bare_height (names ++ i ∷ [])) m ≡ max (bare_height names) (max 1 m) = omega (arith, height_more names i, small_height names) in
    subst (λ (ys : List ParamExpr). Agrees n (max (bare_height names) (max 1 m)) (sized n (max (bare_height names) (max 1 m)) ys) rest r) (bare_more names i xs)
    (subst (λ j. Agrees n j (sized n j (map bare (names ++ i ∷ []) ++ xs)) rest r) e h)

-- no identifier comes next
pub from_other : (v : Bool) (n : ℕ) (inner : List Symbol → Reply (Fit TypeExpr)) (names : List Ident) (ts : List Symbol) → starts is_ident ts ≡ false → params_from v n inner names ts ≡ after_bare v n inner names ts
from_other v n inner names [] e = refl
from_other v n inner names (t.Ident i ∷ ts) e = absurd cc
from_other v n inner names (k ∷ ts) e = refl

-- ---- identifiers that are names

abbrev pub head_start : List Ident → ℕ
head_start [] = 0
head_start (i ∷ names) = i.start

names_by_again : (v : Bool) (n m : ℕ) (names : List Ident) (i : Ident) (us : List Symbol) (ty : TypeExpr) (rest : List Symbol) → starts begins_type us ≡ true → Agrees n m (sized n m ty) rest (type_at n us)
    → Agrees n m (found n m false (param (names ++ i ∷ []) false ty (head_start (names ++ i ∷ [])))) rest (names_by v (type_at n) names i us)
names_by_again v n m [] i us ty rest b h = rw (lone_is v (type_at n) i us b) (param_type_again n m (i ∷ []) false i.start us ty rest h)
names_by_again v n m (j ∷ names) i us ty rest b h = param_type_again n m (j ∷ names ++ i ∷ []) false j.start us ty rest h

-- a name, before a bracket or not
name_again : (v : Bool) (n j : ℕ) (names : List Ident) (i : Ident) (us : List Symbol) (xs : List ParamExpr) (rest : List Symbol) (b : Bool) → starts is_open_bracket us ≡ b → Agrees n j (sized n j xs) rest (named_by v n (type_at n) names i us)
    → Agrees n j (sized n j xs) rest (name_or_type v n (type_at n) names i us)
name_again v n j names i us xs rest true e h = rw e (first_counts n j (sized n j xs) rest (named_by v n (type_at n) names i us) (types_by v n (type_at n) names i us) h)
name_again v n j names i us xs rest false e h = rw e h

-- after the first parameter
pub first_again : (v : Bool) (n m j : ℕ) (f : Bool) (x : ParamExpr) (us vs : List Symbol) (xs : List ParamExpr) (rest : List Symbol) (names : List Ident) (i : Ident) → starts shows_type us ≡ false
    → Agrees n m (found n m f x) vs (names_by v (type_at n) names i us) → m ≤ j → (m ≤ n → Agrees n j (sized n j xs) rest (params_end true v n (type_at n) (found n m f x) vs)) → Agrees n j (sized n j xs) rest (after_ident v n (type_at n) names i us)
first_again v n m j f x us vs xs rest names i s h l g =
    rw s (name_again v n j names i us xs rest (starts is_open_bracket us) refl
    (agrees_bind n m (found n m f x) vs n j (sized n j xs) rest (names_by v (type_at n) names i us) (λ z ws. with_fit ([], n) (params_end true v n (type_at n) z ws)) h (λ d. omega arith)
    (λ le. none_again n j xs rest (params_end true v n (type_at n) (found n m f x) vs) (g le))))

pub shared_first : (v : Bool) (n m j : ℕ) (front names : List Ident) (ts us vs : List Symbol) (ty : TypeExpr) (xs : List ParamExpr) (rest : List Symbol) → IsNames ts names us → starts begins_type us ≡ true → Agrees n m (sized n m ty) vs (type_at n us) → m ≤ j
    → (m ≤ n → Agrees n j (sized n j xs) rest (params_end true v n (type_at n) (found n m false (param (front ++ names) false ty (head_start (front ++ names)))) vs)) → Agrees n j (sized n j xs) rest (params_from v n (type_at n) front ts)
shared_first v n m j front names ts us vs ty xs rest (one i r) b h l g =
    agrees_from n j (sized n j xs) rest (after_ident v n (type_at n) front i us) (params_from v n (type_at n) front (t.Ident i ∷ us)) (ident_from us b)
    (first_again v n m j false (param (front ++ i ∷ []) false ty (head_start (front ++ i ∷ []))) us vs xs rest front i (not_shown us b) (names_by_again v n m front i us ty vs b h) l g)
  where
    ident_from : (ws : List Symbol) → starts begins_type ws ≡ true → params_from v n (type_at n) front (t.Ident i ∷ ws) ≡ after_ident v n (type_at n) front i ws
    ident_from [] e = refl
    ident_from (t.Comma c ∷ ws) e = absurd cc
    ident_from (k ∷ ws) e = refl
shared_first v n m j front names ts us vs ty xs rest (more i c ws ns r q) b h l g =
    shared_first v n m j (front ++ i ∷ []) ns ws us vs ty xs rest q b h l
    (λ le. subst (λ (zs : List Ident). Agrees n j (sized n j xs) rest (params_end true v n (type_at n) (found n m false (param zs false ty (head_start zs))) vs)) (sym (append_assoc front (i ∷ []) ns)) (g le))

-- ---- signatures

pub no_result_again : (n m at : ℕ) (ts : List Symbol) (ps : List ParamExpr) (rest : List Symbol) → Free rest → Agrees n m (sized n m ps) rest (params_from true n (type_at n) [] ts)
    → Agrees n m (sized n m (signature ps [] at)) rest (sig_at n (type_at n) (t.OpenParen at ∷ ts))
no_result_again n m at ts ps rest e h =
    agrees_bind n m (sized n m ps) rest n m (sized n m (signature ps [] at)) rest (params_from true n (type_at n) [] ts) (results_by n (type_at n) at) h (λ d. d)
    (λ le. rw (choose_other is_open_paren rest (result_list n (type_at n) at (sized n m ps)) (peek begins_type rest (result_type (type_at n) at (sized n m ps) rest) (no_results at (sized n m ps) rest)) (free_paren rest e), free_type rest e) (refl, refl, le))

pub results_again : (n m j at o : ℕ) (ts us : List Symbol) (ps rs : List ParamExpr) (rest : List Symbol) → Agrees n m (sized n m ps) (t.OpenParen o ∷ us) (params_from true n (type_at n) [] ts) → Agrees n j (sized n j rs) rest (params_from false n (type_at n) [] us)
    → Agrees n (max m j) (sized n (max m j) (signature ps rs at)) rest (sig_at n (type_at n) (t.OpenParen at ∷ ts))
results_again n m j at o ts us ps rs rest h g =
    let e : min (n - m) (n - j) ≡ n - max m j = omega arith in
    agrees_bind n m (sized n m ps) (t.OpenParen o ∷ us) n (max m j) (sized n (max m j) (signature ps rs at)) rest (params_from true n (type_at n) [] ts) (results_by n (type_at n) at) h (λ d. omega arith)
    (λ le. agrees_bind n j (sized n j rs) rest n (max m j) (sized n (max m j) (signature ps rs at)) rest (params_from false n (type_at n) [] us) (λ z ws. Ok ((signature ps z.0 at, min (n - m) z.1), ws)) g (λ d. omega arith)
    (λ l. (ap (fit_at (signature ps rs at)) e, refl, omega arith)))

pub result_again : (n m j at : ℕ) (ts us : List Symbol) (ps : List ParamExpr) (ty : TypeExpr) (rest : List Symbol) → Agrees n m (sized n m ps) us (params_from true n (type_at n) [] ts) → starts is_open_paren us ≡ false → starts begins_type us ≡ true
    → Agrees n j (sized n j ty) rest (type_at n us) → Agrees n (max m j) (sized n (max m j) (signature ps (param [] false ty (start_of us) ∷ []) at)) rest (sig_at n (type_at n) (t.OpenParen at ∷ ts))
result_again n m j at ts us ps ty rest h p b g =
    let e : min (n - m) (n - j) ≡ n - max m j = omega arith in
    agrees_bind n m (sized n m ps) us n (max m j) (sized n (max m j) (signature ps (param [] false ty (start_of us) ∷ []) at)) rest (params_from true n (type_at n) [] ts) (results_by n (type_at n) at) h (λ d. omega arith)
    (λ le. rw (choose_other is_open_paren us (result_list n (type_at n) at (sized n m ps)) (peek begins_type us (result_type (type_at n) at (sized n m ps) us) (no_results at (sized n m ps) us)) p, b)
    (agrees_bind n j (found n j false (param [] false ty (start_of us))) rest n (max m j) (sized n (max m j) (signature ps (param [] false ty (start_of us) ∷ []) at)) rest (type_param (type_at n) us)
    (λ z ws. Ok ((signature ps (z.expr ∷ []) at, min (n - m) z.fit), ws)) (type_param_again n j us ty rest g) (λ d. omega arith) (λ l. (ap (fit_at (signature ps (param [] false ty (start_of us) ∷ []) at)) e, refl, omega arith))))
