-- Unions and elements of interfaces that are written are read again, where the types in them are.
use Rattle.std.proofs.Common.{◌≡◌, ℕ, zero, suc, ◌-◌, ◌<◌, ◌≤◌, min, max, true, false, List, [], ◌∷◌, Ok, refl, sym, ap, subst, arith}
use Rattle.go_expr_syntax.specs.declared.symbols.Symbol.{Symbol}
use Rattle.go_expr_syntax.specs.declared.symbols.Symbol.TheVariants as t
use Rattle.go_expr_syntax.specs.declared.symbols.Ident.{Ident}
use Rattle.go_type_syntax.specs.declared.tree.SigExpr.{SigExpr}
use Rattle.go_type_syntax.specs.declared.tree.TermExpr.{TermExpr}
use Rattle.go_type_syntax.specs.declared.tree.ElemExpr.{ElemExpr}
use Rattle.go_type_syntax.specs.declared.tree.ElemExpr.TheVariants as elem
use Rattle.go_type_syntax.specs.declared.tree.TypeExpr.{TypeExpr}
use Rattle.go_type_syntax.specs.declared.tree.TypeExpr.TheVariants as y
use Rattle.go_expr_syntax.specs.Reading.{Reply, starts, begins_type, is_tilde, is_bar, is_open_paren, is_semicolon, is_close_brace, start_of, placed, Fit, fits, told_at, ◌>>=◌}
use Rattle.go_type_syntax.specs.Grammar.{term}
use Rattle.go_type_syntax.specs.Params.{sig_at}
use Rattle.go_type_syntax.specs.Elements.{name_by, tilde_term, plain_term, term_at, terms_at, more_terms, after_type, after_tilde, tilde_by, type_first, union_at, name_first, union_elem, elem_at, elems_at}
use Rattle.go_expr_syntax.specs.Reading.{shows_elem}
use Rattle.go_type_syntax.specs.Types.{readers, type_at, lower_at}
use Rattle.go_expr_syntax.proofs.Agreeing.{Agrees, agrees_bind, agrees_as, agrees_from, sized, fit_at, placed_again, choose_other, series_none, series_once, series_twice, less_none, less_last, less_more, chain_once, chain_twice, untold_then}
use Rattle.go_expr_syntax.proofs.NameReads.{through_value}
use Rattle.go_type_syntax.proofs.Follows.{no_tilde}
use Rattle.go_type_syntax.proofs.TypeReads.{term_eats, elem_eats}

-- ---- terms

-- what reads the terms behind a bar reads types with a node less
pub lower_step : (n : ℕ) → lower_at (suc n) ≡ type_at n
unfolding readers
lower_step n = refl

pub term_plain : (lower : List Symbol → Reply (Fit TypeExpr)) (n m : ℕ) (us : List Symbol) (ty : TypeExpr) (rest : List Symbol) → starts begins_type us ≡ true → Agrees n m (sized n m ty) rest (lower us)
    → Agrees n m (sized n m (term false ty (start_of us))) rest (term_at lower us)
term_plain lower n m us ty rest b h =
    rw (choose_other is_tilde us (tilde_term lower (start_of us)) (plain_term lower us) (no_tilde us b))
    (agrees_bind n m (sized n m ty, start_of us) rest n m (sized n m (term false ty (start_of us))) rest (placed lower us) (λ z ws. Ok ((term false z.0.0 z.1, z.0.1), ws)) (placed_again n m (sized n m ty) rest us lower h) (λ d. d) (λ le. (refl, refl, le)))

pub term_tilde : (lower : List Symbol → Reply (Fit TypeExpr)) (n m at : ℕ) (us : List Symbol) (ty : TypeExpr) (rest : List Symbol) → Agrees n m (sized n m ty) rest (lower us)
    → Agrees n m (sized n m (term true ty at)) rest (term_at lower (t.Tilde at ∷ us))
term_tilde lower n m at us ty rest h = agrees_bind n m (sized n m ty) rest n m (sized n m (term true ty at)) rest (lower us) (λ z ws. Ok ((term true z.0 at, z.1), ws)) h (λ d. d) (λ le. (refl, refl, le))

abbrev one_term : Fit TermExpr → Fit (List TermExpr)
one_term x = (x.0 ∷ [], x.1)

abbrev cons_term : Fit TermExpr → Fit (List TermExpr) → Fit (List TermExpr)
cons_term x xs = (x.0 ∷ xs.0, min x.1 xs.1)

pub terms_one : (n m : ℕ) (ts : List Symbol) (x : TermExpr) (rest : List Symbol) → starts is_bar rest ≡ false → Agrees n m (sized n m x) rest (term_at (type_at n) ts) → Agrees n m (sized n m (x ∷ [])) rest (terms_at (type_at n) ts)
terms_one n m ts x rest e h = subst (λ lower. Agrees n m (sized n m x) rest (term_at lower ts) → Agrees n m (sized n m (x ∷ [])) rest (terms_at lower ts)) (lower_step n) (λ g. chain_once is_bar one_term cons_term (term_at (lower_at (suc n))) (term_eats (suc n)) n m ts (sized n m x) rest e g) h

pub terms_more : (n m j b : ℕ) (ts us : List Symbol) (x : TermExpr) (xs : List TermExpr) (rest : List Symbol) → Agrees n m (sized n m x) (t.Bar b ∷ us) (term_at (type_at n) ts) → Agrees n j (sized n j xs) rest (terms_at (type_at n) us)
    → Agrees n (max m j) (sized n (max m j) (x ∷ xs)) rest (terms_at (type_at n) ts)
terms_more n m j b ts us x xs rest h g =
    agrees_as n (max m j) (fit_at (x ∷ xs) (min (n - m) (n - j))) (sized n (max m j) (x ∷ xs)) rest (terms_at (type_at n) ts) (less_more n m j (n - m) x xs refl)
    (subst (λ lower. Agrees n m (sized n m x) (t.Bar b ∷ us) (term_at lower ts) → Agrees n j (sized n j xs) rest (terms_at lower us) → Agrees n (max m j) (fit_at (x ∷ xs) (min (n - m) (n - j))) rest (terms_at lower ts)) (lower_step n)
    (λ a c. chain_twice is_bar one_term cons_term (term_at (lower_at (suc n))) (term_eats (suc n)) n m j ts (sized n m x) (t.Bar b) us (sized n j xs) rest refl a c) h g)

-- ---- unions

after_none : (lower : List Symbol → Reply (Fit TypeExpr)) (ty : TypeExpr) (fit at : ℕ) (rest : List Symbol) → starts is_bar rest ≡ false → after_type lower ty fit at rest ≡ Ok ((ty, fit), rest)
after_none lower ty zero at rest e = rw e refl
after_none lower ty (suc fit) at rest e = choose_other is_bar rest (more_terms lower (term false ty at, fit) at) (Ok ((ty, suc fit), rest)) e

first_opens : (n : ℕ) (inner lower : List Symbol → Reply (Fit TypeExpr)) (us : List Symbol) → starts begins_type us ≡ true → union_at n inner lower us ≡ type_first inner lower us
first_opens n inner lower us b = rw (no_tilde us b) refl

pub union_alone : (n m : ℕ) (lower : List Symbol → Reply (Fit TypeExpr)) (us : List Symbol) (ty : TypeExpr) (rest : List Symbol) → starts begins_type us ≡ true → starts is_bar rest ≡ false → Agrees n m (sized n m ty) rest (type_at n us)
    → Agrees n m (sized n m ty) rest (union_at n (type_at n) lower us)
union_alone n m lower us ty rest b e h =
    rw (first_opens n (type_at n) lower us b)
    (agrees_bind n m (sized n m ty, start_of us) rest n m (sized n m ty) rest (placed (type_at n) us) (λ z ws. after_type lower z.0.0 z.0.1 z.1 ws) (placed_again n m (sized n m ty) rest us (type_at n) h) (λ d. d)
    (λ le. agrees_from n m (sized n m ty) rest (Ok (sized n m ty, rest)) (after_type lower ty (n - m) (start_of us) rest) (after_none lower ty (n - m) (start_of us) rest e) (refl, refl, le)))

-- the terms behind the first, which has m nodes of n
more_again : (n m j : ℕ) (x : TermExpr) (at : ℕ) (us : List Symbol) (xs : List TermExpr) (rest : List Symbol) → m ≤ n → Agrees n j (sized n j xs) rest (terms_at (type_at n) us)
    → Agrees (suc n) (suc (max m j)) (sized (suc n) (suc (max m j)) (y.Union (x ∷ xs) at)) rest (more_terms (lower_at (suc n)) (x, n - m) at us)
more_again n m j x at us xs rest le h =
    let e : min (n - m) (n - j) ≡ suc n - suc (max m j) = omega arith in
    subst (λ lower. Agrees (suc n) (suc (max m j)) (sized (suc n) (suc (max m j)) (y.Union (x ∷ xs) at)) rest (more_terms lower (x, n - m) at us)) (sym (lower_step n))
    (agrees_bind n j (sized n j xs) rest (suc n) (suc (max m j)) (sized (suc n) (suc (max m j)) (y.Union (x ∷ xs) at)) rest (terms_at (type_at n) us) (λ z ws. Ok ((y.Union (x ∷ z.0) at, min (n - m) z.1), ws)) h (λ d. omega arith)
    (λ l. (ap (fit_at (y.Union (x ∷ xs) at)) e, refl, omega arith)))

pub tilde_alone : (n m at : ℕ) (us : List Symbol) (ty : TypeExpr) (rest : List Symbol) → starts is_bar rest ≡ false → ((l : ℕ) → Agrees l m (sized l m ty) rest (type_at l us))
    → Agrees n (suc m) (sized n (suc m) (y.Union (term true ty at ∷ []) at)) rest (union_at n (type_at n) (lower_at n) (t.Tilde at ∷ us))
tilde_alone zero m at us ty rest e h = omega arith
tilde_alone (suc n) m at us ty rest e h =
    let o : n - m ≡ suc n - suc m = omega arith in
    subst (λ lower. Agrees (suc n) (suc m) (sized (suc n) (suc m) (y.Union (term true ty at ∷ []) at)) rest (tilde_by lower at us)) (sym (lower_step n))
    (agrees_bind n m (sized n m ty) rest (suc n) (suc m) (sized (suc n) (suc m) (y.Union (term true ty at ∷ []) at)) rest (type_at n us) (λ z ws. after_tilde (type_at n) z at ws) (h n) (λ d. omega arith)
    (λ le. agrees_from (suc n) (suc m) (sized (suc n) (suc m) (y.Union (term true ty at ∷ []) at)) rest (Ok (fit_at (y.Union (term true ty at ∷ []) at) (n - m), rest)) (after_tilde (type_at n) (sized n m ty) at rest)
    (choose_other is_bar rest (more_terms (type_at n) (term true ty at, n - m) at) (Ok (fit_at (y.Union (term true ty at ∷ []) at) (n - m), rest)) e) (ap (fit_at (y.Union (term true ty at ∷ []) at)) o, refl, omega arith)))

pub tilde_several : (n m j at b : ℕ) (ws us : List Symbol) (ty : TypeExpr) (xs : List TermExpr) (rest : List Symbol) → ((l : ℕ) → Agrees l m (sized l m ty) (t.Bar b ∷ us) (type_at l ws)) → ((l : ℕ) → Agrees l j (sized l j xs) rest (terms_at (type_at l) us))
    → Agrees n (suc (max m j)) (sized n (suc (max m j)) (y.Union (term true ty at ∷ xs) at)) rest (union_at n (type_at n) (lower_at n) (t.Tilde at ∷ ws))
tilde_several zero m j at b ws us ty xs rest h g = omega arith
tilde_several (suc n) m j at b ws us ty xs rest h g =
    subst (λ lower. Agrees n m (sized n m ty) (t.Bar b ∷ us) (lower ws) → Agrees (suc n) (suc (max m j)) (sized (suc n) (suc (max m j)) (y.Union (term true ty at ∷ xs) at)) rest (tilde_by (lower_at (suc n)) at ws)) (lower_step n)
    (λ a. agrees_bind n m (sized n m ty) (t.Bar b ∷ us) (suc n) (suc (max m j)) (sized (suc n) (suc (max m j)) (y.Union (term true ty at ∷ xs) at)) rest (lower_at (suc n) ws) (λ z vs. after_tilde (lower_at (suc n)) z at vs) a (λ d. omega arith)
    (λ le. more_again n m j (term true ty at) at us xs rest le (g n))) (h n)

bar_deep : (lower : List Symbol → Reply (Fit TypeExpr)) (ty : TypeExpr) (at b : ℕ) (us : List Symbol) (n m : ℕ) (z : Fit TypeExpr) (rest : List Symbol) (fit : ℕ) → fit ≡ 0 → n < m → Agrees n m z rest (after_type lower ty fit at (t.Bar b ∷ us))
bar_deep lower ty at b us n m z rest zero e d = d
bar_deep lower ty at b us n m z rest (suc fit) e d = absurd (omega arith)

bar_more : (lower : List Symbol → Reply (Fit TypeExpr)) (ty : TypeExpr) (at b : ℕ) (us : List Symbol) (n m : ℕ) (z : Fit TypeExpr) (rest : List Symbol) (fit k : ℕ) → fit ≡ suc k → Agrees n m z rest (more_terms lower (term false ty at, k) at us) → Agrees n m z rest (after_type lower ty fit at (t.Bar b ∷ us))
bar_more lower ty at b us n m z rest zero k e h = absurd (omega arith)
bar_more lower ty at b us n m z rest (suc fit) k e h = let same : k ≡ fit = omega arith in subst (λ j. Agrees n m z rest (more_terms lower (term false ty at, j) at us)) same h

-- a first term of m nodes, where n are allowed, and more terms
bar_again : (n m j at b : ℕ) (ty : TypeExpr) (us : List Symbol) (xs : List TermExpr) (rest : List Symbol) → m ≤ n → 1 ≤ m → ((l : ℕ) → Agrees l j (sized l j xs) rest (terms_at (type_at l) us))
    → Agrees n (suc (max m j)) (sized n (suc (max m j)) (y.Union (term false ty at ∷ xs) at)) rest (after_type (lower_at n) ty (n - m) at (t.Bar b ∷ us))
bar_again zero m j at b ty us xs rest le p g = absurd (omega arith)
bar_again (suc n) m j at b ty us xs rest le p g = by_fit (suc n - m) refl
  where
    by_fit : (fit : ℕ) → suc n - m ≡ fit → Agrees (suc n) (suc (max m j)) (sized (suc n) (suc (max m j)) (y.Union (term false ty at ∷ xs) at)) rest (after_type (lower_at (suc n)) ty (suc n - m) at (t.Bar b ∷ us))
    by_fit zero e = bar_deep (lower_at (suc n)) ty at b us (suc n) (suc (max m j)) (sized (suc n) (suc (max m j)) (y.Union (term false ty at ∷ xs) at)) rest (suc n - m) e (omega arith)
    by_fit (suc fit) e =
        let l : m ≤ n = omega arith in
        let f : suc n - m ≡ suc (n - m) = omega arith in
        bar_more (lower_at (suc n)) ty at b us (suc n) (suc (max m j)) (sized (suc n) (suc (max m j)) (y.Union (term false ty at ∷ xs) at)) rest (suc n - m) (n - m) f (more_again n m j (term false ty at) at us xs rest l (g n))

pub plain_several : (n m j b : ℕ) (ws us : List Symbol) (ty : TypeExpr) (xs : List TermExpr) (rest : List Symbol) → starts begins_type ws ≡ true → 1 ≤ m → Agrees n m (sized n m ty) (t.Bar b ∷ us) (type_at n ws) → ((l : ℕ) → Agrees l j (sized l j xs) rest (terms_at (type_at l) us))
    → Agrees n (suc (max m j)) (sized n (suc (max m j)) (y.Union (term false ty (start_of ws) ∷ xs) (start_of ws))) rest (union_at n (type_at n) (lower_at n) ws)
plain_several n m j b ws us ty xs rest s p h g =
    rw (first_opens n (type_at n) (lower_at n) ws s)
    (agrees_bind n m (sized n m ty, start_of ws) (t.Bar b ∷ us) n (suc (max m j)) (sized n (suc (max m j)) (y.Union (term false ty (start_of ws) ∷ xs) (start_of ws))) rest (placed (type_at n) ws) (λ z vs. after_type (lower_at n) z.0.0 z.0.1 z.1 vs)
    (placed_again n m (sized n m ty) (t.Bar b ∷ us) ws (type_at n) h) (λ d. omega arith) (λ le. bar_again n m j (start_of ws) b ty us xs rest le p g))

-- ---- elements

pub method_again : (n m : ℕ) (i : Ident) (us : List Symbol) (s : SigExpr) (rest : List Symbol) → starts is_open_paren us ≡ true → Agrees n m (sized n m s) rest (sig_at n (type_at n) us)
    → Agrees n m (sized n m (elem.Method i s i.start)) rest (elem_at n (type_at n) (lower_at n) (t.Ident i ∷ us))
method_again n m i us s rest o h =
    rw o (agrees_bind n m (sized n m s) rest n m (sized n m (elem.Method i s i.start)) rest (sig_at n (type_at n) us) (λ z ws. Ok ((elem.Method i z.0 i.start, z.1), ws)) h (λ d. d) (λ le. (refl, refl, le)))

-- an embedded type that begins with an identifier
name_union : (n : ℕ) (i : Ident) (us : List Symbol) → union_at (suc n) (type_at (suc n)) (lower_at (suc n)) (t.Ident i ∷ us) ≡ (told_at i.start (name_by n (type_at n) i us) >>= λ z. after_type (lower_at (suc n)) z.0.0 z.0.1 i.start z.1)
unfolding readers
name_union n i us = through_value (told_at i.start (name_by n (type_at n) i us)) (λ (x : Fit TypeExpr). (x, i.start)) (λ z ws. after_type (lower_at (suc n)) z.0.0 z.0.1 z.1 ws)

pub ident_again : (n m : ℕ) (i : Ident) (us : List Symbol) (ty : TypeExpr) (rest : List Symbol) → starts is_open_paren us ≡ false → starts shows_elem us ≡ true → 1 ≤ m → Agrees n m (sized n m ty) rest (union_at n (type_at n) (lower_at n) (t.Ident i ∷ us))
    → Agrees n m (sized n m (elem.Embedded ty i.start)) rest (elem_at n (type_at n) (lower_at n) (t.Ident i ∷ us))
ident_again zero m i us ty rest o s p h = rw (o, s) (omega arith)
ident_again (suc n) m i us ty rest o s p h =
    rw o (agrees_bind (suc n) m (sized (suc n) m ty) rest (suc n) m (sized (suc n) m (elem.Embedded ty i.start)) rest (name_first n (lower_at (suc n)) i us) (λ z ws. Ok ((elem.Embedded z.0 i.start, z.1), ws))
    (subst (λ (read : List Symbol → Reply (Fit TypeExpr)). Agrees (suc n) m (sized (suc n) m ty) rest (name_by n read i us >>= λ z. after_type (lower_at (suc n)) z.0.0 z.0.1 i.start z.1)) (sym (lower_step n))
    (untold_then (suc n) m (sized (suc n) m ty) rest i.start (name_by n (type_at n) i us) (λ z. after_type (lower_at (suc n)) z.0.0 z.0.1 i.start z.1) (subst (Agrees (suc n) m (sized (suc n) m ty) rest) (name_union n i us) h)))
    (λ d. d) (λ le. (refl, refl, le)))

-- one that doesn't
pub union_again_at : (n m : ℕ) (us : List Symbol) (ty : TypeExpr) (rest : List Symbol) → Agrees n m (sized n m ty) rest (union_at n (type_at n) (lower_at n) us) → Agrees n m (sized n m (elem.Embedded ty (start_of us))) rest (union_elem n (type_at n) (lower_at n) us)
union_again_at n m us ty rest h =
    agrees_bind n m (sized n m ty, start_of us) rest n m (sized n m (elem.Embedded ty (start_of us))) rest (placed (union_at n (type_at n) (lower_at n)) us) (λ z ws. Ok ((elem.Embedded z.0.0 z.1, z.0.1), ws))
    (placed_again n m (sized n m ty) rest us (union_at n (type_at n) (lower_at n)) h) (λ d. d) (λ le. (refl, refl, le))

module _ (n : ℕ) where
  abbrev one_at : List Symbol → Reply (Fit ElemExpr)
  one_at = elem_at n (type_at n) (lower_at n)

  pub elems_none : (c : ℕ) (rest : List Symbol) → Agrees n 0 (sized n 0 []) rest (elems_at n (type_at n) (lower_at n) (t.CloseBrace c ∷ rest))
  elems_none c rest = agrees_as n 0 (fit_at [] n) (sized n 0 []) rest (elems_at n (type_at n) (lower_at n) (t.CloseBrace c ∷ rest)) (less_none n) (series_none (fits n is_semicolon is_close_brace) one_at (elem_eats n) n (t.CloseBrace c) rest refl)

  pub elems_last : (m : ℕ) (ts : List Symbol) (x : ElemExpr) (c : ℕ) (rest : List Symbol) → starts is_close_brace ts ≡ false → Agrees n m (sized n m x) (t.CloseBrace c ∷ rest) (one_at ts) → Agrees n m (sized n m (x ∷ [])) rest (elems_at n (type_at n) (lower_at n) ts)
  elems_last m ts x c rest e h =
      agrees_as n m (fit_at (x ∷ []) (min (n - m) n)) (sized n m (x ∷ [])) rest (elems_at n (type_at n) (lower_at n) ts) (less_last n m (n - m) x refl)
      (series_once (fits n is_semicolon is_close_brace) one_at (elem_eats n) n m ts (sized n m x) (t.CloseBrace c) rest e refl h)

  pub elems_more : (m j : ℕ) (ts : List Symbol) (x : ElemExpr) (s : ℕ) (us : List Symbol) (xs : List ElemExpr) (rest : List Symbol) → starts is_close_brace ts ≡ false → Agrees n m (sized n m x) (t.Semicolon s ∷ us) (one_at ts)
      → Agrees n j (sized n j xs) rest (elems_at n (type_at n) (lower_at n) us) → Agrees n (max m j) (sized n (max m j) (x ∷ xs)) rest (elems_at n (type_at n) (lower_at n) ts)
  elems_more m j ts x s us xs rest e h g =
      agrees_as n (max m j) (fit_at (x ∷ xs) (min (n - m) (n - j))) (sized n (max m j) (x ∷ xs)) rest (elems_at n (type_at n) (lower_at n) ts) (less_more n m j (n - m) x xs refl)
      (series_twice (fits n is_semicolon is_close_brace) one_at (elem_eats n) n m j ts (sized n m x) (t.Semicolon s) us (sized n j xs) rest e refl refl refl h g)
