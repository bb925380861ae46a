-- What the readers of parameters and signatures do.
use Rattle.std.proofs.Common.{◌≡◌, ℕ, zero, suc, max, min, Bool, true, false, List, [], ◌∷◌, ◌++◌, map, refl, sym, subst, ◌∙◌, append_assoc}
use Rattle.go_expr_syntax.specs.declared.symbols.Symbol.{Symbol}
use Rattle.go_expr_syntax.specs.declared.symbols.Symbol.TheVariants as t
use Rattle.go_expr_syntax.specs.declared.symbols.Ident.{Ident}
use Rattle.go_type_syntax.specs.declared.params.Param.{Param}
use Rattle.go_type_syntax.specs.declared.tree.ParamExpr.{ParamExpr}
use Rattle.go_type_syntax.specs.declared.tree.SigExpr.{SigExpr}
use Rattle.go_type_syntax.specs.declared.tree.TypeExpr.{TypeExpr}
use Rattle.go_expr_syntax.specs.Reading.{Reply, ◌>>=◌, unexpected, too_deep, past, choose, peek, starts, begins_type, is_comma, is_ellipsis, is_open_paren, is_open_bracket, symbol_start, start_of, placed, Fit, with_fit}
use Rattle.go_expr_syntax.specs.Names.{plain, selected, IsNames, one, more, ident_at, names_at}
use Rattle.go_type_syntax.specs.Grammar as g
use Rattle.go_type_syntax.specs.Grammar.{instance, named, param, signature, IsType, IsParam, IsParams}
use Rattle.go_type_syntax.specs.Params.{item, params, param_type, type_param, unnamed_param, lone_param, more_params, first_param, named_param, param_at, params_row, params_end, bare, after_bare, types_by, names_by, named_by, array_or_instance, name_or_type, after_ident, params_from, result_list, result_type, no_results, results_by, sig_by, sig_at}
use Rattle.go_expr_syntax.specs.Reading.{shows_types, shows_type}
use Rattle.go_expr_syntax.proofs.Viable.{next_is, ends_so, ReadsAt, Sample, Behind, Past, After, done_reads, refuse_next, refuse_end, like_reads, as_reads, cons_reads, choose_reads, peek_reads, stuck_reads, deep_reads, bind_reads, value_reads, only_reads, starts_same}
use Rattle.go_expr_syntax.proofs.EitherReads.{either_on}
use Rattle.go_expr_syntax.proofs.Marks.{comma, ellipsis, open_paren, close_paren}
use Rattle.go_expr_syntax.proofs.NameReads.{IsIdent, any_ident, ident_reads, names_reads, through_value}
use Rattle.go_type_syntax.proofs.Standing.{no_literal, no_literal_of, Begun, type_begun_by, dotted_stands, applied_stands, NamedAt, TypeAt, ParamAt, ParamsAt, SigAt, Placed, name_stands, no_type_here, no_type_of, no_param, placed_reads}
use Rattle.go_expr_syntax.proofs.Rows.{IsSeries, series_reads, end_reads}

-- what reads the types inside
abbrev pub ReadsTypes : (List Symbol → Reply (Fit TypeExpr)) → Type 0
ReadsTypes inner = (us : List Symbol) → ReadsAt TypeAt inner us (inner us)

-- ---- one parameter

type_reads : (v : Bool) (inner : List Symbol → Reply (Fit TypeExpr)) → ReadsTypes inner → (ts : List Symbol) → ReadsAt (ParamAt false v) (type_param inner) ts (type_param inner ts)
type_reads v inner h ts =
    value_reads (Placed TypeAt) (ParamAt false v) (placed inner) (λ x. item [] false x.0 x.1) ts (λ us x rest w. rw w.1 (w.0.0, g.unnamed v w.0.0 us x.0.0 rest w.0.1)) (placed inner ts)
    (placed_reads TypeAt inner ts no_type_here no_literal (inner ts) (h ts))

unnamed_reads : (v : Bool) (inner : List Symbol → Reply (Fit TypeExpr)) → ReadsTypes inner → (ts : List Symbol) → ReadsAt (ParamAt false v) (unnamed_param v inner) ts (unnamed_param v inner ts)
unnamed_reads false inner h ts = type_reads false inner h ts
unnamed_reads true inner h [] = like_reads (ParamAt false true) (unnamed_param true inner) (type_param inner) [] (type_param inner []) (ends_so (λ r. unnamed_param true inner r ≡ type_param inner r) refl) (type_reads true inner h [])
unnamed_reads true inner h (t.Ellipsis at ∷ ts) =
    cons_reads (ParamAt false true) (unnamed_param true inner) (param_type inner [] true at) (t.Ellipsis at) ts (param_type inner [] true at ts) (λ r. refl)
    (value_reads TypeAt (Behind (t.Ellipsis at) (ParamAt false true)) inner (λ ty. item [] true ty at) ts (λ us ty rest w. (w.0, g.unnamed_rest w.0 at us ty.0 rest w.1)) (inner ts) (h ts))
unnamed_reads true inner h (k ∷ ts) =
    like_reads (ParamAt false true) (unnamed_param true inner) (type_param inner) (k ∷ ts) (type_param inner (k ∷ ts)) (next_is (λ r. unnamed_param true inner r ≡ type_param inner r) k (λ r. refl)) (type_reads true inner h (k ∷ ts))

-- after one name, and the type
sharing_reads : (v : Bool) (inner : List Symbol → Reply (Fit TypeExpr)) → ReadsTypes inner → (i : Ident) (names : List Ident) (ts : List Symbol)
    → ReadsAt (After IsNames (ParamAt true v) (i ∷ names)) (param_type inner (i ∷ names) false i.start) ts (param_type inner (i ∷ names) false i.start ts)
sharing_reads v inner h i names ts =
    value_reads TypeAt (After IsNames (ParamAt true v) (i ∷ names)) inner (λ ty. item (i ∷ names) false ty i.start) ts (λ us ty rest w vs q. (w.0, g.sharing v w.0 i names vs us ty.0 rest q w.1)) (inner ts) (h ts)

only_name : (v : Bool) (inner : List Symbol → Reply (Fit TypeExpr)) → ReadsTypes inner → (i : Ident) (ts : List Symbol)
    → ReadsAt (Behind (t.Ident i) (ParamAt true v)) (param_type inner (i ∷ []) false i.start) ts (param_type inner (i ∷ []) false i.start ts)
only_name v inner h i ts =
    as_reads (After IsNames (ParamAt true v) (i ∷ [])) (Behind (t.Ident i) (ParamAt true v)) (param_type inner (i ∷ []) false i.start) ts (param_type inner (i ∷ []) false i.start ts) (λ us x rest q. q (t.Ident i ∷ us) (one i us)) (sharing_reads v inner h i [] ts)

lone_reads : (v : Bool) (inner : List Symbol → Reply (Fit TypeExpr)) → ReadsTypes inner → (i : Ident) (ts : List Symbol) → ReadsAt (Behind (t.Ident i) (ParamAt true v)) (lone_param v inner i) ts (lone_param v inner i ts)
lone_reads false inner h i ts = only_name false inner h i ts
lone_reads true inner h i ts =
    choose_reads is_ellipsis (Behind (t.Ident i) (ParamAt true true)) ellipsis (param_type inner (i ∷ []) true i.start) (param_type inner (i ∷ []) false i.start) ts
    (λ us. value_reads TypeAt (Past ellipsis (Behind (t.Ident i) (ParamAt true true))) inner (λ ty. item (i ∷ []) true ty i.start) us (λ vs ty rest w at. (w.0, g.named_rest w.0 i at vs ty.0 rest w.1)) (inner us) (h us))
    (λ e. only_name true inner h i ts)

abbrev flat_params : (List Symbol → Reply (Fit TypeExpr)) → Ident → List Symbol → Reply Param
flat_params inner i ts = names_at ts >>= λ names. param_type inner (i ∷ names.0) false i.start names.1

flat_is : (inner : List Symbol → Reply (Fit TypeExpr)) (i : Ident) (ts : List Symbol) → more_params inner i ts ≡ flat_params inner i ts
flat_is inner i ts = through_value (names_at ts) (λ (names : List Ident). i ∷ names) (λ names us. param_type inner names false i.start us)

flat_reads : (v : Bool) (inner : List Symbol → Reply (Fit TypeExpr)) → ReadsTypes inner → (i : Ident) (ts : List Symbol)
    → ReadsAt (Past comma (Behind (t.Ident i) (ParamAt true v))) (flat_params inner i) ts (flat_params inner i ts)
flat_reads v inner h i ts =
    bind_reads IsNames (Past comma (Behind (t.Ident i) (ParamAt true v))) names_at (λ names us. param_type inner (i ∷ names) false i.start us) ts
    (λ names. record {
      tokens = t.Ident any_ident ∷ [];
      made = item (i ∷ names) false (named (plain any_ident), 0) i.start;
      stands = λ tail us w c. (1, g.sharing v 1 i names (t.Ident i ∷ t.Comma c ∷ us) (t.Ident any_ident ∷ tail) (named (plain any_ident)) tail (more i c us names (t.Ident any_ident ∷ tail) w) (name_stands any_ident tail));
    })
    (λ names us o. as_reads (After IsNames (ParamAt true v) (i ∷ names)) (After IsNames (Past comma (Behind (t.Ident i) (ParamAt true v))) names) (param_type inner (i ∷ names) false i.start) us (param_type inner (i ∷ names) false i.start us)
    (λ vs x rest q vs' w c. q (t.Ident i ∷ t.Comma c ∷ vs') (more i c vs' names vs w)) (sharing_reads v inner h i names us))
    (names_at ts) (names_reads ts)

first_reads : (v : Bool) (inner : List Symbol → Reply (Fit TypeExpr)) → ReadsTypes inner → (i : Ident) (ts : List Symbol) → ReadsAt (Behind (t.Ident i) (ParamAt true v)) (first_param v inner i) ts (first_param v inner i ts)
first_reads v inner h i ts =
    choose_reads is_comma (Behind (t.Ident i) (ParamAt true v)) comma (more_params inner i) (lone_param v inner i) ts
    (λ us. like_reads (Past comma (Behind (t.Ident i) (ParamAt true v))) (more_params inner i) (flat_params inner i) us (more_params inner i us) (λ r e. flat_is inner i r)
    (subst (ReadsAt (Past comma (Behind (t.Ident i) (ParamAt true v))) (flat_params inner i) us) (sym (flat_is inner i us)) (flat_reads v inner h i us)))
    (λ e. lone_reads v inner h i ts)

named_reads : (v : Bool) (inner : List Symbol → Reply (Fit TypeExpr)) → ReadsTypes inner → (ts : List Symbol) → ReadsAt (ParamAt true v) (named_param v inner) ts (named_param v inner ts)
named_reads v inner h ts =
    bind_reads IsIdent (ParamAt true v) ident_at (first_param v inner) ts
    (λ i. record {
      tokens = t.Ident any_ident ∷ [];
      made = item (i ∷ []) false (named (plain any_ident), 0) i.start;
      stands = λ tail us e. rw e (1, g.sharing v 1 i [] (t.Ident i ∷ t.Ident any_ident ∷ tail) (t.Ident any_ident ∷ tail) (named (plain any_ident)) tail (one i (t.Ident any_ident ∷ tail)) (name_stands any_ident tail));
    })
    (λ i us o. as_reads (Behind (t.Ident i) (ParamAt true v)) (After IsIdent (ParamAt true v) i) (first_param v inner i) us (first_param v inner i us) (λ vs x rest w ws e. rw e w) (first_reads v inner h i us))
    (ident_at ts) (ident_reads ts)

pub param_reads : (w v : Bool) (inner : List Symbol → Reply (Fit TypeExpr)) → ReadsTypes inner → (ts : List Symbol) → ReadsAt (ParamAt w v) (param_at w v inner) ts (param_at w v inner ts)
param_reads true v inner h ts = named_reads v inner h ts
param_reads false v inner h ts = unnamed_reads v inner h ts

-- ---- parameters

pub params_series : (w v : Bool) (n : ℕ) → IsSeries (params n) (ParamAt w v) (ParamsAt w v)
params_series w v n = record {
  between = comma;
  ending = close_paren;
  none = λ c rest. (0, g.no_param w v c rest);
  last = λ c ts x rest p. (p.0, g.last_param w v x.last p.0 c ts x.expr rest p.1);
  more = λ s ts us x xs rest e p q. (max p.0 q.0, g.more_params w v p.0 q.0 s ts us x.expr xs.0 rest (subst (λ f. IsParam w v f p.0 ts x.expr (t.Comma s ∷ us)) e p.1) q.1);
  final = λ s c ts x rest e p. (p.0, g.variadic_comma w v p.0 s c ts x.expr rest (subst (λ f. IsParam w v f p.0 ts x.expr (t.Comma s ∷ t.CloseParen c ∷ rest)) e p.1));
}

pub row_reads : (w v : Bool) (n : ℕ) (inner : List Symbol → Reply (Fit TypeExpr)) → ReadsTypes inner → (ts : List Symbol) → ReadsAt (ParamsAt w v) (params_row w v n inner) ts (params_row w v n inner ts)
row_reads w v n inner h ts = series_reads (params n) (ParamAt w v) (ParamsAt w v) (params_series w v n) (param_at w v inner) (no_param w v) (param_reads w v inner h) ts

pub rest_reads : (w v : Bool) (n : ℕ) (inner : List Symbol → Reply (Fit TypeExpr)) → ReadsTypes inner → (x : Param) (ts : List Symbol)
    → ReadsAt (After (ParamAt w v) (ParamsAt w v) x) (params_end w v n inner x) ts (params_end w v n inner x ts)
rest_reads w v n inner h x ts = end_reads (params n) (ParamAt w v) (ParamsAt w v) (params_series w v n) (params_row w v n inner) x ts (λ vs less. row_reads w v n inner h vs)

-- ---- identifiers that may be names or types

-- ws are these identifiers with a comma behind each, and then us
abbrev pub Bares : List Ident → List Symbol → List Symbol → Type 0
Bares [] us ws = ws ≡ us
Bares (i ∷ names) us ws = (c : ℕ) × (vs : List Symbol) × (ws ≡ t.Ident i ∷ t.Comma c ∷ vs) × Bares names us vs

bares_more : (names : List Ident) (i : Ident) (c : ℕ) (us ws : List Symbol) → Bares names (t.Ident i ∷ t.Comma c ∷ us) ws → Bares (names ++ i ∷ []) us ws
bares_more [] i c us ws e = (c, us, e, refl)
bares_more (j ∷ names) i c us ws w = (w.0, w.1, w.2, bares_more names i c us w.1 w.3)

-- they are types
abbrev TypesAt : Bool → List Symbol → List ParamExpr → List Symbol → Type 0
TypesAt v ts xs rest = (m : ℕ) × IsParams false v m ts xs rest

bares_types : (v : Bool) (names : List Ident) (us ws : List Symbol) (xs : List ParamExpr) (rest : List Symbol) → Bares names us ws → TypesAt v us xs rest → TypesAt v ws (map bare names ++ xs) rest
bares_types v [] us ws xs rest e p = rw e p
bares_types v (i ∷ names) us ws xs rest w p =
    let q = bares_types v names us w.1 xs rest w.3 p in
    rw w.2 (
      max 1 q.0,
      g.more_params false v 1 q.0 w.0 (t.Ident i ∷ t.Comma w.0 ∷ w.1) w.1 (bare i) (map bare names ++ xs) rest
          (g.unnamed v 1 (t.Ident i ∷ t.Comma w.0 ∷ w.1) (named (plain i)) (t.Comma w.0 ∷ w.1) (name_stands i (t.Comma w.0 ∷ w.1))) q.1,
    )

-- they are names
bares_names : (names : List Ident) (i : Ident) (us ws : List Symbol) → Bares names (t.Ident i ∷ us) ws → IsNames ws (names ++ i ∷ []) us
bares_names [] i us ws e = rw e (one i us)
bares_names (j ∷ names) i us ws w = rw w.2 (more j w.0 w.1 (names ++ i ∷ []) us (bares_names names i us w.1 w.3))

-- a list of parameters, with names or without
abbrev pub ListAt : Bool → List Symbol → Fit (List ParamExpr) → List Symbol → Type 0
ListAt v ts xs rest = (w : Bool) × (m : ℕ) × IsParams w v m ts xs.0 rest

-- the rest of one, after such identifiers
abbrev FromAt : Bool → List Ident → List Symbol → Fit (List ParamExpr) → List Symbol → Type 0
FromAt v names ts xs rest = (ws : List Symbol) → Bares names ts ws → ListAt v ws xs rest

some_bare : (v : Bool) (names : List Ident) → Sample (FromAt v names)
some_bare v names = record {
  tokens = t.CloseParen 0 ∷ [];
  made = (map bare names ++ [], 0);
  stands = λ tail ws b. let q = bares_types v names (t.CloseParen 0 ∷ tail) ws [] tail b (0, g.no_param false v 0 tail) in (false, q.0, q.1);
}

-- what may follow a token that shows that the identifiers are types
typed_by : (v : Bool) (names : List Ident) (k : Symbol) → begins_type k ≡ true → Sample (Behind k (FromAt v names))
typed_by v names k e =
    let o = type_begun_by k e in
    record {
      tokens = o.tokens ++ t.CloseParen 0 ∷ [];
      made = (map bare names ++ param [] false o.made.0 (symbol_start k) ∷ [], 0);
      stands = λ tail. rw append_assoc (λ ws b.
          let w = o.stands (t.CloseParen 0 ∷ tail) in
          let us = k ∷ (o.tokens ++ t.CloseParen 0 ∷ tail) in
          let x = param [] false o.made.0 (symbol_start k) in
          let q = bares_types v names us ws (x ∷ []) tail b (w.0, g.last_param false v false w.0 0 us x tail (g.unnamed v w.0 us o.made.0 (t.CloseParen 0 ∷ tail) w.1)) in (false, q.0, q.1));
    }

closed_by : (v : Bool) (names : List Ident) (c : ℕ) → Sample (Behind (t.CloseParen c) (FromAt v names))
closed_by v names c = record {
  tokens = [];
  made = (map bare names ++ [], 0);
  stands = λ tail ws b. let q = bares_types v names (t.CloseParen c ∷ tail) ws [] tail b (0, g.no_param false v c tail) in (false, q.0, q.1);
}

dots_by : (names : List Ident) (at : ℕ) → Sample (Behind (t.Ellipsis at) (FromAt true names))
dots_by names at = record {
  tokens = t.Ident any_ident ∷ t.CloseParen 0 ∷ [];
  made = (map bare names ++ param [] true (named (plain any_ident)) at ∷ [], 0);
  stands = λ tail ws b.
      let us = t.Ellipsis at ∷ t.Ident any_ident ∷ t.CloseParen 0 ∷ tail in
      let x = param [] true (named (plain any_ident)) at in
      let q = bares_types true names us ws (x ∷ []) tail b (1, g.last_param false true true 1 0 us x tail (g.unnamed_rest 1 at (t.Ident any_ident ∷ t.CloseParen 0 ∷ tail) (named (plain any_ident)) (t.CloseParen 0 ∷ tail) (name_stands any_ident (t.CloseParen 0 ∷ tail)))) in
      (false, q.0, q.1);
}

listed_false : (names : List Ident) (k : Symbol) → shows_types false k ≡ true → Sample (Behind k (FromAt false names))
listed_false names (t.CloseParen c) e = closed_by false names c
listed_false names k e = typed_by false names k e

listed_true : (names : List Ident) (k : Symbol) → shows_types true k ≡ true → Sample (Behind k (FromAt true names))
listed_true names (t.CloseParen c) e = closed_by true names c
listed_true names (t.Ellipsis at) e = dots_by names at
listed_true names k e = typed_by true names k e

listed_by : (v : Bool) (names : List Ident) (k : Symbol) → shows_types v k ≡ true → Sample (Behind k (FromAt v names))
listed_by true names k e = listed_true names k e
listed_by false names k e = listed_false names k e

bare_row : (v : Bool) (n k : ℕ) (inner : List Symbol → Reply (Fit TypeExpr)) → ReadsTypes inner → (names : List Ident) (ts : List Symbol)
    → ReadsAt (FromAt v names) (λ us. with_fit (map bare names, k) (params_row false v n inner us)) ts (with_fit (map bare names, k) (params_row false v n inner ts))
bare_row v n k inner h names ts =
    value_reads (ParamsAt false v) (FromAt v names) (params_row false v n inner) (λ xs. (map bare names ++ xs.0, min k xs.1)) ts
    (λ us xs rest p ws b. let q = bares_types v names us ws xs.0 rest b p in (false, q.0, q.1)) (params_row false v n inner ts) (row_reads false v n inner h ts)

after_reads : (v : Bool) (n : ℕ) (inner : List Symbol → Reply (Fit TypeExpr)) → ReadsTypes inner → (names : List Ident) (ts : List Symbol) → ReadsAt (FromAt v names) (after_bare v n inner names) ts (after_bare v n inner names ts)
after_reads v n inner h [] ts = bare_row v n n inner h [] ts
after_reads v zero inner h (i ∷ names) ts = peek_reads (FromAt v (i ∷ names)) (shows_types v) too_deep unexpected ts (λ s. deep_reads (FromAt v (i ∷ names)) (shows_types v) ts (some_bare v (i ∷ names)) (listed_by v (i ∷ names)) s) (λ s. stuck_reads (FromAt v (i ∷ names)) ts (some_bare v (i ∷ names)))
after_reads v (suc n) inner h (i ∷ names) ts = bare_row v (suc n) n inner h (i ∷ names) ts

-- after one more identifier
abbrev OpenAt : Bool → List Ident → Ident → List Symbol → Fit (List ParamExpr) → List Symbol → Type 0
OpenAt v names i = Behind (t.Ident i) (FromAt v names)

-- a type that begins with the identifier stands before these tokens, and then the list ends
ends_types : (v : Bool) (names : List Ident) (i : Ident) (m : ℕ) (ty : TypeExpr) (us ws : List Symbol) (c : ℕ) (tail : List Symbol) → Bares names (t.Ident i ∷ us) ws → IsType m (t.Ident i ∷ us) ty (t.CloseParen c ∷ tail)
    → TypesAt v ws (map bare names ++ param [] false ty i.start ∷ []) tail
ends_types v names i m ty us ws c tail b w =
    bares_types v names (t.Ident i ∷ us) ws (param [] false ty i.start ∷ []) tail b (m, g.last_param false v false m c (t.Ident i ∷ us) (param [] false ty i.start) tail (g.unnamed v m (t.Ident i ∷ us) ty (t.CloseParen c ∷ tail) w))

-- what may follow a token that shows that the identifier is a type
type_shown : (v : Bool) (names : List Ident) (i : Ident) (k : Symbol) → shows_type k ≡ true → Sample (Behind k (OpenAt v names i))
type_shown v names i (t.CloseParen c) e = record {
  tokens = [];
  made = (map bare names ++ param [] false (named (plain i)) i.start ∷ [], 0);
  stands = λ tail ws b. let q = ends_types v names i 1 (named (plain i)) (t.CloseParen c ∷ tail) ws c tail b (name_stands i (t.CloseParen c ∷ tail)) in (false, q.0, q.1);
}
type_shown v names i (t.Dot d) e = record {
  tokens = t.Ident any_ident ∷ t.CloseParen 0 ∷ [];
  made = (map bare names ++ param [] false (named (selected i any_ident)) i.start ∷ [], 0);
  stands = λ tail ws b.
      let us = t.Dot d ∷ t.Ident any_ident ∷ t.CloseParen 0 ∷ tail in
      let q = ends_types v names i 1 (named (selected i any_ident)) us ws 0 tail b (g.name 1 (t.Ident i ∷ us) (named (selected i any_ident)) (t.CloseParen 0 ∷ tail) (dotted_stands i d (t.CloseParen 0 ∷ tail))) in (false, q.0, q.1);
}
type_shown v names i _ e = absurd cc

type_applied : (v : Bool) (names : List Ident) (i : Ident) (k : Symbol) → is_open_bracket k ≡ true → Sample (Behind k (OpenAt v names i))
type_applied v names i (t.OpenBracket o) e = record {
  tokens = t.Ident any_ident ∷ t.CloseBracket 0 ∷ t.CloseParen 0 ∷ [];
  made = (map bare names ++ param [] false (instance (plain i) (named (plain any_ident) ∷ [])) i.start ∷ [], 0);
  stands = λ tail ws b.
      let us = t.OpenBracket o ∷ t.Ident any_ident ∷ t.CloseBracket 0 ∷ t.CloseParen 0 ∷ tail in
      let ty = instance (plain i) (named (plain any_ident) ∷ []) in
      let q = ends_types v names i 2 ty us ws 0 tail b (g.name 2 (t.Ident i ∷ us) ty (t.CloseParen 0 ∷ tail) (applied_stands i o (t.CloseParen 0 ∷ tail))) in (false, q.0, q.1);
}
type_applied v names i _ e = absurd cc

types_reads : (v : Bool) (n : ℕ) (inner : List Symbol → Reply (Fit TypeExpr)) → ReadsTypes inner → Begun n inner → (names : List Ident) (i : Ident) (is : Symbol → Bool) (ts : List Symbol) → starts is ts ≡ true → ((k : Symbol) → is k ≡ true → Sample (Behind k (OpenAt v names i)))
    → ReadsAt (OpenAt v names i) (types_by v n inner names i) ts (types_by v n inner names i ts)
types_reads v zero inner h d names i is ts e next =
    deep_reads (OpenAt v names i) is ts (record {
      tokens = t.CloseParen 0 ∷ [];
      made = (map bare names ++ param [] false (named (plain i)) i.start ∷ [], 0);
      stands = λ tail ws b. let q = ends_types v names i 1 (named (plain i)) (t.CloseParen 0 ∷ tail) ws 0 tail b (name_stands i (t.CloseParen 0 ∷ tail)) in (false, q.0, q.1);
    }) next e
types_reads v (suc n) inner h d names i is ts e next =
    bind_reads (Behind (t.Ident i) NamedAt) (OpenAt v names i) (λ r. inner (t.Ident i ∷ r)) (λ ty us. with_fit (map bare names, n) (params_end false v (suc n) inner (item [] false ty i.start) us)) ts
    (λ ty. record {
      tokens = t.CloseParen 0 ∷ [];
      made = (map bare names ++ param [] false ty.0 i.start ∷ [], 0);
      stands = λ tail us w ws b. let q = ends_types v names i w.0 ty.0 us ws 0 tail b (g.name w.0 (t.Ident i ∷ us) ty.0 (t.CloseParen 0 ∷ tail) w.1) in (false, q.0, q.1);
    })
    (λ ty us o. value_reads (After (ParamAt false v) (ParamsAt false v) (item [] false ty i.start)) (After (Behind (t.Ident i) NamedAt) (OpenAt v names i) ty)
    (params_end false v (suc n) inner (item [] false ty i.start)) (λ xs. (map bare names ++ xs.0, min n xs.1)) us
    (λ vs xs rest q us' w ws b.
    let p = q (t.Ident i ∷ us') (w.0, g.unnamed v w.0 (t.Ident i ∷ us') ty.0 vs (g.name w.0 (t.Ident i ∷ us') ty.0 vs w.1)) in
    let r = bares_types v names (t.Ident i ∷ us') ws xs.0 rest b p in (false, r.0, r.1))
    (params_end false v (suc n) inner (item [] false ty i.start) us) (rest_reads false v (suc n) inner h (item [] false ty i.start) us))
    (inner (t.Ident i ∷ ts)) (d.ident i ts (λ (e' : suc n ≡ 0). absurd cc))

-- a parameter whose last name is i
abbrev NamesAt : Bool → List Ident → Ident → List Symbol → Param → List Symbol → Type 0
NamesAt v names i ts x rest = (ws : List Symbol) → Bares names (t.Ident i ∷ ts) ws → ParamAt true v ws x rest

names_param : (v : Bool) (inner : List Symbol → Reply (Fit TypeExpr)) → ReadsTypes inner → (names : List Ident) (i : Ident) (ts : List Symbol) → ReadsAt (NamesAt v names i) (names_by v inner names i) ts (names_by v inner names i ts)
names_param v inner h [] i ts = as_reads (Behind (t.Ident i) (ParamAt true v)) (NamesAt v [] i) (lone_param v inner i) ts (lone_param v inner i ts) (λ us x rest p ws b. rw b p) (lone_reads v inner h i ts)
names_param v inner h (j ∷ names) i ts =
    value_reads TypeAt (NamesAt v (j ∷ names) i) inner (λ ty. item (j ∷ names ++ i ∷ []) false ty j.start) ts
    (λ us ty rest w ws b. (w.0, g.sharing v w.0 j (names ++ i ∷ []) ws us ty.0 rest (bares_names (j ∷ names) i us ws b) w.1)) (inner ts) (h ts)

named_by_reads : (v : Bool) (n : ℕ) (inner : List Symbol → Reply (Fit TypeExpr)) → ReadsTypes inner → (names : List Ident) (i : Ident) (ts : List Symbol) → ReadsAt (OpenAt v names i) (named_by v n inner names i) ts (named_by v n inner names i ts)
named_by_reads v n inner h names i ts =
    bind_reads (NamesAt v names i) (OpenAt v names i) (names_by v inner names i) (λ x us. with_fit ([], n) (params_end true v n inner x us)) ts
    (λ x. record {
      tokens = t.CloseParen 0 ∷ [];
      made = (x.expr ∷ [], 0);
      stands = λ tail us w ws b. let p = w ws b in (true, p.0, g.last_param true v x.last p.0 0 ws x.expr tail p.1);
    })
    (λ x us o. value_reads (After (ParamAt true v) (ParamsAt true v) x) (After (NamesAt v names i) (OpenAt v names i) x) (params_end true v n inner x) (λ xs. ([] ++ xs.0, min n xs.1)) us
    (λ vs xs rest q us' w ws b. let p = q ws (w ws b) in (true, p.0, p.1)) (params_end true v n inner x us) (rest_reads true v n inner h x us))
    (names_by v inner names i ts) (names_param v inner h names i ts)

ident_after : (v : Bool) (n : ℕ) (inner : List Symbol → Reply (Fit TypeExpr)) → ReadsTypes inner → Begun n inner → (names : List Ident) (i : Ident) (ts : List Symbol) → ReadsAt (OpenAt v names i) (after_ident v n inner names i) ts (after_ident v n inner names i ts)
ident_after v n inner h d names i ts =
    peek_reads (OpenAt v names i) shows_type (types_by v n inner names i) (name_or_type v n inner names i) ts (λ s. types_reads v n inner h d names i shows_type ts s (type_shown v names i))
    (λ s. peek_reads (OpenAt v names i) is_open_bracket (array_or_instance v n inner names i) (named_by v n inner names i) ts
    (λ s'. either_on (OpenAt v names i) (OpenAt v names i) (named_by v n inner names i) (types_by v n inner names i) ts (named_by_reads v n inner h names i ts)
    (λ us e. types_reads v n inner h d names i is_open_bracket us (sym (starts_same is_open_bracket ts us e) ∙ s') (type_applied v names i)))
    (λ s'. named_by_reads v n inner h names i ts))

-- after an identifier
abbrev pub from_ident : Bool → ℕ → (List Symbol → Reply (Fit TypeExpr)) → List Ident → Ident → List Symbol → Reply (Fit (List ParamExpr))
from_ident v n inner names i r = choose (past is_comma r) (params_from v n inner (names ++ i ∷ [])) (after_ident v n inner names i r)

pub from_is : (v : Bool) (n : ℕ) (inner : List Symbol → Reply (Fit TypeExpr)) (names : List Ident) (i : Ident) (r : List Symbol) → params_from v n inner names (t.Ident i ∷ r) ≡ from_ident v n inner names i r
from_is v n inner names i [] = refl
from_is v n inner names i (t.Comma c ∷ r) = refl
from_is v n inner names i (k ∷ r) = refl

from_reads : (v : Bool) (n : ℕ) (inner : List Symbol → Reply (Fit TypeExpr)) → ReadsTypes inner → Begun n inner → (names : List Ident) (ts : List Symbol) → ReadsAt (FromAt v names) (params_from v n inner names) ts (params_from v n inner names ts)
from_reads v n inner h d names [] =
    like_reads (FromAt v names) (params_from v n inner names) (after_bare v n inner names) [] (after_bare v n inner names []) (ends_so (λ r. params_from v n inner names r ≡ after_bare v n inner names r) refl) (after_reads v n inner h names [])
from_reads v n inner h d names (t.Ident i ∷ []) =
    cons_reads (FromAt v names) (params_from v n inner names) (from_ident v n inner names i) (t.Ident i) [] (after_ident v n inner names i []) (from_is v n inner names i)
    (like_reads (OpenAt v names i) (from_ident v n inner names i) (after_ident v n inner names i) [] (after_ident v n inner names i []) (ends_so (λ r. from_ident v n inner names i r ≡ after_ident v n inner names i r) refl) (ident_after v n inner h d names i []))
from_reads v n inner h d names (t.Ident i ∷ t.Comma c ∷ ts) =
    cons_reads (FromAt v names) (params_from v n inner names) (from_ident v n inner names i) (t.Ident i) (t.Comma c ∷ ts) (params_from v n inner (names ++ i ∷ []) ts) (from_is v n inner names i)
    (cons_reads (OpenAt v names i) (from_ident v n inner names i) (params_from v n inner (names ++ i ∷ [])) (t.Comma c) ts (params_from v n inner (names ++ i ∷ []) ts) (λ r. refl)
    (as_reads (FromAt v (names ++ i ∷ [])) (Behind (t.Comma c) (OpenAt v names i)) (params_from v n inner (names ++ i ∷ [])) ts (params_from v n inner (names ++ i ∷ []) ts) (λ us xs rest q ws b. q ws (bares_more names i c us ws b)) (from_reads v n inner h d (names ++ i ∷ []) ts)))
from_reads v n inner h d names (t.Ident i ∷ k ∷ ts) =
    cons_reads (FromAt v names) (params_from v n inner names) (from_ident v n inner names i) (t.Ident i) (k ∷ ts) (after_ident v n inner names i (k ∷ ts)) (from_is v n inner names i)
    (like_reads (OpenAt v names i) (from_ident v n inner names i) (after_ident v n inner names i) (k ∷ ts) (after_ident v n inner names i (k ∷ ts)) (next_is (λ r. from_ident v n inner names i r ≡ after_ident v n inner names i r) k (λ r. refl)) (ident_after v n inner h d names i (k ∷ ts)))
from_reads v n inner h d names (k ∷ ts) =
    like_reads (FromAt v names) (params_from v n inner names) (after_bare v n inner names) (k ∷ ts) (after_bare v n inner names (k ∷ ts)) (next_is (λ r. params_from v n inner names r ≡ after_bare v n inner names r) k (λ r. refl)) (after_reads v n inner h names (k ∷ ts))

pub list_reads : (v : Bool) (n : ℕ) (inner : List Symbol → Reply (Fit TypeExpr)) → ReadsTypes inner → Begun n inner → (ts : List Symbol) → ReadsAt (ListAt v) (params_from v n inner []) ts (params_from v n inner [] ts)
list_reads v n inner h d ts = as_reads (FromAt v []) (ListAt v) (params_from v n inner []) ts (params_from v n inner [] ts) (λ us xs rest q. q us refl) (from_reads v n inner h d [] ts)

-- ---- signatures

abbrev ResultAt : List Symbol → Param → List Symbol → Type 0
ResultAt us x rest = (m : ℕ) × (ty : TypeExpr) × IsType m us ty rest × (x.expr ≡ param [] false ty (start_of us))

-- with no parenthesis before it
abbrev BareResultAt : List Symbol → Param → List Symbol → Type 0
BareResultAt us x rest = (m : ℕ) × (ty : TypeExpr) × IsType m us ty rest × (x.expr ≡ param [] false ty (start_of us)) × (starts is_open_paren us ≡ false)

bare_result : (inner : List Symbol → Reply (Fit TypeExpr)) → ReadsTypes inner → (ts : List Symbol) → starts is_open_paren ts ≡ false → ReadsAt BareResultAt (type_param inner) ts (type_param inner ts)
bare_result inner h ts e =
    only_reads ResultAt BareResultAt (type_param inner) ts
    (λ k us x rest a w. (w.0, w.1, w.2, w.3, sym (starts_same is_open_paren ts (k ∷ []) a) ∙ e))
    (λ x us w. no_type_of w.0 w.1 us w.2) (λ token us x rest w. no_literal_of w.0 token us w.1 rest w.2)
    (record { tokens = t.Ident any_ident ∷ []; made = item [] false (named (plain any_ident), 0) 0; stands = λ tail. (1, named (plain any_ident), name_stands any_ident tail, refl, refl) })
    (type_param inner ts)
    (value_reads (Placed TypeAt) ResultAt (placed inner) (λ x. item [] false x.0 x.1) ts (λ us x rest w. rw w.1 (w.0.0, x.0.0, w.0.1, refl)) (placed inner ts) (placed_reads TypeAt inner ts no_type_here no_literal (inner ts) (h ts)))

abbrev SigRest : ℕ → Fit (List ParamExpr) → List Symbol → Fit SigExpr → List Symbol → Type 0
SigRest at ps = After (ListAt true) (Behind (t.OpenParen at) SigAt) ps

results_reads : (n : ℕ) (inner : List Symbol → Reply (Fit TypeExpr)) → ReadsTypes inner → Begun n inner → (at : ℕ) (ps : Fit (List ParamExpr)) (ts : List Symbol) → ReadsAt (SigRest at ps) (results_by n inner at ps) ts (results_by n inner at ps ts)
results_reads n inner h d at ps ts =
    choose_reads is_open_paren (SigRest at ps) open_paren (result_list n inner at ps) (λ us. peek begins_type us (result_type inner at ps us) (no_results at ps us)) ts
    (λ us. value_reads (ListAt false) (Past open_paren (SigRest at ps)) (params_from false n inner []) (λ rs. (signature ps.0 rs.0 at, min ps.1 rs.1)) us
    (λ vs rs rest r o ws p. (max p.1 r.1, g.results p.0 r.0 p.1 r.1 at o ws vs ps.0 rs.0 rest p.2 r.2)) (params_from false n inner [] us) (list_reads false n inner h d us))
    (λ e. peek_reads (SigRest at ps) begins_type (result_type inner at ps) (no_results at ps) ts
    (λ s. value_reads BareResultAt (SigRest at ps) (type_param inner) (λ x. (signature ps.0 (x.expr ∷ []) at, min ps.1 x.fit)) ts
    (λ us x rest r ws p. rw r.3 (max p.1 r.0, g.result p.0 p.1 r.0 at ws us ps.0 r.1 rest p.2 r.4 r.2)) (type_param inner ts) (bare_result inner h ts e))
    (λ s. done_reads (SigRest at ps) (no_results at ps) ts (signature ps.0 [] at, ps.1) (λ tail us p. (p.1, g.no_result p.0 p.1 at us ps.0 tail p.2)) (λ r d. refl)))

sig_reads_by : (n : ℕ) (inner : List Symbol → Reply (Fit TypeExpr)) → ReadsTypes inner → Begun n inner → (at : ℕ) (ts : List Symbol) → ReadsAt (Behind (t.OpenParen at) SigAt) (sig_by n inner at) ts (sig_by n inner at ts)
sig_reads_by n inner h d at ts =
    bind_reads (ListAt true) (Behind (t.OpenParen at) SigAt) (params_from true n inner []) (results_by n inner at) ts
    (λ ps. record { tokens = []; made = (signature ps.0 [] at, 0); stands = λ tail us p. (p.1, g.no_result p.0 p.1 at us ps.0 tail p.2) })
    (λ ps us o. results_reads n inner h d at ps us)
    (params_from true n inner [] ts) (list_reads true n inner h d ts)

pub some_sig : Sample SigAt
some_sig = record { tokens = t.OpenParen 0 ∷ t.CloseParen 0 ∷ []; made = (signature [] [] 0, 0); stands = λ tail. (0, g.no_result true 0 0 (t.CloseParen 0 ∷ tail) [] tail (g.no_param true true 0 tail)) }

pub sig_reads : (n : ℕ) (inner : List Symbol → Reply (Fit TypeExpr)) → ReadsTypes inner → Begun n inner → (ts : List Symbol) → ReadsAt SigAt (sig_at n inner) ts (sig_at n inner ts)
sig_reads n inner h d [] = refuse_end SigAt (sig_at n inner) some_sig refl
sig_reads n inner h d (t.OpenParen at ∷ ts) = cons_reads SigAt (sig_at n inner) (sig_by n inner at) (t.OpenParen at) ts (sig_by n inner at ts) (λ r. refl) (sig_reads_by n inner h d at ts)
sig_reads n inner h d (k ∷ ts) = refuse_next SigAt (sig_at n inner) k ts some_sig (λ r. refl)
