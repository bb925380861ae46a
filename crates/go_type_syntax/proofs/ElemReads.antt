-- What the readers of unions and of the elements of interfaces do.
use Rattle.std.proofs.Common.{◌≡◌, ℕ, zero, suc, max, min, true, false, List, [], ◌∷◌, Ok, refl}
use Rattle.go_expr_syntax.specs.declared.symbols.Symbol.{Symbol}
use Rattle.go_expr_syntax.specs.declared.symbols.Symbol.TheVariants as t
use Rattle.go_expr_syntax.specs.declared.symbols.Ident.{Ident}
use Rattle.go_expr_syntax.specs.declared.tree.NameExpr.{NameExpr}
use Rattle.go_type_syntax.specs.declared.tree.ElemExpr.{ElemExpr}
use Rattle.go_type_syntax.specs.declared.tree.ElemExpr.TheVariants as elem
use Rattle.go_type_syntax.specs.declared.tree.TypeExpr.{TypeExpr}
use Rattle.go_type_syntax.specs.declared.tree.TypeExpr.TheVariants as y
use Rattle.go_expr_syntax.specs.Reading.{Reply, unexpected, too_deep, is_bar, is_open_paren, is_open_bracket, is_close_bracket, is_semicolon, is_close_brace, starts, series_end, series, start_of, placed, Fit, fits}
use Rattle.go_expr_syntax.specs.Names.{plain, selected, IsTypeName, dotted}
use Rattle.go_type_syntax.specs.Grammar as g
use Rattle.go_type_syntax.specs.Grammar.{named, instance, term, IsType, IsNamed, IsTypes, IsElem, IsElems}
use Rattle.go_type_syntax.specs.Params.{sig_at}
use Rattle.go_type_syntax.specs.Elements.{type_list, types_at, instance_by, args_by, name_by, tilde_term, plain_term, term_at, terms_at, more_terms, after_type, after_tilde, tilde_by, type_first, union_at, method_by, name_first, embedded_elem, named_elem, union_elem, elem_at, elems_at}
use Rattle.go_expr_syntax.specs.Reading.{shows_elem}
use Rattle.go_expr_syntax.proofs.Viable.{next_is, ends_so, ReadsOn, ReadsAt, ended_on, deep_on, cons_on, like_on, peek_on, Sample, Behind, Past, After, done_reads, deep_next, like_reads, as_reads, cons_reads, choose_reads, peek_reads, stuck_reads, deep_reads, bind_reads, value_reads}
use Rattle.go_expr_syntax.proofs.Marks.{semicolon, comma, open_bracket, close_bracket, close_brace, bar}
use Rattle.go_expr_syntax.proofs.NameReads.{any_ident, dotted_reads}
use Rattle.go_type_syntax.proofs.Standing.{no_literal, no_union_literal, Begun, TypeAt, TypesAt, NamedAt, SigAt, TermAt, TermsAt, UnionAt, ElemAt, ElemsAt, Placed, dotted_stands, applied_stands, plain_stands, name_stands, some_type, no_type_here, no_term, no_union, no_elem_here, placed_reads}
use Rattle.go_type_syntax.proofs.Follows.{type_opens}
use Rattle.go_expr_syntax.proofs.Rows.{IsSeries, series_on, series_reads, end_reads, IsChain, chain_reads}
use Rattle.go_type_syntax.proofs.ParamReads.{ReadsTypes, sig_reads}

types_row : (n : ℕ) → IsSeries (type_list n) TypeAt TypesAt
types_row n = record {
  between = comma;
  ending = close_bracket;
  none = λ c rest. (0, g.no_type c rest);
  last = λ c ts x rest w. (w.0, g.last_type w.0 c ts x.0 rest w.1);
  more = λ s ts us x xs rest e w v. (max w.0 v.0, g.more_types w.0 v.0 s ts us x.0 xs.0 rest w.1 v.1);
  final = λ s c ts x rest e w. absurd cc;
}

-- one argument at least: the bracket doesn't close at once
abbrev SomeTypes : List Symbol → Fit (List TypeExpr) → List Symbol → Type 0
SomeTypes ts xs rest = (m : ℕ) × IsTypes m ts xs.0 rest × (starts is_close_bracket ts ≡ false)

pub many_reads : (n : ℕ) (inner : List Symbol → Reply (Fit TypeExpr)) → ReadsTypes inner → (ts : List Symbol) → ReadsAt TypesAt (series (type_list n) inner) ts (series (type_list n) inner ts)
many_reads n inner h ts = series_reads (type_list n) TypeAt TypesAt (types_row n) inner no_type_here h ts

pub types_read : (n : ℕ) (inner : List Symbol → Reply (Fit TypeExpr)) → ReadsTypes inner → (ts : List Symbol) → ReadsAt SomeTypes (types_at n inner) ts (types_at n inner ts)
types_read n inner h ts =
    bind_reads TypeAt SomeTypes inner (series_end (type_list n) (series (type_list n) inner)) ts
    (λ x. record { tokens = t.CloseBracket 0 ∷ []; made = (x.0 ∷ [], 0); stands = λ tail us w. (w.0, g.last_type w.0 0 us x.0 tail w.1, type_opens w.0 us x.0 (t.CloseBracket 0 ∷ tail) w.1) })
    (λ x us o. as_reads (After TypeAt TypesAt x) (After TypeAt SomeTypes x) (series_end (type_list n) (series (type_list n) inner) x) us (series_end (type_list n) (series (type_list n) inner) x us)
    (λ vs xs rest q ws w. let v = q ws w in (v.0, v.1, type_opens w.0 ws x.0 vs w.1))
    (end_reads (type_list n) TypeAt TypesAt (types_row n) (series (type_list n) inner) x us (λ vs less. series_reads (type_list n) TypeAt TypesAt (types_row n) inner no_type_here h vs)))
    (inner ts) (h ts)

instance_reads : (n : ℕ) (inner : List Symbol → Reply (Fit TypeExpr)) → ReadsTypes inner → (i : Ident) (x : NameExpr) (ts : List Symbol)
    → ReadsAt (Past open_bracket (After (Behind (t.Ident i) IsTypeName) (Behind (t.Ident i) NamedAt) x)) (instance_by n inner x) ts (instance_by n inner x ts)
instance_reads n inner h i x ts =
    value_reads SomeTypes (Past open_bracket (After (Behind (t.Ident i) IsTypeName) (Behind (t.Ident i) NamedAt) x)) (types_at n inner) (λ args. (instance x args.0, args.1)) ts
    (λ us args rest w o vs v. (suc w.0, g.by_name w.0 (t.Ident i ∷ vs) x (t.OpenBracket o ∷ us) args.0 rest v (g.some_args w.0 o us args.0 rest w.2 w.1))) (types_at n inner ts) (types_read n inner h ts)

pub args_read : (n : ℕ) (inner : List Symbol → Reply (Fit TypeExpr)) → ReadsTypes inner → (i : Ident) (x : NameExpr) (ts : List Symbol)
    → ReadsAt (After (Behind (t.Ident i) IsTypeName) (Behind (t.Ident i) NamedAt) x) (args_by n inner x) ts (args_by n inner x ts)
args_read n inner h i x ts =
    choose_reads is_open_bracket (After (Behind (t.Ident i) IsTypeName) (Behind (t.Ident i) NamedAt) x) open_bracket (instance_by n inner x) (λ us. Ok ((named x, n), us)) ts
    (λ us. instance_reads n inner h i x us)
    (λ e. done_reads (After (Behind (t.Ident i) IsTypeName) (Behind (t.Ident i) NamedAt) x) (λ us. Ok ((named x, n), us)) ts (named x, n) (λ tail us w. (1, g.by_name 0 (t.Ident i ∷ us) x tail [] tail w (g.no_args tail))) (λ r e'. refl))

pub named_reads : (n : ℕ) (inner : List Symbol → Reply (Fit TypeExpr)) → ReadsTypes inner → (i : Ident) (ts : List Symbol) → ReadsAt (Behind (t.Ident i) NamedAt) (name_by n inner i) ts (name_by n inner i ts)
named_reads n inner h i ts =
    bind_reads (Behind (t.Ident i) IsTypeName) (Behind (t.Ident i) NamedAt) (dotted i) (args_by n inner) ts
    (λ x. record { tokens = []; made = (named x, n); stands = λ tail us w. (1, g.by_name 0 (t.Ident i ∷ us) x tail [] tail w (g.no_args tail)) })
    (λ x us o. args_read n inner h i x us)
    (dotted i ts) (dotted_reads i ts)

pub name_reads : (n : ℕ) (inner : List Symbol → Reply (Fit TypeExpr)) → ReadsTypes inner → (i : Ident) (ts : List Symbol) → ReadsAt (Behind (t.Ident i) TypeAt) (name_by n inner i) ts (name_by n inner i ts)
name_reads n inner h i ts =
    as_reads (Behind (t.Ident i) NamedAt) (Behind (t.Ident i) TypeAt) (name_by n inner i) ts (name_by n inner i ts) (λ us x rest w. (w.0, g.name w.0 (t.Ident i ∷ us) x.0 rest w.1)) (named_reads n inner h i ts)

-- ---- unions

plain_reads : (lower : List Symbol → Reply (Fit TypeExpr)) → ReadsTypes lower → (ts : List Symbol) → ReadsAt TermAt (plain_term lower) ts (plain_term lower ts)
plain_reads lower h ts =
    value_reads (Placed TypeAt) TermAt (placed lower) (λ x. (term false x.0.0 x.1, x.0.1)) ts (λ us x rest w. rw w.1 (w.0.0, g.exactly w.0.0 us x.0.0 rest w.0.1)) (placed lower ts)
    (placed_reads TypeAt lower ts no_type_here no_literal (lower ts) (h ts))

pub term_reads : (lower : List Symbol → Reply (Fit TypeExpr)) → ReadsTypes lower → (ts : List Symbol) → ReadsAt TermAt (term_at lower) ts (term_at lower ts)
term_reads lower h [] = like_reads TermAt (term_at lower) (plain_term lower) [] (plain_term lower []) (ends_so (λ r. term_at lower r ≡ plain_term lower r) refl) (plain_reads lower h [])
term_reads lower h (t.Tilde at ∷ ts) =
    cons_reads TermAt (term_at lower) (tilde_term lower at) (t.Tilde at) ts (tilde_term lower at ts) (λ r. refl)
    (value_reads TypeAt (Behind (t.Tilde at) TermAt) lower (λ ty. (term true ty.0 at, ty.1)) ts (λ us ty rest w. (w.0, g.approximately w.0 at us ty.0 rest w.1)) (lower ts) (h ts))
term_reads lower h (k ∷ ts) = like_reads TermAt (term_at lower) (plain_term lower) (k ∷ ts) (plain_term lower (k ∷ ts)) (next_is (λ r. term_at lower r ≡ plain_term lower r) k (λ r. refl)) (plain_reads lower h (k ∷ ts))

terms_chain : IsChain is_bar (λ x. (x.0 ∷ [], x.1)) (λ x xs. (x.0 ∷ xs.0, min x.1 xs.1)) TermAt TermsAt
terms_chain = record {
  between = bar;
  one = λ ts x rest w. (w.0, g.one_term w.0 ts x.0 rest w.1);
  more = λ s ts us x xs rest w v. (max w.0 v.0, g.more_terms w.0 v.0 s ts us x.0 xs.0 rest w.1 v.1);
}

terms_read : (lower : List Symbol → Reply (Fit TypeExpr)) → ReadsTypes lower → (ts : List Symbol) → ReadsAt TermsAt (terms_at lower) ts (terms_at lower ts)
terms_read lower h ts = chain_reads is_bar (λ x. (x.0 ∷ [], x.1)) (λ x xs. (x.0 ∷ xs.0, min x.1 xs.1)) TermAt TermsAt terms_chain (term_at lower) no_term (term_reads lower h) ts

-- after a first term without a tilde
abbrev FirstAt : TypeExpr → ℕ → List Symbol → Fit TypeExpr → List Symbol → Type 0
FirstAt ty at us x rest = (ts : List Symbol) (m : ℕ) → IsType m ts ty us → at ≡ start_of ts → UnionAt ts x rest

-- behind a bar
bar_by : (ty : TypeExpr) (at : ℕ) (k : Symbol) → is_bar k ≡ true → Sample (Behind k (FirstAt ty at))
bar_by ty at (t.Bar b) e = record {
  tokens = t.Ident any_ident ∷ [];
  made = (y.Union (term false ty at ∷ term false (named (plain any_ident)) any_ident.start ∷ []) at, 0);
  stands = λ tail ts m w e'. rw e' (
    suc (max m 1),
    g.several m 1 b ts (t.Ident any_ident ∷ tail) (term false ty (start_of ts)) (term false (named (plain any_ident)) any_ident.start ∷ []) tail (g.exactly m ts ty (t.Bar b ∷ t.Ident any_ident ∷ tail) w)
        (g.one_term 1 (t.Ident any_ident ∷ tail) (term false (named (plain any_ident)) any_ident.start) tail (g.exactly 1 (t.Ident any_ident ∷ tail) (named (plain any_ident)) tail (name_stands any_ident tail))),
  );
}
bar_by ty at _ e = absurd cc

type_after : (lower : List Symbol → Reply (Fit TypeExpr)) → ReadsTypes lower → (ty : TypeExpr) (fit at : ℕ) (us : List Symbol) → ReadsAt (FirstAt ty at) (after_type lower ty fit at) us (after_type lower ty fit at us)
type_after lower h ty zero at us =
    peek_reads (FirstAt ty at) is_bar too_deep (λ r. Ok ((ty, 0), r)) us
    (λ s. deep_reads (FirstAt ty at) is_bar us (record { tokens = []; made = (ty, 0); stands = λ tail ts m w e. (m, g.alone m ts ty tail w) }) (bar_by ty at) s)
    (λ s. done_reads (FirstAt ty at) (λ r. Ok ((ty, 0), r)) us (ty, 0) (λ tail ts m w e. (m, g.alone m ts ty tail w)) (λ r e. refl))
type_after lower h ty (suc fit) at us =
    choose_reads is_bar (FirstAt ty at) bar (more_terms lower (term false ty at, fit) at) (λ r. Ok ((ty, suc fit), r)) us
    (λ vs. value_reads TermsAt (Past bar (FirstAt ty at)) (terms_at lower) (λ xs. (y.Union (term false ty at ∷ xs.0) at, min fit xs.1)) vs
    (λ ws xs rest v b ts m w e. rw e (suc (max m v.0), g.several m v.0 b ts ws (term false ty (start_of ts)) xs.0 rest (g.exactly m ts ty (t.Bar b ∷ ws) w) v.1)) (terms_at lower vs) (terms_read lower h vs))
    (λ e. done_reads (FirstAt ty at) (λ r. Ok ((ty, suc fit), r)) us (ty, suc fit) (λ tail ts m w e'. (m, g.alone m ts ty tail w)) (λ r e'. refl))

first_reads : (inner lower : List Symbol → Reply (Fit TypeExpr)) → ReadsTypes inner → ReadsTypes lower → (ts : List Symbol) → ReadsAt UnionAt (type_first inner lower) ts (type_first inner lower ts)
first_reads inner lower h k ts =
    bind_reads (Placed TypeAt) UnionAt (placed inner) (λ x us. after_type lower x.0.0 x.0.1 x.1 us) ts
    (λ x. record { tokens = []; made = (x.0.0, 0); stands = λ tail us w. (w.0.0, g.alone w.0.0 us x.0.0 tail w.0.1) })
    (λ x us o. as_first lower k x us)
    (placed inner ts) (placed_reads TypeAt inner ts no_type_here no_literal (inner ts) (h ts))
  where
    as_first : (lower : List Symbol → Reply (Fit TypeExpr)) → ReadsTypes lower → (x : Fit TypeExpr × ℕ) (us : List Symbol) → ReadsAt (After (Placed TypeAt) UnionAt x) (after_type lower x.0.0 x.0.1 x.1) us (after_type lower x.0.0 x.0.1 x.1 us)
    as_first lower k x us = as_reads (FirstAt x.0.0 x.1) (After (Placed TypeAt) UnionAt x) (after_type lower x.0.0 x.0.1 x.1) us (after_type lower x.0.0 x.0.1 x.1 us) (λ vs z rest q ts w. q ts w.0.0 w.0.1 w.1) (type_after lower k x.0.0 x.0.1 x.1 us)

some_union : Sample UnionAt
some_union = record { tokens = some_type.tokens; made = some_type.made; stands = λ tail. (1, g.alone 1 (t.Ident any_ident ∷ tail) (named (plain any_ident)) tail (name_stands any_ident tail)) }

tilde_reads : (lower : List Symbol → Reply (Fit TypeExpr)) → ReadsTypes lower → (at : ℕ) (ts : List Symbol) → ReadsAt (Behind (t.Tilde at) UnionAt) (tilde_by lower at) ts (tilde_by lower at ts)
tilde_reads lower h at ts =
    bind_reads TypeAt (Behind (t.Tilde at) UnionAt) lower (λ ty us. after_tilde lower ty at us) ts
    (λ ty. record { tokens = []; made = (y.Union (term true ty.0 at ∷ []) at, ty.1); stands = λ tail us w. (suc w.0, g.approximate w.0 at us ty.0 tail w.1) })
    (λ ty us o. choose_reads is_bar (After TypeAt (Behind (t.Tilde at) UnionAt) ty) bar (more_terms lower (term true ty.0 at, ty.1) at) (λ r. Ok ((y.Union (term true ty.0 at ∷ []) at, ty.1), r)) us
    (λ vs. value_reads TermsAt (Past bar (After TypeAt (Behind (t.Tilde at) UnionAt) ty)) (terms_at lower) (λ xs. (y.Union (term true ty.0 at ∷ xs.0) at, min ty.1 xs.1)) vs
    (λ ws xs rest v b ts' w. (suc (max w.0 v.0), g.several w.0 v.0 b (t.Tilde at ∷ ts') ws (term true ty.0 at) xs.0 rest (g.approximately w.0 at ts' ty.0 (t.Bar b ∷ ws) w.1) v.1)) (terms_at lower vs) (terms_read lower h vs))
    (λ e. done_reads (After TypeAt (Behind (t.Tilde at) UnionAt) ty) (λ r. Ok ((y.Union (term true ty.0 at ∷ []) at, ty.1), r)) us (y.Union (term true ty.0 at ∷ []) at, ty.1)
    (λ tail ts' w. (suc w.0, g.approximate w.0 at ts' ty.0 tail w.1)) (λ r e'. refl)))
    (lower ts) (h ts)

tilde_first : (n : ℕ) (inner lower : List Symbol → Reply (Fit TypeExpr)) → ReadsTypes lower → (at : ℕ) (ts : List Symbol) → ReadsAt UnionAt (union_at n inner lower) (t.Tilde at ∷ ts) (union_at n inner lower (t.Tilde at ∷ ts))
tilde_first zero inner lower h at ts =
    deep_next UnionAt (union_at zero inner lower) (t.Tilde at) ts
    (record { tokens = t.Ident any_ident ∷ []; made = (y.Union (term true (named (plain any_ident)) at ∷ []) at, 0); stands = λ tail. (2, g.approximate 1 at (t.Ident any_ident ∷ tail) (named (plain any_ident)) tail (name_stands any_ident tail)) })
    (λ r. refl)
tilde_first (suc n) inner lower h at ts = cons_reads UnionAt (union_at (suc n) inner lower) (tilde_by lower at) (t.Tilde at) ts (tilde_by lower at ts) (λ r. refl) (tilde_reads lower h at ts)

pub union_reads : (n : ℕ) (inner lower : List Symbol → Reply (Fit TypeExpr)) → ReadsTypes inner → ReadsTypes lower → (ts : List Symbol) → ReadsAt UnionAt (union_at n inner lower) ts (union_at n inner lower ts)
union_reads n inner lower h k [] = like_reads UnionAt (union_at n inner lower) (type_first inner lower) [] (type_first inner lower []) (ends_so (λ r. union_at n inner lower r ≡ type_first inner lower r) refl) (first_reads inner lower h k [])
union_reads n inner lower h k (t.Tilde at ∷ ts) = tilde_first n inner lower k at ts
union_reads n inner lower h k (j ∷ ts) =
    like_reads UnionAt (union_at n inner lower) (type_first inner lower) (j ∷ ts) (type_first inner lower (j ∷ ts)) (next_is (λ r. union_at n inner lower r ≡ type_first inner lower r) j (λ r. refl)) (first_reads inner lower h k (j ∷ ts))

-- ---- elements

name_first_reads : (n : ℕ) (lower : List Symbol → Reply (Fit TypeExpr)) → ReadsTypes lower → (i : Ident) (ts : List Symbol) → ReadsAt (Behind (t.Ident i) UnionAt) (name_first n lower i) ts (name_first n lower i ts)
name_first_reads n lower h i ts =
    bind_reads (Behind (t.Ident i) TypeAt) (Behind (t.Ident i) UnionAt) (name_by n lower i) (λ ty us. after_type lower ty.0 ty.1 i.start us) ts
    (λ ty. record { tokens = []; made = ty; stands = λ tail us w. (w.0, g.alone w.0 (t.Ident i ∷ us) ty.0 tail w.1) })
    (λ ty us o. as_reads (FirstAt ty.0 i.start) (After (Behind (t.Ident i) TypeAt) (Behind (t.Ident i) UnionAt) ty) (after_type lower ty.0 ty.1 i.start) us (after_type lower ty.0 ty.1 i.start us)
    (λ vs z rest q us' w. q (t.Ident i ∷ us') w.0 w.1 refl) (type_after lower h ty.0 ty.1 i.start us))
    (name_by n lower i ts) (name_reads n lower h i ts)

-- the last element of an interface, and the brace that closes it
abbrev pub ClosedElem : List Symbol → Fit ElemExpr → List Symbol → Type 0
ClosedElem us x rest = (m : ℕ) × IsElems m us (x.0 ∷ []) rest

closes_elem : (us : List Symbol) (x : Fit ElemExpr) (rest : List Symbol) → ElemAt us x (t.CloseBrace 0 ∷ rest) → ClosedElem us x rest
closes_elem us x rest w = (w.0, g.last_elem w.0 0 us x.0 rest w.1)

closed_reads : (p : List Symbol → Reply (Fit ElemExpr)) (ts : List Symbol) → ReadsAt ElemAt p ts (p ts) → ReadsOn ElemAt ClosedElem p ts (p ts)
closed_reads p ts h = ended_on ElemAt ClosedElem (t.CloseBrace 0 ∷ []) p ts (p ts) closes_elem h

-- after the first identifier
behind_reads : (i : Ident) (p : List Symbol → Reply (Fit ElemExpr)) (ts : List Symbol) → ReadsAt (Behind (t.Ident i) ElemAt) p ts (p ts) → ReadsOn (Behind (t.Ident i) ElemAt) (Behind (t.Ident i) ClosedElem) p ts (p ts)
behind_reads i p ts h = ended_on (Behind (t.Ident i) ElemAt) (Behind (t.Ident i) ClosedElem) (t.CloseBrace 0 ∷ []) p ts (p ts) (λ us x r w. closes_elem (t.Ident i ∷ us) x r w) h

-- an embedded type before a token
embeds : (m : ℕ) (i : Ident) (us : List Symbol) (ty : TypeExpr) (k : Symbol) (tail : List Symbol) → IsNamed m (t.Ident i ∷ us) ty (k ∷ tail) → IsElem m (t.Ident i ∷ us) (elem.Embedded ty i.start) (k ∷ tail)
embeds m i us ty k tail w = g.embeds m (t.Ident i ∷ us) ty (k ∷ tail) (g.alone m (t.Ident i ∷ us) ty (k ∷ tail) (g.name m (t.Ident i ∷ us) ty (k ∷ tail) w))

-- what may follow a token that shows an embedded type
shown_by : (i : Ident) (k : Symbol) → shows_elem k ≡ true → Sample (Behind k (Behind (t.Ident i) ClosedElem))
unfolding bar_by
shown_by i (t.Dot d) e = record {
  tokens = t.Ident any_ident ∷ t.CloseBrace 0 ∷ [];
  made = (elem.Embedded (named (selected i any_ident)) i.start, 0);
  stands = λ tail. (
    1,
    g.last_elem 1 0 (t.Ident i ∷ t.Dot d ∷ t.Ident any_ident ∷ t.CloseBrace 0 ∷ tail) (elem.Embedded (named (selected i any_ident)) i.start) tail
        (embeds 1 i (t.Dot d ∷ t.Ident any_ident ∷ t.CloseBrace 0 ∷ tail) (named (selected i any_ident)) (t.CloseBrace 0) tail (dotted_stands i d (t.CloseBrace 0 ∷ tail))),
  );
}
shown_by i (t.OpenBracket o) e = record {
  tokens = t.Ident any_ident ∷ t.CloseBracket 0 ∷ t.CloseBrace 0 ∷ [];
  made = (elem.Embedded (instance (plain i) (named (plain any_ident) ∷ [])) i.start, 0);
  stands = λ tail. (
    2,
    g.last_elem 2 0 (t.Ident i ∷ t.OpenBracket o ∷ t.Ident any_ident ∷ t.CloseBracket 0 ∷ t.CloseBrace 0 ∷ tail) (elem.Embedded (instance (plain i) (named (plain any_ident) ∷ [])) i.start) tail
        (embeds 2 i (t.OpenBracket o ∷ t.Ident any_ident ∷ t.CloseBracket 0 ∷ t.CloseBrace 0 ∷ tail) (instance (plain i) (named (plain any_ident) ∷ [])) (t.CloseBrace 0) tail (applied_stands i o (t.CloseBrace 0 ∷ tail))),
  );
}
shown_by i (t.Bar b) e =
    let s = bar_by (named (plain i)) i.start (t.Bar b) refl in
    record {
      tokens = t.Ident any_ident ∷ t.CloseBrace 0 ∷ [];
      made = (elem.Embedded s.made.0 i.start, 0);
      stands = λ tail.
          let w = s.stands (t.CloseBrace 0 ∷ tail) (t.Ident i ∷ t.Bar b ∷ t.Ident any_ident ∷ t.CloseBrace 0 ∷ tail) 1 (name_stands i (t.Bar b ∷ t.Ident any_ident ∷ t.CloseBrace 0 ∷ tail)) refl in
          closes_elem (t.Ident i ∷ t.Bar b ∷ t.Ident any_ident ∷ t.CloseBrace 0 ∷ tail) (elem.Embedded s.made.0 i.start, 0) tail
          (w.0, g.embeds w.0 (t.Ident i ∷ t.Bar b ∷ t.Ident any_ident ∷ t.CloseBrace 0 ∷ tail) s.made.0 (t.CloseBrace 0 ∷ tail) w.1);
    }
shown_by i (t.Semicolon s) e = record {
  tokens = t.CloseBrace 0 ∷ [];
  made = (elem.Embedded (named (plain i)) i.start, 0);
  stands = λ tail. (
    max 1 0,
    g.more_elems 1 0 s (t.Ident i ∷ t.Semicolon s ∷ t.CloseBrace 0 ∷ tail) (t.CloseBrace 0 ∷ tail) (elem.Embedded (named (plain i)) i.start) [] tail
        (embeds 1 i (t.Semicolon s ∷ t.CloseBrace 0 ∷ tail) (named (plain i)) (t.Semicolon s) (t.CloseBrace 0 ∷ tail) (plain_stands i (t.Semicolon s ∷ t.CloseBrace 0 ∷ tail))) (g.no_elem 0 tail),
  );
}
shown_by i (t.CloseBrace c) e = record {
  tokens = [];
  made = (elem.Embedded (named (plain i)) i.start, 0);
  stands = λ tail. (1, g.last_elem 1 c (t.Ident i ∷ t.CloseBrace c ∷ tail) (elem.Embedded (named (plain i)) i.start) tail (embeds 1 i (t.CloseBrace c ∷ tail) (named (plain i)) (t.CloseBrace c) tail (plain_stands i (t.CloseBrace c ∷ tail))));
}
shown_by i _ e = absurd cc

embedded_reads : (n : ℕ) (lower : List Symbol → Reply (Fit TypeExpr)) → ReadsTypes lower → (i : Ident) (ts : List Symbol)
    → ReadsOn (Behind (t.Ident i) ElemAt) (Behind (t.Ident i) ClosedElem) (embedded_elem n lower i) ts (embedded_elem n lower i ts)
embedded_reads zero lower h i ts =
    let some : Sample (Behind (t.Ident i) ElemAt) = record {
      tokens = [];
      made = (elem.Embedded (named (plain i)) i.start, 0);
      stands = λ tail. (1, g.embeds 1 (t.Ident i ∷ tail) (named (plain i)) tail (g.alone 1 (t.Ident i ∷ tail) (named (plain i)) tail (name_stands i tail)));
    } in
    peek_on (Behind (t.Ident i) ElemAt) (Behind (t.Ident i) ClosedElem) shows_elem too_deep unexpected ts
    (λ s. deep_on (Behind (t.Ident i) ElemAt) (Behind (t.Ident i) ClosedElem) shows_elem ts some (shown_by i) s)
    (λ s. behind_reads i unexpected ts (stuck_reads (Behind (t.Ident i) ElemAt) ts some))
embedded_reads (suc n) lower h i ts =
    behind_reads i (embedded_elem (suc n) lower i) ts
    (value_reads (Behind (t.Ident i) UnionAt) (Behind (t.Ident i) ElemAt) (name_first n lower i) (λ x. (elem.Embedded x.0 i.start, x.1)) ts (λ us x rest w. (w.0, g.embeds w.0 (t.Ident i ∷ us) x.0 rest w.1))
    (name_first n lower i ts) (name_first_reads n lower h i ts))

named_elem_reads : (n : ℕ) (inner lower : List Symbol → Reply (Fit TypeExpr)) → ReadsTypes inner → Begun n inner → ReadsTypes lower → (i : Ident) (ts : List Symbol)
    → ReadsOn (Behind (t.Ident i) ElemAt) (Behind (t.Ident i) ClosedElem) (named_elem n inner lower i) ts (named_elem n inner lower i ts)
named_elem_reads n inner lower h d k i ts =
    peek_on (Behind (t.Ident i) ElemAt) (Behind (t.Ident i) ClosedElem) is_open_paren (method_by n inner i) (embedded_elem n lower i) ts
    (λ s. behind_reads i (method_by n inner i) ts
    (value_reads SigAt (Behind (t.Ident i) ElemAt) (sig_at n inner) (λ x. (elem.Method i x.0 i.start, x.1)) ts (λ us x rest w. (w.0, g.method w.0 i us x.0 rest w.1)) (sig_at n inner ts) (sig_reads n inner h d ts)))
    (λ s. embedded_reads n lower k i ts)

union_elem_reads : (n : ℕ) (inner lower : List Symbol → Reply (Fit TypeExpr)) → ReadsTypes inner → ReadsTypes lower → (ts : List Symbol) → ReadsAt ElemAt (union_elem n inner lower) ts (union_elem n inner lower ts)
union_elem_reads n inner lower h k ts =
    value_reads (Placed UnionAt) ElemAt (placed (union_at n inner lower)) (λ x. (elem.Embedded x.0.0 x.1, x.0.1)) ts (λ us x rest w. rw w.1 (w.0.0, g.embeds w.0.0 us x.0.0 rest w.0.1)) (placed (union_at n inner lower) ts)
    (placed_reads UnionAt (union_at n inner lower) ts no_union no_union_literal (union_at n inner lower ts) (union_reads n inner lower h k ts))

pub elem_reads : (n : ℕ) (inner lower : List Symbol → Reply (Fit TypeExpr)) → ReadsTypes inner → Begun n inner → ReadsTypes lower → (ts : List Symbol) → ReadsOn ElemAt ClosedElem (elem_at n inner lower) ts (elem_at n inner lower ts)
elem_reads n inner lower h d k [] = like_on ElemAt ClosedElem (elem_at n inner lower) (union_elem n inner lower) [] (union_elem n inner lower []) (ends_so (λ r. elem_at n inner lower r ≡ union_elem n inner lower r) refl) (closed_reads (union_elem n inner lower) [] (union_elem_reads n inner lower h k []))
elem_reads n inner lower h d k (t.Ident i ∷ ts) = cons_on ElemAt ClosedElem (elem_at n inner lower) (named_elem n inner lower i) (t.Ident i) ts (named_elem n inner lower i ts) (λ r. refl) (named_elem_reads n inner lower h d k i ts)
elem_reads n inner lower h d k (j ∷ ts) =
    like_on ElemAt ClosedElem (elem_at n inner lower) (union_elem n inner lower) (j ∷ ts) (union_elem n inner lower (j ∷ ts)) (next_is (λ r. elem_at n inner lower r ≡ union_elem n inner lower r) j (λ r. refl)) (closed_reads (union_elem n inner lower) (j ∷ ts) (union_elem_reads n inner lower h k (j ∷ ts)))

elem_row : (n : ℕ) → IsSeries (fits n is_semicolon is_close_brace) ElemAt ElemsAt
elem_row n = record {
  between = semicolon;
  ending = close_brace;
  none = λ c rest. (0, g.no_elem c rest);
  last = λ c ts x rest w. (w.0, g.last_elem w.0 c ts x.0 rest w.1);
  more = λ s ts us x xs rest e w v. (max w.0 v.0, g.more_elems w.0 v.0 s ts us x.0 xs.0 rest w.1 v.1);
  final = λ s c ts x rest e w. absurd cc;
}

pub elems_read : (n : ℕ) (inner lower : List Symbol → Reply (Fit TypeExpr)) → ReadsTypes inner → Begun n inner → ReadsTypes lower → (ts : List Symbol) → ReadsAt ElemsAt (elems_at n inner lower) ts (elems_at n inner lower ts)
elems_read n inner lower h d k ts = series_on (fits n is_semicolon is_close_brace) ElemAt ElemsAt (elem_row n) (elem_at n inner lower) no_elem_here (elem_reads n inner lower h d k) ts
