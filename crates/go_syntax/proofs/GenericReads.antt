-- What the readers of type parameters do.
use Rattle.std.proofs.Common.{◌≡◌, ℕ, zero, suc, max, ◌≤◌, Bool, true, false, List, [], ◌∷◌, Ok, refl, sym, subst, ◌∙◌, arith}
use Rattle.go_expr_syntax.specs.declared.symbols.Symbol.{Symbol}
use Rattle.go_expr_syntax.specs.declared.symbols.Symbol.TheVariants as t
use Rattle.go_expr_syntax.specs.declared.symbols.Ident.{Ident}
use Rattle.go_lexer.specs.declared.token_kinds.Token.{Token}
use Rattle.go_expr_syntax.specs.declared.faults.Fault.{Fault}
use Rattle.go_syntax.specs.declared.tree.TParam.{TParam}
use Rattle.go_type_syntax.specs.declared.tree.TypeExpr.{TypeExpr}
use Rattle.go_syntax.specs.declared.tree.Top.{Top}
use Rattle.go_expr_syntax.specs.Reading.{Reply, ◌>>=◌, starts, is_comma, is_assign, is_open_bracket, is_close_bracket, series_end, series}
use Rattle.go_expr_syntax.specs.Names.{plain, IsNames, one, more, ident_at, names_at}
use Rattle.go_type_syntax.specs.Grammar as g
use Rattle.go_type_syntax.specs.Grammar.{named, IsType, IsUnion}
use Rattle.go_type_syntax.specs.Elements.{union_at}
use Rattle.go_type_syntax.specs.Types.{readers, type_at, lower_at}
use Rattle.go_expr_syntax.specs.Operands.{expr_of, climb_of}
use Rattle.go_syntax.specs.Generics as q
use Rattle.go_syntax.specs.Generics.{tparam, IsTParam, IsTParams, IsGeneric, tparam_type, tparam_more, tparam_first, tparam_at, tparams, tparams_at, generic_at, constraint_at}
use Rattle.go_expr_syntax.specs.Reading.{shows_length}
use Rattle.go_syntax.specs.Decls as d
use Rattle.go_syntax.specs.Decls.{defined, alias, IsTypeSpec}
use Rattle.go_syntax.specs.Files.{alias_by, defined_by, declared_by, generic_by, type_first}
use Rattle.go_expr_syntax.proofs.Viable.{going, turned, ReadsBy, like_by, as_by, cons_by, value_by, next_is, ends_so, ReadsAt, Behind, Past, After, done_reads, like_reads, as_reads, cons_reads, choose_reads, bind_reads, value_reads, only_reads, starts_same, from_start_reads}
use Rattle.go_expr_syntax.proofs.Uncons.{uncons_by, uncons_reads}
use Rattle.go_expr_syntax.proofs.Marks.{comma, assign, open_bracket, close_bracket}
use Rattle.go_expr_syntax.proofs.NameReads.{IsIdent, any_ident, ident_reads, names_reads, no_names, through_value}
use Rattle.go_type_syntax.proofs.Standing.{no_literal, no_union_literal, TypeAt, UnionAt, name_stands, no_type_here}
use Rattle.go_expr_syntax.proofs.OperandReads.{no_expr_here}
use Rattle.go_type_syntax.proofs.ElemReads.{union_reads}
use Rattle.go_type_syntax.proofs.TypeReads.{type_reads, lower_reads}
use Rattle.go_expr_syntax.proofs.Rows.{Eats, eats_of, IsSeries, series_reads, end_reads}
use Rattle.go_syntax.proofs.Groups.{Any}

-- ---- one constraint

abbrev pub TParamAt : List Symbol → TParam → List Symbol → Type 0
TParamAt = Any IsTParam

abbrev Rest : Ident → List Ident → List Symbol → TParam → List Symbol → Type 0
Rest i names = After IsNames TParamAt (i ∷ names)

some_union : (tail : List Symbol) → IsUnion 1 (t.Ident any_ident ∷ tail) (named (plain any_ident)) tail
some_union tail = g.alone 1 (t.Ident any_ident ∷ tail) (named (plain any_ident)) tail (name_stands any_ident tail)

type_reads_on : (n : ℕ) (i : Ident) (names : List Ident) (ts : List Symbol) → ReadsAt (Rest i names) (tparam_type n (i ∷ names) i.start) ts (tparam_type n (i ∷ names) i.start ts)
type_reads_on n i names ts =
    value_reads UnionAt (Rest i names) (constraint_at n) (λ ty. tparam (i ∷ names) ty.0 i.start) ts (λ us ty rest w vs v. (w.0, q.constrained w.0 vs i names us ty.0 rest v w.1))
    (constraint_at n ts) (from_start_reads UnionAt (union_at n (type_at n) (lower_at n)) ts (union_at n (type_at n) (lower_at n) ts) (union_reads n (type_at n) (lower_at n) (type_reads n) (lower_reads n) ts))

abbrev flat : ℕ → Ident → List Symbol → Reply TParam
flat n i ts = names_at ts >>= λ names. tparam_type n (i ∷ names.0) i.start names.1

more_is : (n : ℕ) (i : Ident) (ts : List Symbol) → tparam_more n i ts ≡ flat n i ts
more_is n i ts = through_value (names_at ts) (λ (names : List Ident). i ∷ names) (λ names us. tparam_type n names i.start us)

flat_reads : (n : ℕ) (i : Ident) (ts : List Symbol) → ReadsAt (Past comma (Behind (t.Ident i) TParamAt)) (flat n i) ts (flat n i ts)
flat_reads n i ts =
    bind_reads IsNames (Past comma (Behind (t.Ident i) TParamAt)) names_at (λ names us. tparam_type n (i ∷ names) i.start us) ts
    (λ names. record {
      tokens = t.Ident any_ident ∷ [];
      made = tparam (i ∷ names) (named (plain any_ident)) i.start;
      stands = λ tail us w c. (1, q.constrained 1 (t.Ident i ∷ t.Comma c ∷ us) i names (t.Ident any_ident ∷ tail) (named (plain any_ident)) tail (more i c us names _ w) (some_union tail));
    })
    (λ names us o. as_reads (Rest i names) (After IsNames (Past comma (Behind (t.Ident i) TParamAt)) names) (tparam_type n (i ∷ names) i.start) us (tparam_type n (i ∷ names) i.start us)
    (λ vs f rest w ws v c. w (t.Ident i ∷ t.Comma c ∷ ws) (more i c ws names vs v)) (type_reads_on n i names us))
    (names_at ts) (names_reads ts)

first_reads : (n : ℕ) (i : Ident) (ts : List Symbol) → ReadsAt (Behind (t.Ident i) TParamAt) (tparam_first n i) ts (tparam_first n i ts)
first_reads n i ts =
    choose_reads is_comma (Behind (t.Ident i) TParamAt) comma (tparam_more n i) (tparam_type n (i ∷ []) i.start) ts
    (λ us. like_reads (Past comma (Behind (t.Ident i) TParamAt)) (tparam_more n i) (flat n i) us (tparam_more n i us) (λ r e. more_is n i r)
    (subst (ReadsAt (Past comma (Behind (t.Ident i) TParamAt)) (flat n i) us) (sym (more_is n i us)) (flat_reads n i us)))
    (λ e. as_reads (Rest i []) (Behind (t.Ident i) TParamAt) (tparam_type n (i ∷ []) i.start) ts (tparam_type n (i ∷ []) i.start ts) (λ us f rest w. w (t.Ident i ∷ us) (one i us)) (type_reads_on n i [] ts))

pub tparam_reads : (n : ℕ) (ts : List Symbol) → ReadsAt TParamAt (tparam_at n) ts (tparam_at n ts)
tparam_reads n ts =
    bind_reads IsIdent TParamAt ident_at (tparam_first n) ts
    (λ i. record {
      tokens = t.Ident any_ident ∷ [];
      made = tparam (i ∷ []) (named (plain any_ident)) i.start;
      stands = λ tail us e. rw e (1, q.constrained 1 (t.Ident i ∷ t.Ident any_ident ∷ tail) i [] (t.Ident any_ident ∷ tail) (named (plain any_ident)) tail (one i (t.Ident any_ident ∷ tail)) (some_union tail));
    })
    (λ i us o. as_reads (Behind (t.Ident i) TParamAt) (After IsIdent TParamAt i) (tparam_first n i) us (tparam_first n i us) (λ vs x rest w ws e. rw e w) (first_reads n i us))
    (ident_at ts) (ident_reads ts)

no_tparam_of : (m : ℕ) (x : TParam) (us : List Symbol) → IsTParam m [] x us → ⊥
no_tparam_of m x us (q.constrained n ts i names vs ty rest a b) = no_names (i ∷ names) vs a

no_tparam_here : (x : TParam) (us : List Symbol) → TParamAt [] x us → ⊥
no_tparam_here x us w = no_tparam_of w.0 x us w.1

pub tparam_eats : (n : ℕ) → Eats (tparam_at n)
tparam_eats n = eats_of TParamAt (tparam_at n) no_tparam_here (tparam_reads n)

names_no_bracket : (ts : List Symbol) (names : List Ident) (rest : List Symbol) → IsNames ts names rest → starts is_close_bracket ts ≡ false
names_no_bracket ts names rest (one i r) = refl
names_no_bracket ts names rest (more i c us ns r w) = refl

pub tparam_no_close : (m : ℕ) (ts : List Symbol) (x : TParam) (rest : List Symbol) → IsTParam m ts x rest → starts is_close_bracket ts ≡ false
tparam_no_close m ts x rest (q.constrained n us i names vs ty r a b) = names_no_bracket us (i ∷ names) vs a

-- ---- a list of them

abbrev pub TParamsAt : List Symbol → List TParam → List Symbol → Type 0
TParamsAt = Any IsTParams

tparam_series : IsSeries tparams TParamAt TParamsAt
tparam_series = record {
  between = comma;
  ending = close_bracket;
  none = λ c rest. (0, q.no_tparam c rest);
  last = λ c ts x rest w. (w.0, q.last_tparam w.0 c ts x rest w.1);
  more = λ s ts us x xs rest l w v. (max w.0 v.0, q.more_tparams w.0 v.0 s ts us x xs rest w.1 v.1);
  final = λ s c ts x rest l w. absurd cc;
}

abbrev listed : ℕ → TParam → List Symbol → Reply (List TParam)
listed n x ts = series_end tparams (series tparams (tparam_at n)) x ts

listed_reads : (n : ℕ) (x : TParam) (ts : List Symbol) → ReadsAt (After TParamAt TParamsAt x) (listed n x) ts (listed n x ts)
listed_reads n x ts =
    end_reads tparams TParamAt TParamsAt tparam_series (series tparams (tparam_at n)) x ts (λ vs less. series_reads tparams TParamAt TParamsAt tparam_series (tparam_at n) no_tparam_here (tparam_reads n) vs)

-- one at least
abbrev SomeTParams : List Symbol → List TParam → List Symbol → Type 0
SomeTParams ts xs rest = TParamsAt ts xs rest × (starts is_close_bracket ts ≡ false)

params_read : (n : ℕ) (ts : List Symbol) → ReadsAt SomeTParams (tparams_at n) ts (tparams_at n ts)
params_read n ts =
    bind_reads TParamAt SomeTParams (tparam_at n) (listed n) ts
    (λ x. record { tokens = t.CloseBracket 0 ∷ []; made = x ∷ []; stands = λ tail us w. ((w.0, q.last_tparam w.0 0 us x tail w.1), tparam_no_close w.0 us x (t.CloseBracket 0 ∷ tail) w.1) })
    (λ x us o. as_reads (After TParamAt TParamsAt x) (After TParamAt SomeTParams x) (listed n x) us (listed n x us) (λ vs xs rest w ws v. (w ws v, tparam_no_close v.0 ws x vs v.1)) (listed_reads n x us))
    (tparam_at n ts) (tparam_reads n ts)

abbrev pub GenericAt : List Symbol → List TParam → List Symbol → Type 0
GenericAt = Any IsGeneric

pub generic_reads : (n : ℕ) (ts : List Symbol) → ReadsAt GenericAt (generic_at n) ts (generic_at n ts)
generic_reads n ts =
    choose_reads is_open_bracket GenericAt open_bracket (tparams_at n) (λ us. Ok ([], us)) ts
    (λ us. as_reads SomeTParams (Past open_bracket GenericAt) (tparams_at n) us (tparams_at n us) (λ vs xs rest w o. (w.0.0, q.with_params w.0.0 o vs xs rest w.1 w.0.1)) (params_read n us))
    (λ e. done_reads GenericAt (λ us. Ok ([], us)) ts [] (λ tail. (0, q.plain tail)) (λ r e'. refl))

-- ---- a declared type, after its type parameters

data DeclaresAs (i : Ident) (ps : List TParam) : List Symbol → Top → List Symbol → Type 0 where
  as_new : (n : ℕ) (ts : List Symbol) (ty : TypeExpr) (rest : List Symbol) → IsType n ts ty rest → DeclaresAs i ps ts (defined i ps ty) rest
  as_alias : (n e : ℕ) (ts : List Symbol) (ty : TypeExpr) (rest : List Symbol) → IsType n ts ty rest → DeclaresAs i ps (t.Assign e ∷ ts) (alias i ps ty) rest

declared_reads : (n : ℕ) (i : Ident) (ps : List TParam) (ts : List Symbol) → ReadsAt (DeclaresAs i ps) (declared_by n i ps) ts (declared_by n i ps ts)
declared_reads n i ps ts =
    choose_reads is_assign (DeclaresAs i ps) assign (alias_by n i ps) (defined_by n i ps) ts
    (λ us. value_reads TypeAt (Past assign (DeclaresAs i ps)) (type_at n) (λ ty. alias i ps ty.0) us (λ vs ty rest w e. as_alias w.0 e vs ty.0 rest w.1) (type_at n us) (type_reads n us))
    (λ e. value_reads TypeAt (DeclaresAs i ps) (type_at n) (λ ty. defined i ps ty.0) ts (λ vs ty rest w. as_new w.0 vs ty.0 rest w.1) (type_at n ts) (type_reads n ts))

abbrev SpecAt : List Symbol → Top → List Symbol → Type 0
SpecAt = Any IsTypeSpec

-- what follows the bracket
abbrev OpenedAt : Ident → List Symbol → Top → List Symbol → Type 0
OpenedAt i ts x rest = (m : ℕ) × (ps : List TParam) × (us : List Symbol) × IsTParams m ts ps us × DeclaresAs i ps us x rest

-- after the first name
abbrev opened_by : ℕ → Ident → Ident → List Symbol → Reply (List TParam)
opened_by n i j ts = tparam_first n j ts >>= λ x. listed n x.0 x.1

opened_params : (n : ℕ) (i j : Ident) (ts : List Symbol) → ReadsAt (Behind (t.Ident j) TParamsAt) (opened_by n i j) ts (opened_by n i j ts)
opened_params n i j ts =
    bind_reads (Behind (t.Ident j) TParamAt) (Behind (t.Ident j) TParamsAt) (tparam_first n j) (listed n) ts
    (λ x. record { tokens = t.CloseBracket 0 ∷ []; made = x ∷ []; stands = λ tail us w. (w.0, q.last_tparam w.0 0 (t.Ident j ∷ us) x tail w.1) })
    (λ x us o. as_reads (After TParamAt TParamsAt x) (After (Behind (t.Ident j) TParamAt) (Behind (t.Ident j) TParamsAt) x) (listed n x) us (listed n x us) (λ vs xs rest w ws v. w (t.Ident j ∷ ws) v) (listed_reads n x us))
    (tparam_first n j ts) (first_reads n j ts)

opened_reads : (n : ℕ) (i j : Ident) (ts : List Symbol) → ReadsAt (Behind (t.Ident j) (OpenedAt i)) (λ us. generic_by n i (t.Ident j ∷ us)) ts (generic_by n i (t.Ident j ∷ ts))
opened_reads n i j ts =
    bind_reads (Behind (t.Ident j) TParamsAt) (Behind (t.Ident j) (OpenedAt i)) (opened_by n i j) (declared_by n i) ts
    (λ ps. record {
      tokens = t.Ident any_ident ∷ [];
      made = defined i ps (named (plain any_ident));
      stands = λ tail us w. (w.0, ps, t.Ident any_ident ∷ tail, w.1, as_new 1 (t.Ident any_ident ∷ tail) (named (plain any_ident)) tail (name_stands any_ident tail));
    })
    (λ ps us o. as_reads (DeclaresAs i ps) (After (Behind (t.Ident j) TParamsAt) (Behind (t.Ident j) (OpenedAt i)) ps) (declared_by n i ps) us (declared_by n i ps us) (λ vs x rest w ws v. (v.0, ps, vs, v.1, w)) (declared_reads n i ps us))
    (opened_by n i j ts) (opened_params n i j ts)

opened_as : (i : Ident) (a m : ℕ) (j : Ident) (ts : List Symbol) (ps : List TParam) (us : List Symbol) (x : Top) (rest : List Symbol) → starts shows_length ts ≡ false → IsTParams m (t.Ident j ∷ ts) ps us → DeclaresAs i ps us x rest
    → SpecAt (t.Ident i ∷ t.OpenBracket a ∷ t.Ident j ∷ ts) x rest
opened_as i a m j ts ps us x rest s w (as_new n vs ty r v) = (max m n, d.defines_generic m n i a j ts ps us ty rest s w v)
opened_as i a m j ts ps us x rest s w (as_alias n e vs ty r v) = (max m n, d.renames_generic m n i a j ts ps e vs ty rest s w v)

lone_name : (m : ℕ) (j : Ident) (x : TParam) (us : List Symbol) → IsTParam m (t.Ident j ∷ []) x us → ⊥
lone_name m j x us (q.constrained n ts i names vs ty rest (one i' r) b) = no_union_of n ty us b
  where
    no_union_of : (n : ℕ) (ty : TypeExpr) (us : List Symbol) → IsUnion n [] ty us → ⊥
    no_union_of n ty us (g.alone k ts z r w) = no_type_here (z, 0) us (k, w)
    no_union_of n ty us (g.several k l b ts vs y ys r (g.exactly k' ts' z r' w) v) = no_type_here (z, 0) (t.Bar b ∷ vs) (k', w)

lone_names : (m : ℕ) (j : Ident) (ps : List TParam) (us : List Symbol) → IsTParams m (t.Ident j ∷ []) ps us → ⊥
lone_names m j ps us (q.last_tparam n c ts x rest w) = lone_name n j x (t.CloseBracket c ∷ us) w
lone_names m j ps us (q.more_tparams k n s ts vs x xs rest w v) = lone_name k j x (t.Comma s ∷ vs) w

-- nor does a constraint begin with a literal
literal_name : (m : ℕ) (j : Ident) (token : Token) (us : List Symbol) (x : TParam) (rest : List Symbol) → IsTParam m (t.Ident j ∷ t.Literal token ∷ us) x rest → ⊥
literal_name m j token us x rest (q.constrained n ts i names vs ty r (one i' r') b) = no_union_literal token us (ty, 0) rest (n, b)

literal_names : (m : ℕ) (j : Ident) (token : Token) (us : List Symbol) (ps : List TParam) (rest : List Symbol) → IsTParams m (t.Ident j ∷ t.Literal token ∷ us) ps rest → ⊥
literal_names m j token us ps rest (q.last_tparam n c ts x r w) = literal_name n j token us x (t.CloseBracket c ∷ r) w
literal_names m j token us ps rest (q.more_tparams k n s ts vs x xs r w v) = literal_name k j token us x (t.Comma s ∷ vs) w

-- after the bracket and the first name
abbrev Named : Ident → ℕ → Ident → List Symbol → Top → List Symbol → Type 0
Named i a j = Behind (t.Ident j) (Behind (t.OpenBracket a) (Behind (t.Ident i) SpecAt))

params_side : (n : ℕ) (i : Ident) (a : ℕ) (j : Ident) (ts : List Symbol) → starts shows_length ts ≡ false → ReadsAt (Named i a j) (λ us. generic_by n i (t.Ident j ∷ us)) ts (generic_by n i (t.Ident j ∷ ts))
params_side n i a j ts s =
    only_reads (Behind (t.Ident j) (OpenedAt i)) (Named i a j) (λ us. generic_by n i (t.Ident j ∷ us)) ts
    (λ k us x rest e w. opened_as i a w.0 j (k ∷ us) w.1 w.2 x rest (sym (starts_same shows_length ts (k ∷ []) e) ∙ s) w.3 w.4)
    (λ x us w. lone_names w.0 j w.1 w.2 w.3)
    (λ token us x rest w. literal_names w.0 j token us w.1 w.2 w.3)
    (record {
      tokens = t.Ident any_ident ∷ t.CloseBracket 0 ∷ t.Ident any_ident ∷ [];
      made = defined i (tparam (j ∷ []) (named (plain any_ident)) j.start ∷ []) (named (plain any_ident));
      stands = λ tail. (
        1,
        d.defines_generic 1 1 i a j (t.Ident any_ident ∷ t.CloseBracket 0 ∷ t.Ident any_ident ∷ tail) (tparam (j ∷ []) (named (plain any_ident)) j.start ∷ []) (t.Ident any_ident ∷ tail) (named (plain any_ident)) tail refl
            (q.last_tparam 1 0 _ (tparam (j ∷ []) (named (plain any_ident)) j.start) (t.Ident any_ident ∷ tail) (q.constrained 1 _ j [] _ (named (plain any_ident)) _ (one j _) (some_union (t.CloseBracket 0 ∷ t.Ident any_ident ∷ tail)))) (name_stands any_ident tail),
      );
    })
    (generic_by n i (t.Ident j ∷ ts)) (opened_reads n i j ts)

-- ---- an array or a slice, after its bracket, and after an identifier in it

no_bare_bracket : (m a : ℕ) (ty : TypeExpr) (us : List Symbol) → IsType m (t.OpenBracket a ∷ []) ty us → ⊥
no_bare_bracket m a ty us (g.array i n at c ts x vs z r w v) = no_expr_here 5 (x, 0) (t.CloseBracket c ∷ vs) (i, w)
no_bare_bracket m a ty us (g.name n ts z r (g.by_name k vs x ws args r' w b)) = elim w [ ]

bracket_type : (n a : ℕ) (ts : List Symbol) → 2 ≤ n → ReadsAt (Behind (t.OpenBracket a) TypeAt) (λ us. type_at n (t.OpenBracket a ∷ us)) ts (type_at n (t.OpenBracket a ∷ ts))
unfolding readers
bracket_type zero a ts two = absurd (omega arith)
bracket_type (suc zero) a ts two = absurd (omega arith)
bracket_type (suc (suc n)) a ts two =
    uncons_reads TypeAt (type_at (suc (suc n))) (t.OpenBracket a) ts no_type_here no_literal (t.CloseBracket 0 ∷ t.Ident any_ident ∷ []) _ refl (type_at (suc (suc n)) (t.OpenBracket a ∷ ts)) (type_reads (suc (suc n)) (t.OpenBracket a ∷ ts))

length_type : (n a : ℕ) (j : Ident) (ts : List Symbol) → 2 ≤ n
    → ReadsBy (Behind (t.Ident j) (Behind (t.OpenBracket a) TypeAt)) (λ f. Behind (t.Ident j) (going (Behind (t.OpenBracket a) TypeAt) f)) (λ us. type_at n (t.OpenBracket a ∷ t.Ident j ∷ us)) ts (type_at n (t.OpenBracket a ∷ t.Ident j ∷ ts))
unfolding readers expr_of climb_of
length_type zero a j ts two = absurd (omega arith)
length_type (suc zero) a j ts two = absurd (omega arith)
length_type (suc (suc n)) a j ts two =
    uncons_by (Behind (t.OpenBracket a) TypeAt) (λ us. type_at (suc (suc n)) (t.OpenBracket a ∷ us)) (t.Ident j) ts (λ x us w. no_bare_bracket w.0 a x.0 us w.1) (t.CloseBracket 0 ∷ t.Ident any_ident ∷ []) _ refl
    (type_at (suc (suc n)) (t.OpenBracket a ∷ t.Ident j ∷ ts)) (bracket_type (suc (suc n)) a (t.Ident j ∷ ts) two)

-- ---- after the name of a declared type

abbrev Bracketed : Ident → ℕ → List Symbol → Top → List Symbol → Type 0
Bracketed i a = Behind (t.OpenBracket a) (Behind (t.Ident i) SpecAt)

plain_side : (n : ℕ) (i : Ident) (a : ℕ) (ts : List Symbol) → 2 ≤ n → ReadsAt (Bracketed i a) (λ us. defined_by n i [] (t.OpenBracket a ∷ us)) ts (defined_by n i [] (t.OpenBracket a ∷ ts))
plain_side n i a ts two =
    value_reads (Behind (t.OpenBracket a) TypeAt) (Bracketed i a) (λ us. type_at n (t.OpenBracket a ∷ us)) (λ ty. defined i [] ty.0) ts (λ us ty rest w. (w.0, d.defines w.0 i (t.OpenBracket a ∷ us) ty.0 rest w.1))
    (type_at n (t.OpenBracket a ∷ ts)) (bracket_type n a ts two)

-- what a fault goes on to behind the identifier
abbrev Naming : Ident → ℕ → Ident → Fault → List Symbol → Top → List Symbol → Type 0
Naming i a j f = Behind (t.Ident j) (going (Bracketed i a) f)

length_side : (n : ℕ) (i : Ident) (a : ℕ) (j : Ident) (ts : List Symbol) → 2 ≤ n → ReadsBy (Named i a j) (Naming i a j) (λ us. defined_by n i [] (t.OpenBracket a ∷ t.Ident j ∷ us)) ts (defined_by n i [] (t.OpenBracket a ∷ t.Ident j ∷ ts))
length_side n i a j ts two =
    value_by (Behind (t.Ident j) (Behind (t.OpenBracket a) TypeAt)) (λ f. Behind (t.Ident j) (going (Behind (t.OpenBracket a) TypeAt) f)) (Named i a j) (Naming i a j) (λ us. type_at n (t.OpenBracket a ∷ t.Ident j ∷ us)) (λ ty. defined i [] ty.0) ts
    (λ us ty rest w. (w.0, d.defines w.0 i (t.OpenBracket a ∷ t.Ident j ∷ us) ty.0 rest w.1))
    (λ f us ty rest w. turned (Behind (t.OpenBracket a) TypeAt) (Bracketed i a) [] ty (defined i [] ty.0) rest rest (λ vs v. (v.0, d.defines v.0 i (t.OpenBracket a ∷ vs) ty.0 rest v.1)) f (t.Ident j ∷ us) w)
    (type_at n (t.OpenBracket a ∷ t.Ident j ∷ ts)) (length_type n a j ts two)

-- type parameters, which are behind the identifier
params_by : (n : ℕ) (i : Ident) (a : ℕ) (j : Ident) (ts : List Symbol) → starts shows_length ts ≡ false → ReadsBy (Named i a j) (Naming i a j) (λ us. generic_by n i (t.Ident j ∷ us)) ts (generic_by n i (t.Ident j ∷ ts))
params_by n i a j ts s =
    as_by (Named i a j) (Named i a j) (going (Named i a j)) (Naming i a j) (λ us. generic_by n i (t.Ident j ∷ us)) ts (generic_by n i (t.Ident j ∷ ts)) (λ us x rest w. w)
    (λ f us x rest w. turned (Named i a j) (Bracketed i a) (t.Ident j ∷ []) x x rest rest (λ vs v. v) f us w) (params_side n i a j ts s)

abbrev after_name : ℕ → Ident → ℕ → Ident → List Symbol → Reply Top
after_name n i a j us = type_first n i (t.OpenBracket a ∷ t.Ident j ∷ us)

name_so : (n : ℕ) (i : Ident) (a : ℕ) (j : Ident) (ts : List Symbol) (b : Bool) → 2 ≤ n → starts shows_length ts ≡ b → ReadsBy (Named i a j) (Naming i a j) (after_name n i a j) ts (after_name n i a j ts)
name_so n i a j ts true two s =
    like_by (Named i a j) (Naming i a j) (after_name n i a j) (λ us. defined_by n i [] (t.OpenBracket a ∷ t.Ident j ∷ us)) ts (after_name n i a j ts)
    (λ r e. let here : starts shows_length r ≡ true = sym (starts_same shows_length ts r e) ∙ s in rw here refl) (rw s (length_side n i a j ts two))
name_so n i a j ts false two s =
    like_by (Named i a j) (Naming i a j) (after_name n i a j) (λ us. generic_by n i (t.Ident j ∷ us)) ts (after_name n i a j ts)
    (λ r e. let here : starts shows_length r ≡ false = sym (starts_same shows_length ts r e) ∙ s in rw here refl) (rw s (params_by n i a j ts s))

abbrev after_bracket : ℕ → Ident → ℕ → List Symbol → Reply Top
after_bracket n i a us = type_first n i (t.OpenBracket a ∷ us)

bracket_so : (n : ℕ) (i : Ident) (a : ℕ) (ts : List Symbol) → 2 ≤ n → ReadsAt (Bracketed i a) (after_bracket n i a) ts (after_bracket n i a ts)
bracket_so n i a [] two =
    like_reads (Bracketed i a) (after_bracket n i a) (λ us. defined_by n i [] (t.OpenBracket a ∷ us)) [] (after_bracket n i a [])
    (ends_so (λ r. after_bracket n i a r ≡ defined_by n i [] (t.OpenBracket a ∷ r)) refl) (plain_side n i a [] two)
bracket_so n i a (t.Ident j ∷ ts) two = cons_by (Bracketed i a) (going (Bracketed i a)) (after_bracket n i a) (after_name n i a j) (t.Ident j) ts (after_name n i a j ts) (λ r. refl) (name_so n i a j ts (starts shows_length ts) two refl)
bracket_so n i a (k ∷ ts) two =
    like_reads (Bracketed i a) (after_bracket n i a) (λ us. defined_by n i [] (t.OpenBracket a ∷ us)) (k ∷ ts) (after_bracket n i a (k ∷ ts))
    (next_is (λ r. after_bracket n i a r ≡ defined_by n i [] (t.OpenBracket a ∷ r)) k (λ r. refl)) (plain_side n i a (k ∷ ts) two)

declares_as : (i : Ident) (ts : List Symbol) (x : Top) (rest : List Symbol) → DeclaresAs i [] ts x rest → SpecAt (t.Ident i ∷ ts) x rest
declares_as i ts x rest (as_new n us ty r w) = (n, d.defines n i us ty r w)
declares_as i ts x rest (as_alias n e us ty r w) = (n, d.renames n i e us ty r w)

other_side : (n : ℕ) (i : Ident) (ts : List Symbol) → ReadsAt (Behind (t.Ident i) SpecAt) (declared_by n i []) ts (declared_by n i [] ts)
other_side n i ts = as_reads (DeclaresAs i []) (Behind (t.Ident i) SpecAt) (declared_by n i []) ts (declared_by n i [] ts) (declares_as i) (declared_reads n i [] ts)

pub type_first_reads : (n : ℕ) (i : Ident) (ts : List Symbol) → 2 ≤ n → ReadsAt (Behind (t.Ident i) SpecAt) (type_first n i) ts (type_first n i ts)
type_first_reads n i [] two = like_reads (Behind (t.Ident i) SpecAt) (type_first n i) (declared_by n i []) [] (type_first n i []) (ends_so (λ r. type_first n i r ≡ declared_by n i [] r) refl) (other_side n i [])
type_first_reads n i (t.OpenBracket a ∷ ts) two = cons_reads (Behind (t.Ident i) SpecAt) (type_first n i) (after_bracket n i a) (t.OpenBracket a) ts (after_bracket n i a ts) (λ r. refl) (bracket_so n i a ts two)
type_first_reads n i (k ∷ ts) two =
    like_reads (Behind (t.Ident i) SpecAt) (type_first n i) (declared_by n i []) (k ∷ ts) (type_first n i (k ∷ ts)) (next_is (λ r. type_first n i r ≡ declared_by n i [] r) k (λ r. refl)) (other_side n i (k ∷ ts))
