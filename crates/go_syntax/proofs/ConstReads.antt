-- What the readers of constants do.
use Rattle.std.proofs.Common.{◌≡◌, ℕ, max, ◌<◌, ◌≤◌, List, [], ◌∷◌, length, Some, None, Ok, refl, sym, ap, subst, arith}
use Rattle.go_expr_syntax.specs.declared.symbols.Symbol.{Symbol}
use Rattle.go_expr_syntax.specs.declared.symbols.Symbol.TheVariants as t
use Rattle.go_expr_syntax.specs.declared.symbols.Ident.{Ident}
use Rattle.go_syntax.specs.declared.constants.Written.{Written}
use Rattle.go_expr_syntax.specs.declared.tree.Expr.{Expr}
use Rattle.go_expr_syntax.specs.Reading.{Reply, ◌>>=◌, peek, begins_type, is_comma, is_assign}
use Rattle.go_expr_syntax.specs.Names.{plain, IsNames, one, more, ident_at, names_at}
use Rattle.go_expr_syntax.specs.Expressions.{constant}
use Rattle.go_expr_syntax.specs.Operands.{expr_at, outer_expr}
use Rattle.go_type_syntax.specs.Types.{type_at}
use Rattle.go_syntax.specs.Constants as c
use Rattle.go_syntax.specs.Constants.{written, IsExprs, IsConstSpec, exprs_more, exprs_end, exprs_step, exprs_at, const_values, const_assign, const_typed, const_empty, const_rest, const_more, const_first, const_spec_at}
use Rattle.go_expr_syntax.proofs.Viable.{ReadsAt, Behind, Past, After, done_reads, like_reads, as_reads, past_reads, choose_reads_on, choose_reads, peek_reads, bind_reads, value_reads, from_start_reads}
use Rattle.go_expr_syntax.proofs.Marks.{comma, assign}
use Rattle.go_expr_syntax.proofs.NameReads.{IsIdent, any_ident, ident_reads, names_reads, no_names, through_value}
use Rattle.go_expr_syntax.proofs.OperandReads.{ExprAt, alone_up}
use Rattle.go_expr_syntax.proofs.ExprReads.{expr_reads}
use Rattle.go_type_syntax.proofs.Standing.{TypeAt}
use Rattle.go_type_syntax.proofs.TypeReads.{type_reads}
use Rattle.go_expr_syntax.proofs.Rows.{Eats, eats_of, bind_same, choose_same}
use Rattle.go_expr_syntax.proofs.Steps.{Local, steps_read}
use Rattle.go_syntax.proofs.Groups.{Any, no_longer}

-- ---- lists of expressions

abbrev pub ExprsAt : List Symbol → List Expr → List Symbol → Type 0
ExprsAt = Any IsExprs

abbrev any_values : List Expr
any_values = (constant (plain any_ident)).expr ∷ []

one_value : (tail : List Symbol) → IsExprs 1 (t.Ident any_ident ∷ tail) any_values tail
one_value tail = c.one_expr 1 (t.Ident any_ident ∷ tail) (constant (plain any_ident)) tail (alone_up 5 tail)

pub outer_reads : (n : ℕ) (ts : List Symbol) → ReadsAt (ExprAt 5) (outer_expr n) ts (outer_expr n ts)
outer_reads n ts = from_start_reads (ExprAt 5) (expr_at n) ts (expr_at n ts) (expr_reads n 5 ts)

pub exprs_local : (n : ℕ) → Local (exprs_step n)
exprs_local n f g ts h =
    bind_same (outer_expr n ts) _ _ (λ z e.
    let a : length z.1 ≤ length ts = no_longer (ExprAt 5) (outer_expr n) ts z.0 z.1 (subst (ReadsAt (ExprAt 5) (outer_expr n) ts) e (outer_reads n ts)) in
    choose_same is_comma (exprs_more f (z.0.0).expr) (exprs_more g (z.0.0).expr) (Ok ((z.0.0).expr ∷ [], z.1)) (Ok ((z.0.0).expr ∷ [], z.1)) z.1
    (λ us less. ap (λ (m : Reply (List Expr)). m >>= λ xs. Ok ((z.0.0).expr ∷ xs.0, xs.1)) (h us (omega arith))) refl)

exprs_step_reads : (n : ℕ) (later : List Symbol → Reply (List Expr)) (ts : List Symbol) → ((vs : List Symbol) → length vs < length ts → ReadsAt ExprsAt later vs (later vs)) → ReadsAt ExprsAt (exprs_step n later) ts (exprs_step n later ts)
exprs_step_reads n later ts h =
    bind_reads (ExprAt 5) ExprsAt (outer_expr n) (λ z us. exprs_end later (z.0).expr us) ts
    (λ z. record { tokens = []; made = (z.0).expr ∷ []; stands = λ tail us w. (w.0, c.one_expr w.0 us z.0 tail w.1) })
    (λ z us o.
    let a : length us ≤ length ts = no_longer (ExprAt 5) (outer_expr n) ts z us o in
    choose_reads_on is_comma (After (ExprAt 5) ExprsAt z) comma (exprs_more later (z.0).expr) (λ vs. Ok ((z.0).expr ∷ [], vs)) us
    (λ vs less. value_reads ExprsAt (Past comma (After (ExprAt 5) ExprsAt z)) later (λ xs. (z.0).expr ∷ xs) vs (λ ws xs rest w at ys v. (max v.0 w.0, c.more_exprs v.0 w.0 at ys z.0 ws xs rest v.1 w.1)) (later vs) (h vs (omega arith)))
    (λ e. done_reads (After (ExprAt 5) ExprsAt z) (λ vs. Ok ((z.0).expr ∷ [], vs)) us ((z.0).expr ∷ []) (λ tail vs w. (w.0, c.one_expr w.0 vs z.0 tail w.1)) (λ r e'. refl)))
    (outer_expr n ts) (outer_reads n ts)

exprs_read : (n : ℕ) (ts : List Symbol) → ReadsAt ExprsAt (exprs_at n) ts (exprs_at n ts)
exprs_read n ts = steps_read ExprsAt (exprs_step n) (exprs_local n) (exprs_step_reads n) ts

-- ---- after the names

abbrev pub ConstAt : List Symbol → Written → List Symbol → Type 0
ConstAt = Any IsConstSpec

abbrev Rest : Ident → List Ident → List Symbol → Written → List Symbol → Type 0
Rest i names = After IsNames ConstAt (i ∷ names)

typed_reads : (n : ℕ) (i : Ident) (names : List Ident) (ts : List Symbol) → ReadsAt (Rest i names) (const_typed n (i ∷ names)) ts (const_typed n (i ∷ names) ts)
typed_reads n i names ts =
    bind_reads TypeAt (Rest i names) (type_at n) (λ ty us. const_assign n (i ∷ names) ty.0 us) ts
    (λ ty. record {
      tokens = t.Assign 0 ∷ t.Ident any_ident ∷ [];
      made = written (i ∷ names) (Some ty.0) any_values;
      stands = λ tail us w vs v. (max w.0 1, c.typed w.0 1 0 vs i names us ty.0 (t.Ident any_ident ∷ tail) any_values tail v w.1 (one_value tail));
    })
    (λ ty us o. past_reads is_assign (After TypeAt (Rest i names) ty) assign (const_values n (i ∷ names) (Some ty.0)) us
    (record {
      tokens = t.Ident any_ident ∷ [];
      made = written (i ∷ names) (Some ty.0) any_values;
      stands = λ tail a vs w ws v. (max w.0 1, c.typed w.0 1 a ws i names vs ty.0 (t.Ident any_ident ∷ tail) any_values tail v w.1 (one_value tail));
    })
    (λ k vs e. value_reads ExprsAt (Past assign (After TypeAt (Rest i names) ty)) (exprs_at n) (λ xs. written (i ∷ names) (Some ty.0) xs) vs
    (λ ws xs rest q a us' w vs' v. (max w.0 q.0, c.typed w.0 q.0 a vs' i names us' ty.0 ws xs rest v w.1 q.1)) (exprs_at n vs) (exprs_read n vs)))
    (type_at n ts) (type_reads n ts)

rest_reads : (n : ℕ) (i : Ident) (names : List Ident) (ts : List Symbol) → ReadsAt (Rest i names) (const_rest n (i ∷ names)) ts (const_rest n (i ∷ names) ts)
rest_reads n i names ts =
    choose_reads is_assign (Rest i names) assign (const_values n (i ∷ names) None) (λ us. peek begins_type us (const_typed n (i ∷ names) us) (const_empty (i ∷ names) us)) ts
    (λ us. value_reads ExprsAt (Past assign (Rest i names)) (exprs_at n) (λ xs. written (i ∷ names) None xs) us (λ vs xs rest w a ws v. (w.0, c.untyped w.0 a ws i names vs xs rest v w.1)) (exprs_at n us) (exprs_read n us))
    (λ e. peek_reads (Rest i names) begins_type (const_typed n (i ∷ names)) (const_empty (i ∷ names)) ts
    (λ s. typed_reads n i names ts)
    (λ s. done_reads (Rest i names) (const_empty (i ∷ names)) ts (written (i ∷ names) None []) (λ tail vs v. (0, c.as_before vs i names tail v)) (λ r e'. refl)))

-- ---- specifications

abbrev flat_consts : ℕ → Ident → List Symbol → Reply Written
flat_consts n i ts = names_at ts >>= λ names. const_rest n (i ∷ names.0) names.1

consts_is : (n : ℕ) (i : Ident) (ts : List Symbol) → const_more n i ts ≡ flat_consts n i ts
consts_is n i ts = through_value (names_at ts) (λ (names : List Ident). i ∷ names) (λ names us. const_rest n names us)

flat_reads : (n : ℕ) (i : Ident) (ts : List Symbol) → ReadsAt (Past comma (Behind (t.Ident i) ConstAt)) (flat_consts n i) ts (flat_consts n i ts)
flat_reads n i ts =
    bind_reads IsNames (Past comma (Behind (t.Ident i) ConstAt)) names_at (λ names us. const_rest n (i ∷ names) us) ts
    (λ names. record { tokens = []; made = written (i ∷ names) None []; stands = λ tail us w at. (0, c.as_before (t.Ident i ∷ t.Comma at ∷ us) i names tail (more i at us names tail w)) })
    (λ names us o. as_reads (Rest i names) (After IsNames (Past comma (Behind (t.Ident i) ConstAt)) names) (const_rest n (i ∷ names)) us (const_rest n (i ∷ names) us)
    (λ vs f rest q ws w at. q (t.Ident i ∷ t.Comma at ∷ ws) (more i at ws names vs w)) (rest_reads n i names us))
    (names_at ts) (names_reads ts)

first_reads : (n : ℕ) (i : Ident) (ts : List Symbol) → ReadsAt (Behind (t.Ident i) ConstAt) (const_first n i) ts (const_first n i ts)
first_reads n i ts =
    choose_reads is_comma (Behind (t.Ident i) ConstAt) comma (const_more n i) (const_rest n (i ∷ [])) ts
    (λ us. like_reads (Past comma (Behind (t.Ident i) ConstAt)) (const_more n i) (flat_consts n i) us (const_more n i us) (λ r e. consts_is n i r)
    (subst (ReadsAt (Past comma (Behind (t.Ident i) ConstAt)) (flat_consts n i) us) (sym (consts_is n i us)) (flat_reads n i us)))
    (λ e. as_reads (Rest i []) (Behind (t.Ident i) ConstAt) (const_rest n (i ∷ [])) ts (const_rest n (i ∷ []) ts) (λ us f rest q. q (t.Ident i ∷ us) (one i us)) (rest_reads n i [] ts))

pub const_reads : (n : ℕ) (ts : List Symbol) → ReadsAt ConstAt (const_spec_at n) ts (const_spec_at n ts)
const_reads n ts =
    bind_reads IsIdent ConstAt ident_at (const_first n) ts
    (λ i. record { tokens = []; made = written (i ∷ []) None []; stands = λ tail us e. rw e (0, c.as_before (t.Ident i ∷ tail) i [] tail (one i tail)) })
    (λ i us o. as_reads (Behind (t.Ident i) ConstAt) (After IsIdent ConstAt i) (const_first n i) us (const_first n i us) (λ vs x rest w ws e. rw e w) (first_reads n i us))
    (ident_at ts) (ident_reads ts)

no_const_of : (m : ℕ) (x : Written) (us : List Symbol) → IsConstSpec m [] x us → ⊥
no_const_of m x us (c.as_before ts i names rest a) = no_names (i ∷ names) us a
no_const_of m x us (c.untyped n a ts i names vs values rest b d) = no_names (i ∷ names) (t.Assign a ∷ vs) b
no_const_of m x us (c.typed j n a ts i names vs ty ws values rest b d e) = no_names (i ∷ names) vs b

pub no_const : (x : Written) (us : List Symbol) → ConstAt [] x us → ⊥
no_const x us w = no_const_of w.0 x us w.1

pub const_eats : (n : ℕ) → Eats (const_spec_at n)
const_eats n = eats_of ConstAt (const_spec_at n) no_const (const_reads n)
