-- Constants that are written are read again.
use Rattle.go_expr_syntax.specs.declared.expressions.Operand.{Operand}
use Rattle.std.proofs.Common.{◌≡◌, ℕ, ◌-◌, max, Bool, true, false, List, [], ◌∷◌, Some, None, Ok, refl, arith}
use Rattle.go_expr_syntax.specs.declared.symbols.Symbol.{Symbol}
use Rattle.go_expr_syntax.specs.declared.symbols.Symbol.TheVariants as t
use Rattle.go_expr_syntax.specs.declared.symbols.Ident.{Ident}
use Rattle.go_syntax.specs.declared.constants.Written.{Written}
use Rattle.go_expr_syntax.specs.declared.tree.Expr.{Expr}
use Rattle.go_type_syntax.specs.declared.tree.TypeExpr.{TypeExpr}
use Rattle.go_expr_syntax.specs.Reading.{peek, starts, begins_type, is_comma, is_assign, is_open_paren, is_close_paren, start_of}
use Rattle.go_expr_syntax.specs.Names as names_of
use Rattle.go_expr_syntax.specs.Names.{IsNames}
use Rattle.go_expr_syntax.specs.Operands.{expr_at, outer_expr}
use Rattle.go_type_syntax.specs.Grammar.{IsType}
use Rattle.go_type_syntax.specs.Types.{type_at}
use Rattle.go_syntax.specs.Constants as c
use Rattle.go_syntax.specs.Constants.{written, IsExprs, IsConstSpec, exprs_more, exprs_end, exprs_step, exprs_at, const_values, const_assign, const_typed, const_empty, const_rest, const_more, const_spec_at}
use Rattle.go_expr_syntax.proofs.Steps.{steps_is}
use Rattle.go_expr_syntax.proofs.Agreeing.{Agrees, agrees_bind, sized, choose_other, names_again, told_again}
use Rattle.go_expr_syntax.proofs.ExprAgain.{continues, next_level, Closed, expr_again}
use Rattle.go_type_syntax.proofs.Follows.{next_so, no_comma, type_begins}
use Rattle.go_type_syntax.proofs.TypeAgain.{type_again}
use Rattle.go_syntax.proofs.ConstReads.{exprs_local}

-- ---- what comes next

abbrev pub ends_spec : Symbol → Bool
ends_spec (t.Semicolon s) = true
ends_spec (t.CloseParen s) = true
ends_spec _ = false

-- a specification is at its end
abbrev pub Ended : List Symbol → Type 0
Ended rest = starts ends_spec rest ≡ true

ends_closed : (k : Symbol) → ends_spec k ≡ true → continues k ≡ false
ends_closed (t.Dot at) e = absurd cc
ends_closed (t.OpenParen at) e = absurd cc
ends_closed _ e = refl

ends_comma : (k : Symbol) → ends_spec k ≡ true → is_comma k ≡ false
ends_comma (t.Comma at) e = absurd cc
ends_comma _ e = refl

ends_assign : (k : Symbol) → ends_spec k ≡ true → is_assign k ≡ false
ends_assign (t.Assign at) e = absurd cc
ends_assign _ e = refl

ends_type : (k : Symbol) → ends_spec k ≡ true → begins_type k ≡ false
ends_type (t.Semicolon at) e = refl
ends_type (t.CloseParen at) e = refl
ends_type _ e = absurd cc

ends_level : (k : Symbol) (ts : List Symbol) → ends_spec k ≡ true → next_level (k ∷ ts) ≡ 0
ends_level (t.Semicolon at) ts e = refl
ends_level (t.CloseParen at) ts e = refl
ends_level _ ts e = absurd cc

ended_closed : (rest : List Symbol) → Ended rest → Closed rest
ended_closed rest e = next_so ends_spec continues true false rest ends_closed (λ h. refl) e

ended_comma : (rest : List Symbol) → Ended rest → starts is_comma rest ≡ false
ended_comma rest e = next_so ends_spec is_comma true false rest ends_comma (λ h. refl) e

ended_level : (rest : List Symbol) → Ended rest → next_level rest ≡ 0
ended_level [] e = refl
ended_level (k ∷ ts) e = ends_level k ts e

type_not_assign : (k : Symbol) → begins_type k ≡ true → is_assign k ≡ false
type_not_assign (t.Assign c) e = absurd cc
type_not_assign _ e = refl

-- ---- lists of expressions

outer_again : (n m : ℕ) (ts : List Symbol) (x : Operand) (rest : List Symbol) → Agrees n m (x, n - m) rest (expr_at n ts) → Agrees n m (x, n - m) rest (outer_expr n ts)
outer_again n m ts x rest h = told_again n m (x, n - m) rest (start_of ts) (expr_at n ts) h

exprs_again : (n m : ℕ) (ts : List Symbol) (xs : List Expr) (rest : List Symbol) → IsExprs m ts xs rest → Ended rest → Agrees n m xs rest (exprs_at n ts)
exprs_again n m ts xs rest (c.one_expr j us x r a) e =
    rw (steps_is (exprs_step n) (exprs_local n) us)
    (agrees_bind n j (x, n - j) r n j (x.expr ∷ []) r (outer_expr n us) (λ z vs. exprs_end (exprs_at n) (z.0).expr vs)
    (outer_again n j us x r (expr_again j us x r a (ended_closed r e) (λ p. let z : next_level r ≡ 0 = ended_level r e in absurd (omega (arith, p))) n)) (λ d. d)
    (λ f. rw (choose_other is_comma r (exprs_more (exprs_at n) x.expr) (Ok (x.expr ∷ [], r)) (ended_comma r e)) (refl, refl, f)))
exprs_again n m ts xs rest (c.more_exprs i j at us x vs ys r a b) e =
    rw (steps_is (exprs_step n) (exprs_local n) us)
    (agrees_bind n i (x, n - i) (t.Comma at ∷ vs) n (max i j) (x.expr ∷ ys) r (outer_expr n us) (λ z ws. exprs_end (exprs_at n) (z.0).expr ws)
    (outer_again n i us x (t.Comma at ∷ vs) (expr_again i us x (t.Comma at ∷ vs) a refl (λ p. omega (arith, p)) n)) (λ d. omega arith)
    (λ f. agrees_bind n j ys r n (max i j) (x.expr ∷ ys) r (exprs_at n vs) (λ zs ws. Ok (x.expr ∷ zs, ws)) (exprs_again n j vs ys r b e) (λ d. omega arith) (λ w. (refl, refl, omega arith))))

-- ---- specifications

named_is : (n : ℕ) (i : Ident) (names : List Ident) (ts us : List Symbol) → IsNames ts (i ∷ names) us → starts is_comma us ≡ false → const_spec_at n ts ≡ const_rest n (i ∷ names) us
named_is n i names ts us (names_of.one j r) e = choose_other is_comma us (const_more n i) (const_rest n (i ∷ []) us) e
named_is n i names ts us (names_of.more j at vs ns r q) e = rw (names_again vs names us q e) refl

values_again : (n m : ℕ) (i : Ident) (names : List Ident) (ty : _) (ts : List Symbol) (xs : List Expr) (rest : List Symbol) → IsExprs m ts xs rest → Ended rest → Agrees n m (written (i ∷ names) ty xs) rest (const_values n (i ∷ names) ty ts)
values_again n m i names ty ts xs rest a e = agrees_bind n m xs rest n m (written (i ∷ names) ty xs) rest (exprs_at n ts) (λ zs vs. Ok (written (i ∷ names) ty zs, vs)) (exprs_again n m ts xs rest a e) (λ d. d) (λ f. (refl, refl, f))

empty_is : (n : ℕ) (names : List Ident) (rest : List Symbol) → Ended rest → const_rest n names rest ≡ Ok (written names None [], rest)
empty_is n names rest e =
    rw (
      choose_other is_assign rest (const_values n names None) (peek begins_type rest (const_typed n names rest) (const_empty names rest)) (next_so ends_spec is_assign true false rest ends_assign (λ h. refl) e),
      next_so ends_spec begins_type true false rest ends_type (λ h. refl) e,
    ) refl

typed_is : (n : ℕ) (names : List Ident) (us : List Symbol) → starts begins_type us ≡ true → const_rest n names us ≡ const_typed n names us
typed_is n names us b =
    rw (choose_other is_assign us (const_values n names None) (peek begins_type us (const_typed n names us) (const_empty names us)) (next_so begins_type is_assign true false us type_not_assign (λ h. refl) b), b) refl

typed_again : (n m j a : ℕ) (i : Ident) (names : List Ident) (us : List Symbol) (ty : TypeExpr) (vs : List Symbol) (xs : List Expr) (rest : List Symbol) → IsType m us ty (t.Assign a ∷ vs) → IsExprs j vs xs rest → Ended rest
    → Agrees n (max m j) (written (i ∷ names) (Some ty) xs) rest (const_typed n (i ∷ names) us)
typed_again n m j a i names us ty vs xs rest w v e =
    agrees_bind n m (sized n m ty) (t.Assign a ∷ vs) n (max m j) (written (i ∷ names) (Some ty) xs) rest (type_at n us) (λ z ws. const_assign n (i ∷ names) z.0 ws) (type_again m us ty (t.Assign a ∷ vs) w refl n) (λ d. omega arith)
    (λ f. agrees_bind n j xs rest n (max m j) (written (i ∷ names) (Some ty) xs) rest (exprs_at n vs) (λ zs ws. Ok (written (i ∷ names) (Some ty) zs, ws)) (exprs_again n j vs xs rest v e) (λ d. omega arith) (λ q. (refl, refl, omega arith)))

pub const_again : (n m : ℕ) (ts : List Symbol) (x : Written) (rest : List Symbol) → IsConstSpec m ts x rest → Ended rest → Agrees n m x rest (const_spec_at n ts)
const_again n m ts x rest (c.as_before us i names r a) e = rw (named_is n i names us r a (ended_comma r e), empty_is n (i ∷ names) r e) (refl, refl, omega arith)
const_again n m ts x rest (c.untyped j a us i names vs xs r b v) e = rw (named_is n i names us (t.Assign a ∷ vs) b refl) (values_again n j i names None vs xs r v e)
const_again n m ts x rest (c.typed j k a us i names vs ty ws xs r b w v) e =
    let begins = type_begins j vs ty (t.Assign a ∷ ws) w in
    rw (named_is n i names us vs b (no_comma vs begins), typed_is n (i ∷ names) vs begins) (typed_again n j k a i names vs ty ws xs r w v e)

pub names_not_open : (ts : List Symbol) (names : List Ident) (rest : List Symbol) → IsNames ts names rest → starts is_open_paren ts ≡ false
names_not_open ts names rest (names_of.one i r) = refl
names_not_open ts names rest (names_of.more i at us ns r q) = refl

pub names_not_close : (ts : List Symbol) (names : List Ident) (rest : List Symbol) → IsNames ts names rest → starts is_close_paren ts ≡ false
names_not_close ts names rest (names_of.one i r) = refl
names_not_close ts names rest (names_of.more i at us ns r q) = refl

pub const_not_open : (m : ℕ) (ts : List Symbol) (x : Written) (rest : List Symbol) → IsConstSpec m ts x rest → starts is_open_paren ts ≡ false
const_not_open m ts x rest (c.as_before us i names r a) = names_not_open us (i ∷ names) r a
const_not_open m ts x rest (c.untyped j a us i names vs xs r b v) = names_not_open us (i ∷ names) (t.Assign a ∷ vs) b
const_not_open m ts x rest (c.typed j k a us i names vs ty ws xs r b w v) = names_not_open us (i ∷ names) vs b

pub const_not_close : (m : ℕ) (ts : List Symbol) (x : Written) (rest : List Symbol) → IsConstSpec m ts x rest → starts is_close_paren ts ≡ false
const_not_close m ts x rest (c.as_before us i names r a) = names_not_close us (i ∷ names) r a
const_not_close m ts x rest (c.untyped j a us i names vs xs r b v) = names_not_close us (i ∷ names) (t.Assign a ∷ vs) b
const_not_close m ts x rest (c.typed j k a us i names vs ty ws xs r b w v) = names_not_close us (i ∷ names) vs b
