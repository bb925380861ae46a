-- What the readers of expressions do.
use Rattle.std.proofs.Common.{◌≡◌, ℕ, zero, suc, ◌<◌, ◌==◌, min, max, Bool, true, false, if◌then◌else◌, List, [], ◌∷◌, Option, Some, None, Ok, Err, refl, sym, ap, subst, ◌∙◌, arith}
use Rattle.std.proofs.lemmas.Bool.{eqb-true}
use Rattle.go_expr_syntax.specs.declared.symbols.Operator.{Operator}
use Rattle.go_expr_syntax.specs.declared.symbols.Symbol.{Symbol}
use Rattle.go_expr_syntax.specs.declared.symbols.Symbol.TheVariants as t
use Rattle.go_expr_syntax.specs.declared.expressions.Operand.{Operand}
use Rattle.go_expr_syntax.specs.Reading.{Reply, ◌>>=◌, symbol_start, start_of, unexpected, too_deep}
use Rattle.go_expr_syntax.specs.Expressions as ex
use Rattle.go_expr_syntax.specs.Expressions.{level, between_of, literal, constant, enclosed, unary, binary, IsExpr}
use Rattle.go_expr_syntax.specs.Names.{plain, own}
use Rattle.go_expr_syntax.proofs.NameReads.{any_ident}
use Rattle.go_expr_syntax.specs.Operands.{Sized, Reader, operator_if, operator_at, pick, climb_on, climb_by, climb_of, climb, level_by, begins_expr, expr_of}
use Rattle.go_expr_syntax.proofs.Viable.{next_is, ends_so, ReadsAt, Sample, Behind, After, done_reads, deep_next, as_reads, cons_reads, peek_reads, stuck_reads, deep_reads, bind_reads}
use Rattle.go_expr_syntax.proofs.Rows.{bind_same}
use Rattle.go_expr_syntax.proofs.OperandReads.{ExprAt, alone_up, some_expr, operand_reads}

-- ---- the number of turns never shows

on_same : (spare : ℕ) (f g : Sized → List Symbol → Reply Sized) (inner : Reader) (x : Operand) (ts : List Symbol) (op : Operator) (us : List Symbol)
    → ((z : Sized) (vs : List Symbol) → z.1 < spare → f z vs ≡ g z vs) → climb_on spare f inner x ts op us ≡ climb_on spare g inner x ts op us
on_same zero f g inner x ts op us h = refl
on_same (suc spare) f g inner x ts op us h = bind_same (inner us) _ _ (λ y e. h (binary op (start_of ts) x y.0.0, min spare y.0.1) y.1 (omega arith))

pick_same : {X : Type 0} (r : Reply Operator) (f g : Operator → List Symbol → Reply X) (other : Reply X) → ((op : Operator) (us : List Symbol) → f op us ≡ g op us) → pick r f other ≡ pick r g other
pick_same (Ok z) f g other h = h z.0 z.1
pick_same (Err e) f g other h = refl

enough : (l : ℕ) (inner : Reader) (f g : ℕ) (x : Sized) (ts : List Symbol) → x.1 < f → x.1 < g → climb_of f l inner x ts ≡ climb_of g l inner x ts
unfolding climb_of
enough l inner zero g x ts a b = absurd (omega arith)
enough l inner (suc f) zero x ts a b = absurd (omega arith)
enough l inner (suc f) (suc g) x ts a b =
    pick_same (operator_at l ts) _ _ (Ok (x, ts)) (λ op us. on_same x.1 (climb_of f l inner) (climb_of g l inner) inner x.0 ts op us (λ z vs less. enough l inner f g z vs (omega arith) (omega arith)))

pub climb_is : (l : ℕ) (inner : Reader) (x : Sized) (ts : List Symbol) → climb l inner x ts ≡ climb_by l (climb l inner) inner x ts
unfolding climb_of
climb_is l inner x ts =
    pick_same (operator_at l ts) _ _ (Ok (x, ts)) (λ op us. on_same x.1 (climb_of x.1 l inner) (climb l inner) inner x.0 ts op us (λ z vs less. enough l inner x.1 (suc z.1) z vs less (omega arith)))

-- ---- an operator comes next, or none

-- the token is this operator of the level
record IsBetween (l : ℕ) (k : Symbol) (op : Operator) : Type 0 where
  is : between_of k ≡ Some op
  of_level : level op ≡ l
  taken : (r : List Symbol) → operator_at l (k ∷ r) ≡ Ok (op, r)

-- what a choice by the next operator reads
level_so : {X : Type 0} (F : List Symbol → X → List Symbol → Type 0) (l : ℕ) (p : List Symbol → Reply X) (q : List Symbol → Operator → List Symbol → Reply X) (other : List Symbol → Reply X) (k : Symbol) (ts : List Symbol)
    → ((r : List Symbol) → p r ≡ pick (operator_at l r) (q r) (other r)) → (op : Operator) → between_of k ≡ Some op → (b : Bool) → (level op == l) ≡ b
    → (IsBetween l k op → ReadsAt F p (k ∷ ts) (q (k ∷ ts) op ts)) → (((r : List Symbol) → p (k ∷ r) ≡ other (k ∷ r)) → ReadsAt F p (k ∷ ts) (other (k ∷ ts)))
    → ReadsAt F p (k ∷ ts) (pick (if b then Ok (op, ts) else unexpected (k ∷ ts)) (q (k ∷ ts)) (other (k ∷ ts)))
level_so F l p q other k ts same op e true s found otherwise =
    found (record { is = e; of_level = eqb-true (level op) l s; taken = λ r. rw (e, s) refl })
level_so F l p q other k ts same op e false s found otherwise = otherwise (λ r. same (k ∷ r) ∙ (rw (e, s) refl))

option_so : {X : Type 0} (F : List Symbol → X → List Symbol → Type 0) (l : ℕ) (p : List Symbol → Reply X) (q : List Symbol → Operator → List Symbol → Reply X) (other : List Symbol → Reply X) (k : Symbol) (ts : List Symbol)
    → ((r : List Symbol) → p r ≡ pick (operator_at l r) (q r) (other r)) → (o : Option Operator) → between_of k ≡ o
    → ((op : Operator) → IsBetween l k op → ReadsAt F p (k ∷ ts) (q (k ∷ ts) op ts)) → (((r : List Symbol) → p (k ∷ r) ≡ other (k ∷ r)) → ReadsAt F p (k ∷ ts) (other (k ∷ ts)))
    → ReadsAt F p (k ∷ ts) (pick (operator_if l o k ts) (q (k ∷ ts)) (other (k ∷ ts)))
option_so F l p q other k ts same (Some op) e found otherwise = level_so F l p q other k ts same op e (level op == l) refl (found op) otherwise
option_so F l p q other k ts same None e found otherwise = otherwise (λ r. same (k ∷ r) ∙ (rw e refl))

-- ---- the operators of a level

-- what x grows to, where it stands before
abbrev Grown : ℕ → Sized → List Symbol → Sized → List Symbol → Type 0
Grown l x = After (ExprAt (suc l)) (ExprAt (suc l)) x

on_reads : (l : ℕ) (inner : Reader) → ((us : List Symbol) → ReadsAt (ExprAt l) inner us (inner us)) → (more : Sized → List Symbol → Reply Sized) (p : List Symbol → Reply Sized) (x : Operand) (spare : ℕ) (k : Symbol) (ts : List Symbol) (op : Operator)
    → IsBetween (suc l) k op → ((r : List Symbol) → p (k ∷ r) ≡ climb_on spare more inner x (k ∷ r) op r)
    → ((z : Sized) (us : List Symbol) → z.1 < spare → ReadsAt (Grown l z) (more z) us (more z us)) → ReadsAt (Grown l (x, spare)) p (k ∷ ts) (climb_on spare more inner x (k ∷ ts) op ts)
on_reads l inner h more p x zero k ts op is same later =
    deep_next (Grown l (x, 0)) p k ts
    (record {
      tokens = t.Ident any_ident ∷ [];
      made = (binary op (symbol_start k) x (constant (plain any_ident)), 0);
      stands = λ tail vs v. (suc (max v.0 1), ex.joined l v.0 1 vs x k op (t.Ident any_ident ∷ tail) (constant (plain any_ident)) tail v.1 is.is is.of_level (alone_up l tail));
    })
    same
on_reads l inner h more p x (suc spare) k ts op is same later =
    cons_reads (Grown l (x, suc spare)) p (λ us. inner us >>= λ y. more (binary op (symbol_start k) x y.0.0, min spare y.0.1) y.1) k ts (inner ts >>= λ y. more (binary op (symbol_start k) x y.0.0, min spare y.0.1) y.1) same
    (bind_reads (ExprAt l) (Behind k (Grown l (x, suc spare))) inner (λ y us. more (binary op (symbol_start k) x y.0, min spare y.1) us) ts
    (λ y. record { tokens = []; made = (binary op (symbol_start k) x y.0, 0); stands = λ tail us w vs v. (suc (max v.0 w.0), ex.joined l v.0 w.0 vs x k op us y.0 tail v.1 is.is is.of_level w.1) })
    (λ y us o. as_reads (Grown l (binary op (symbol_start k) x y.0, min spare y.1)) (After (ExprAt l) (Behind k (Grown l (x, suc spare))) y) (more (binary op (symbol_start k) x y.0, min spare y.1)) us (more (binary op (symbol_start k) x y.0, min spare y.1) us)
    (λ us' z rest g vs w ws v. g ws (suc (max v.0 w.0), ex.joined l v.0 w.0 ws x k op vs y.0 us' v.1 is.is is.of_level w.1))
    (later (binary op (symbol_start k) x y.0, min spare y.1) us (omega arith)))
    (inner ts) (h ts))

climb_here : (l : ℕ) (inner : Reader) → ((us : List Symbol) → ReadsAt (ExprAt l) inner us (inner us)) → (x : Sized) (ts : List Symbol)
    → ((z : Sized) (us : List Symbol) → z.1 < x.1 → ReadsAt (Grown l z) (climb (suc l) inner z) us (climb (suc l) inner z us))
    → ReadsAt (Grown l x) (climb (suc l) inner x) ts (climb_by (suc l) (climb (suc l) inner) inner x ts)
climb_here l inner h x [] later = done_reads (Grown l x) (climb (suc l) inner x) [] x (λ tail us w. w) (ends_so (λ r. climb (suc l) inner x r ≡ Ok (x, r)) (climb_is (suc l) inner x []))
climb_here l inner h x (k ∷ ts) later =
    option_so (Grown l x) (suc l) (climb (suc l) inner x) (λ r. climb_on x.1 (climb (suc l) inner) inner x.0 r) (λ r. Ok (x, r)) k ts (climb_is (suc l) inner x) (between_of k) refl
    (λ op is. on_reads l inner h (climb (suc l) inner) (climb (suc l) inner x) x.0 x.1 k ts op is
    (λ r. climb_is (suc l) inner x (k ∷ r) ∙ ap (λ (o : Reply Operator). pick o (climb_on x.1 (climb (suc l) inner) inner x.0 (k ∷ r)) (Ok (x, k ∷ r))) (is.taken r)) later)
    (λ same. done_reads (Grown l x) (climb (suc l) inner x) (k ∷ ts) x (λ tail us w. w) (next_is (λ r. climb (suc l) inner x r ≡ Ok (x, r)) k same))

climb_up : (l : ℕ) (inner : Reader) → ((us : List Symbol) → ReadsAt (ExprAt l) inner us (inner us)) → (n : ℕ) (x : Sized) (ts : List Symbol) → x.1 < n → ReadsAt (Grown l x) (climb (suc l) inner x) ts (climb (suc l) inner x ts)
climb_up l inner h zero x ts less = absurd (omega arith)
climb_up l inner h (suc n) x ts less =
    subst (ReadsAt (Grown l x) (climb (suc l) inner x) ts) (sym (climb_is (suc l) inner x ts)) (climb_here l inner h x ts (λ z us fewer. climb_up l inner h n z us (omega arith)))

-- ---- expressions

level_reads : (n : ℕ) (inner : ℕ → Reader) → ((l : ℕ) (us : List Symbol) → ReadsAt (ExprAt l) (inner l) us (inner l us)) → (l : ℕ) (ts : List Symbol) → ReadsAt (ExprAt l) (level_by n inner l) ts (level_by n inner l ts)
level_reads n inner h zero ts = operand_reads n (inner 0) (inner 5) (h 0) (h 5) ts
level_reads n inner h (suc l) ts =
    bind_reads (ExprAt l) (ExprAt (suc l)) (level_by n inner l) (climb (suc l) (inner l)) ts
    (λ x. record { tokens = []; made = x; stands = λ tail us w. (w.0, ex.alone l w.0 us x.0 tail w.1) })
    (λ x us o. as_reads (Grown l x) (After (ExprAt l) (ExprAt (suc l)) x) (climb (suc l) (inner l) x) us (climb (suc l) (inner l) x us) (λ vs z rest g ws w. g ws (w.0, ex.alone l w.0 ws x.0 vs w.1))
    (climb_up l (inner l) (h l) (suc x.1) x us (omega arith)))
    (level_by n inner l ts) (level_reads n inner h l ts)

up_to : (l m : ℕ) (ts : List Symbol) (x : Operand) (rest : List Symbol) → IsExpr 0 m ts x rest → IsExpr l m ts x rest
up_to zero m ts x rest w = w
up_to (suc l) m ts x rest w = ex.alone l m ts x rest (up_to l m ts x rest w)

-- behind a token with which an expression begins
begun_by : (l : ℕ) (k : Symbol) → begins_expr k ≡ true → Sample (Behind k (ExprAt l))
begun_by l (t.Literal token) e = record { tokens = []; made = (literal token, 0); stands = λ tail. (1, up_to l 1 (t.Literal token ∷ tail) (literal token) tail (ex.a_literal token tail)) }
begun_by l (t.Text s) e = record { tokens = []; made = (literal s.0, 0); stands = λ tail. (1, up_to l 1 (t.Text s ∷ tail) (literal s.0) tail (ex.a_text s tail)) }
begun_by l (t.Ident i) e = record { tokens = []; made = (constant (plain i), 0); stands = λ tail. (1, up_to l 1 (t.Ident i ∷ tail) (constant (plain i)) tail (ex.a_name (t.Ident i ∷ tail) (plain i) tail (own i tail))) }
begun_by l (t.OpenParen at) e = record {
  tokens = t.Ident any_ident ∷ t.CloseParen 0 ∷ [];
  made = (enclosed at (constant (plain any_ident)), 0);
  stands = λ tail. (2, up_to l 2 (t.OpenParen at ∷ t.Ident any_ident ∷ t.CloseParen 0 ∷ tail) (enclosed at (constant (plain any_ident))) tail (ex.in_parens 1 at (t.Ident any_ident ∷ t.CloseParen 0 ∷ tail) (constant (plain any_ident)) 0 tail (alone_up 5 (t.CloseParen 0 ∷ tail))));
}
begun_by l (t.Operator op at) e = record {
  tokens = t.Ident any_ident ∷ [];
  made = (unary op at (constant (plain any_ident)), 0);
  stands = λ tail. (2, up_to l 2 (t.Operator op at ∷ t.Ident any_ident ∷ tail) (unary op at (constant (plain any_ident))) tail (ex.after_sign 1 op at (t.Ident any_ident ∷ tail) (constant (plain any_ident)) tail e (alone_up 0 tail)));
}
begun_by l _ e = absurd cc

pub expr_reads : (n l : ℕ) (ts : List Symbol) → ReadsAt (ExprAt l) (expr_of n l) ts (expr_of n l ts)
unfolding expr_of
expr_reads zero l ts = peek_reads (ExprAt l) begins_expr too_deep unexpected ts (λ s. deep_reads (ExprAt l) begins_expr ts (some_expr l) (begun_by l) s) (λ s. stuck_reads (ExprAt l) ts (some_expr l))
expr_reads (suc n) l ts = level_reads n (expr_of n) (expr_reads n) l ts
