-- An expression that is written is read again.
use Rattle.std.proofs.Common.{◌≡◌, ℕ, zero, suc, ◌<◌, ◌≤◌, ◌==◌, ◌-◌, min, max, Bool, true, false, if◌then◌else◌, List, [], ◌∷◌, length, Option, Some, None, Ok, Err, refl, sym, ap, subst, ◌∙◌, arith}
use Rattle.std.proofs.lemmas.Bool.{eqb-true, eq-eqb}
use Rattle.go_lexer.specs.declared.token_kinds.Token.{Token}
use Rattle.go_expr_syntax.specs.declared.symbols.Operator.{Operator}
use Rattle.go_expr_syntax.specs.declared.symbols.Symbol.{Symbol}
use Rattle.go_expr_syntax.specs.declared.symbols.Symbol.TheVariants as t
use Rattle.go_expr_syntax.specs.declared.symbols.Ident.{Ident}
use Rattle.go_expr_syntax.specs.declared.faults.Fault.TheVariants.{Unexpected, Deep, DotImport, Call}
use Rattle.go_expr_syntax.specs.declared.tree.NameExpr.{NameExpr}
use Rattle.go_expr_syntax.specs.declared.expressions.Operand.{Operand}
use Rattle.go_expr_syntax.specs.Reading.{Quoted, Reply, ◌>>=◌, unexpected, too_deep, starts, is_dot, is_close_paren, is_close_bracket, symbol_start, start_of}
use Rattle.go_expr_syntax.specs.Names.{own, of_package, dotted}
use Rattle.go_expr_syntax.specs.Expressions as ex
use Rattle.go_expr_syntax.specs.Expressions.{level, is_unary, between_of, literal, constant, conversion, enclosed, unary, binary, IsExpr}
use Rattle.go_expr_syntax.specs.Operands.{Sized, Reader, uncalled, converted, named_by, enclosed_end, operator_if, operator_at, pick, climb_on, climb, level_by, begins_expr, expr_of, expr_at}
use Rattle.go_expr_syntax.proofs.Agreeing.{Agrees, agrees_bind, name_again}
use Rattle.go_expr_syntax.proofs.ExprReads.{climb_is}

-- ---- what comes next

-- a token that would go on with an operand
abbrev pub continues : Symbol → Bool
continues (t.Dot at) = true
continues (t.OpenParen at) = true
continues _ = false

abbrev pub Closed : List Symbol → Type 0
Closed rest = starts continues rest ≡ false

continues_dot : (k : Symbol) → continues k ≡ false → is_dot k ≡ false
continues_dot (t.Dot at) e = absurd cc
continues_dot _ e = refl

no_dot : (rest : List Symbol) → Closed rest → starts is_dot rest ≡ false
no_dot [] e = refl
no_dot (k ∷ ts) e = continues_dot k e

between_closed : (k : Symbol) (op : Operator) → between_of k ≡ Some op → continues k ≡ false
between_closed (t.Dot at) op e = absurd cc
between_closed (t.OpenParen at) op e = absurd cc
between_closed _ op e = refl

-- the level of the operator that comes next, or 0
abbrev level_of : Option Operator → ℕ
level_of None = 0
level_of (Some op) = level op

abbrev pub next_level : List Symbol → ℕ
next_level [] = 0
next_level (k ∷ ts) = level_of (between_of k)

-- no operator of this level comes next, or of one that binds more strongly
abbrev pub Beyond : ℕ → List Symbol → Type 0
Beyond l rest = 0 < next_level rest → l < next_level rest

-- none that binds more strongly
abbrev pub AtLeast : ℕ → List Symbol → Type 0
AtLeast l rest = 0 < next_level rest → l ≤ next_level rest

differs_so : (a b : ℕ) (c : Bool) → (a == b) ≡ c → (a ≡ b → ⊥) → c ≡ false
differs_so a b true e h = absurd (h (eqb-true a b e))
differs_so a b false e h = refl

differs : (a b : ℕ) → (a ≡ b → ⊥) → (a == b) ≡ false
differs a b h = differs_so a b (a == b) refl h

no_operator_if : (l : ℕ) (k : Symbol) (ts : List Symbol) (o : Option Operator) → (0 < level_of o → suc l < level_of o) → operator_if (suc l) o k ts ≡ unexpected (k ∷ ts)
no_operator_if l k ts None h = refl
no_operator_if l k ts (Some op) h = rw (differs (level op) (suc l) (λ (e : level op ≡ suc l). let w : suc l < level op = h (omega arith) in omega arith)) refl

no_operator : (l : ℕ) (rest : List Symbol) → Beyond (suc l) rest → operator_at (suc l) rest ≡ unexpected rest
no_operator l [] h = refl
no_operator l (k ∷ ts) h = no_operator_if l k ts (between_of k) h

an_operator : (l : ℕ) (k : Symbol) (ts : List Symbol) (op : Operator) → between_of k ≡ Some op → level op ≡ suc l → operator_at (suc l) (k ∷ ts) ≡ Ok (op, ts)
an_operator l k ts op e f = let s : (level op == suc l) ≡ true = eq-eqb (level op) (suc l) f in rw (e, s) refl

-- ---- operands

uncalled_is : (z : Sized) (rest : List Symbol) → Closed rest → uncalled z rest ≡ Ok (z, rest)
uncalled_is z [] e = refl
uncalled_is z (t.OpenParen at ∷ ts) e = absurd cc
uncalled_is z (k ∷ ts) e = refl

named_is : (n : ℕ) (inner : Reader) (x : NameExpr) (rest : List Symbol) → Closed rest → named_by n inner x rest ≡ Ok ((constant x, n), rest)
named_is n inner x [] e = refl
named_is n inner x (t.OpenParen at ∷ ts) e = absurd cc
named_is n inner x (k ∷ ts) e = refl

spared : (x : Operand) (n : ℕ) → ◌≡◌ {A = Sized} (x, n) (x, suc n - 1)
spared x n = let e : n ≡ suc n - 1 = omega arith in ap (λ (k : ℕ). (x, k)) e

spared_more : (x : Operand) (n m : ℕ) → ◌≡◌ {A = Sized} (x, n - m) (x, suc n - suc m)
spared_more x n m = let e : n - m ≡ suc n - suc m = omega arith in ap (λ (k : ℕ). (x, k)) e

literal_again : (n : ℕ) (token : Token) (rest : List Symbol) → Closed rest → Agrees n 1 (literal token, n - 1) rest (expr_of n 0 (t.Literal token ∷ rest))
unfolding expr_of
literal_again zero token rest e = omega arith
literal_again (suc n) token rest e = rw (uncalled_is (literal token, n) rest e) (spared (literal token) n, refl, omega arith)

text_again : (n : ℕ) (s : Quoted) (rest : List Symbol) → Closed rest → Agrees n 1 (literal s.0, n - 1) rest (expr_of n 0 (t.Text s ∷ rest))
unfolding expr_of
text_again zero s rest e = omega arith
text_again (suc n) s rest e = rw (uncalled_is (literal s.0, n) rest e) (spared (literal s.0) n, refl, omega arith)

constant_again : (n : ℕ) (i : Ident) (us : List Symbol) (x : NameExpr) (rest : List Symbol) → dotted i us ≡ Ok (x, rest) → Closed rest → Agrees n 1 (constant x, n - 1) rest (expr_of n 0 (t.Ident i ∷ us))
unfolding expr_of
constant_again zero i us x rest d e = omega arith
constant_again (suc n) i us x rest d e = rw (d, named_is n (expr_of n 5) x rest e) (spared (constant x) n, refl, omega arith)

abbrev AgreesAll : ℕ → ℕ → List Symbol → Operand → List Symbol → Type 0
AgreesAll l m ts y rest = (n : ℕ) → Agrees n m (y, n - m) rest (expr_of n l ts)

conversion_again : (n m : ℕ) (i : Ident) (vs : List Symbol) (x : NameExpr) (at : ℕ) (us : List Symbol) (y : Operand) (c : ℕ) (rest : List Symbol) → dotted i vs ≡ Ok (x, t.OpenParen at ∷ us) → starts is_close_paren us ≡ false
    → AgreesAll 5 m us y (t.CloseParen c ∷ rest) → Closed rest → Agrees n (suc m) (conversion x y, n - suc m) rest (expr_of n 0 (t.Ident i ∷ vs))
unfolding expr_of
conversion_again zero m i vs x at us y c rest d s h e = omega arith
conversion_again (suc n) m i vs x at us y c rest d s h e =
    rw (d, s)
    (agrees_bind n m (y, n - m) (t.CloseParen c ∷ rest) (suc n) (suc m) (conversion x y, suc n - suc m) rest (expr_of n 5 us) (converted x at) (h n) (λ g. omega arith)
    (λ f. rw (uncalled_is (conversion x y, n - m) rest e) (spared_more (conversion x y) n m, refl, omega arith)))

enclosed_again : (n m at : ℕ) (us : List Symbol) (y : Operand) (c : ℕ) (rest : List Symbol) → AgreesAll 5 m us y (t.CloseParen c ∷ rest) → Closed rest → Agrees n (suc m) (enclosed at y, n - suc m) rest (expr_of n 0 (t.OpenParen at ∷ us))
unfolding expr_of
enclosed_again zero m at us y c rest h e = omega arith
enclosed_again (suc n) m at us y c rest h e =
    agrees_bind n m (y, n - m) (t.CloseParen c ∷ rest) (suc n) (suc m) (enclosed at y, suc n - suc m) rest (expr_of n 5 us) (enclosed_end at) (h n) (λ g. omega arith)
    (λ f. rw (uncalled_is (enclosed at y, n - m) rest e) (spared_more (enclosed at y) n m, refl, omega arith))

signed_again : (n m : ℕ) (op : Operator) (at : ℕ) (us : List Symbol) (y : Operand) (rest : List Symbol) → is_unary op ≡ true → AgreesAll 0 m us y rest → Agrees n (suc m) (unary op at y, n - suc m) rest (expr_of n 0 (t.Operator op at ∷ us))
unfolding expr_of
signed_again zero m op at us y rest s h = rw s (omega arith)
signed_again (suc n) m op at us y rest s h =
    rw s
    (agrees_bind n m (y, n - m) rest (suc n) (suc m) (unary op at y, suc n - suc m) rest (expr_of n 0 us) (λ z vs. Ok ((unary op at z.0, z.1), vs)) (h n) (λ g. omega arith)
    (λ f. (spared_more (unary op at y) n m, refl, omega arith)))

-- ---- the operators of a level

-- The reading goes on with the operators of level l + 1 behind this tree, or a path is too long already.
data Climbing (l : ℕ) : ℕ → ℕ → Operand → List Symbol → Reply Sized → Type 0 where
  on_it : (i m : ℕ) (x : Operand) (rest : List Symbol) (r : Reply Sized) → m ≤ suc i → r ≡ climb (suc l) (expr_of i l) (x, suc i - m) rest → Climbing l (suc i) m x rest r
  over : (n m : ℕ) (x : Operand) (rest : List Symbol) (r : Reply Sized) (k began : ℕ) → n < m → r ≡ Err (Deep k began) → Climbing l n m x rest r

settled : (l n m : ℕ) (x : Operand) (rest : List Symbol) (r : Reply Sized) → Climbing l n m x rest r → Beyond (suc l) rest → Agrees n m (x, n - m) rest r
settled l n m x rest r (on_it i m' x' rest' r' le e) h = rw (e, climb_is (suc l) (expr_of i l) (x, suc i - m) rest, no_operator l rest h) (refl, refl, le)
settled l n m x rest r (over n' m' x' rest' r' k began less e) h = rw e less

lifted : (l i m : ℕ) (x : Operand) (rest : List Symbol) (r : Reply Sized) → Agrees (suc i) m (x, suc i - m) rest r → Climbing l (suc i) m x rest (r >>= λ z. climb (suc l) (expr_of i l) z.0 z.1)
lifted l i m x rest (Ok z) h =
    on_it i m x rest _ h.2 (ap (λ (y : Sized). climb (suc l) (expr_of i l) y z.1) h.0 ∙ ap (λ (us : List Symbol). climb (suc l) (expr_of i l) (x, suc i - m) us) h.1)
lifted l i m x rest (Err (Deep k began)) h = over (suc i) m x rest _ k began h refl
lifted l i m x rest (Err (Unexpected k)) h = absurd h
lifted l i m x rest (Err (DotImport k)) h = absurd h
lifted l i m x rest (Err (Call k at)) h = absurd h

none_lifted : (l m : ℕ) (x : Operand) (ts rest : List Symbol) (b : Bool) → Agrees {X = Sized} 0 m (x, 0 - m) rest (if b then too_deep ts else unexpected ts) → Climbing l 0 m x rest (if b then too_deep ts else unexpected ts)
none_lifted l m x ts rest true h = over 0 m x rest _ (length ts) (start_of ts) h refl
none_lifted l m x ts rest false h = absurd h

lift : (l n m : ℕ) (ts : List Symbol) (x : Operand) (rest : List Symbol) → Agrees n m (x, n - m) rest (expr_of n l ts) → Climbing l n m x rest (expr_of n (suc l) ts)
unfolding expr_of
lift l zero m ts x rest h = none_lifted l m x ts rest (starts begins_expr ts) h
lift l (suc i) m ts x rest h = lifted l i m x rest (level_by i (expr_of i) l ts) h

least : (i m j s : ℕ) → suc s ≡ suc i - m → j ≤ i → min s (i - j) ≡ suc i - suc (max m j)
least i m j s e f = omega arith

behind : (l i m j s : ℕ) (x : Operand) (op : Operator) (p : ℕ) (y : Operand) (rest : List Symbol) (r q : Reply Sized) → m ≤ suc i → suc s ≡ suc i - m → Agrees i j (y, i - j) rest q
    → r ≡ (q >>= λ z. climb (suc l) (expr_of i l) (binary op p x z.0.0, min s z.0.1) z.1) → Climbing l (suc i) (suc (max m j)) (binary op p x y) rest r
behind l i m j s x op p y rest r (Ok z) le e h same =
    on_it i (suc (max m j)) (binary op p x y) rest r (let f : j ≤ i = h.2 in omega arith)
    (same ∙ ap (λ (w : Sized). climb (suc l) (expr_of i l) (binary op p x w.0, min s w.1) z.1) h.0
    ∙ ap (λ (k : ℕ). climb (suc l) (expr_of i l) (binary op p x y, k) z.1) (least i m j s e h.2)
    ∙ ap (λ (us : List Symbol). climb (suc l) (expr_of i l) (binary op p x y, suc i - suc (max m j)) us) h.1)
behind l i m j s x op p y rest r (Err (Deep k began)) le e h same = over (suc i) (suc (max m j)) (binary op p x y) rest r k began (let f : i < j = h in omega arith) same
behind l i m j s x op p y rest r (Err (Unexpected k)) le e h same = absurd h
behind l i m j s x op p y rest r (Err (DotImport k)) le e h same = absurd h
behind l i m j s x op p y rest r (Err (Call k at)) le e h same = absurd h

turned : (l i m j spare : ℕ) (x : Operand) (k : Symbol) (op : Operator) (us : List Symbol) (y : Operand) (rest : List Symbol) (r : Reply Sized) → m ≤ suc i → spare ≡ suc i - m → Agrees i j (y, i - j) rest (expr_of i l us)
    → r ≡ climb_on spare (climb (suc l) (expr_of i l)) (expr_of i l) x (k ∷ us) op us → Climbing l (suc i) (suc (max m j)) (binary op (symbol_start k) x y) rest r
turned l i m j zero x k op us y rest r le e h same = over (suc i) (suc (max m j)) (binary op (symbol_start k) x y) rest r (length (k ∷ us)) (symbol_start k) (omega arith) same
turned l i m j (suc s) x k op us y rest r le e h same = behind l i m j s x op (symbol_start k) y rest r (expr_of i l us) le e h same

climbed : (l n m j : ℕ) (x : Operand) (k : Symbol) (op : Operator) (us : List Symbol) (y : Operand) (rest : List Symbol) (r : Reply Sized) → Climbing l n m x (k ∷ us) r → between_of k ≡ Some op → level op ≡ suc l → AgreesAll l j us y rest
    → Climbing l n (suc (max m j)) (binary op (symbol_start k) x y) rest r
climbed l n m j x k op us y rest r (on_it i m' x' rest' r' le e) is of h =
    turned l i m j (suc i - m) x k op us y rest r le refl (h i)
    (e ∙ climb_is (suc l) (expr_of i l) (x, suc i - m) (k ∷ us)
    ∙ ap (λ (o : Reply Operator). pick o (climb_on (suc i - m) (climb (suc l) (expr_of i l)) (expr_of i l) x (k ∷ us)) (Ok ((x, suc i - m), k ∷ us))) (an_operator l k us op is of))
climbed l n m j x k op us y rest r (over n' m' x' rest' r' d began less e) is of h = over n (suc (max m j)) (binary op (symbol_start k) x y) rest r d began (omega arith) e

-- ---- expressions

pub expr_begins : (l m : ℕ) (ts : List Symbol) (x : Operand) (rest : List Symbol) → IsExpr l m ts x rest → starts begins_expr ts ≡ true
expr_begins l m ts x rest (ex.a_literal token r) = refl
expr_begins l m ts x rest (ex.a_text s r) = refl
expr_begins l m ts x rest (ex.a_name us z r (own i r')) = refl
expr_begins l m ts x rest (ex.a_name us z r (of_package p d i r')) = refl
expr_begins l m ts x rest (ex.a_conversion n us z at vs y c r (own i r') b) = refl
expr_begins l m ts x rest (ex.a_conversion n us z at vs y c r (of_package p d i r') b) = refl
expr_begins l m ts x rest (ex.in_parens n at us y c r a) = refl
expr_begins l m ts x rest (ex.after_sign n op at us y r e a) = e
expr_begins l m ts x rest (ex.alone i n us z r a) = expr_begins i n us z r a
expr_begins l m ts x rest (ex.joined i n j us z k op vs y r a e f b) = expr_begins (suc i) n us z (k ∷ vs) a

expr_no_close : (k : Symbol) → begins_expr k ≡ true → is_close_paren k ≡ false
expr_no_close (t.CloseParen at) e = absurd cc
expr_no_close _ e = refl

no_close : (ts : List Symbol) → starts begins_expr ts ≡ true → starts is_close_paren ts ≡ false
no_close [] e = refl
no_close (k ∷ ts) e = expr_no_close k e

expr_not_bracket : (k : Symbol) → begins_expr k ≡ true → is_close_bracket k ≡ false
expr_not_bracket (t.CloseBracket at) e = absurd cc
expr_not_bracket _ e = refl

no_bracket : (ts : List Symbol) → starts begins_expr ts ≡ true → starts is_close_bracket ts ≡ false
no_bracket [] e = refl
no_bracket (k ∷ ts) e = expr_not_bracket k e

pub expr_no_bracket : (m : ℕ) (ts : List Symbol) (x : Operand) (rest : List Symbol) → IsExpr 5 m ts x rest → starts is_close_bracket ts ≡ false
expr_no_bracket m ts x rest w = no_bracket ts (expr_begins 5 m ts x rest w)

-- what the reading of a level comes to
abbrev Comes : ℕ → ℕ → ℕ → Operand → List Symbol → Reply Sized → Type 0
Comes zero n m x rest r = Agrees n m (x, n - m) rest r
Comes (suc l) n m x rest r = Climbing l n m x rest r

finish : (l n m : ℕ) (x : Operand) (rest : List Symbol) (r : Reply Sized) → Comes l n m x rest r → Beyond l rest → Agrees n m (x, n - m) rest r
finish zero n m x rest r h b = h
finish (suc l) n m x rest r h b = settled l n m x rest r h b

level_at : (k : Symbol) (us : List Symbol) (op : Operator) → between_of k ≡ Some op → next_level (k ∷ us) ≡ level op
level_at k us op e = rw e refl

comes : (l m : ℕ) (ts : List Symbol) (x : Operand) (rest : List Symbol) → IsExpr l m ts x rest → Closed rest → AtLeast l rest → (n : ℕ) → Comes l n m x rest (expr_of n l ts)
comes l m ts x rest (ex.a_literal token r) e b n = literal_again n token r e
comes l m ts x rest (ex.a_text s r) e b n = text_again n s r e
comes l m ts x rest (ex.a_name us z r a) e b n =
    let o = name_again us z r a (no_dot r e) in subst (λ (vs : List Symbol). Agrees n 1 (constant z, n - 1) r (expr_of n 0 vs)) (sym o.2) (constant_again n o.0 o.1 z r o.3 e)
comes l m ts x rest (ex.a_conversion j us z at vs y c r a w) e b n =
    let o = name_again us z (t.OpenParen at ∷ vs) a refl in
    subst (λ (ws : List Symbol). Agrees n (suc j) (conversion z y, n - suc j) r (expr_of n 0 ws)) (sym o.2)
    (conversion_again n j o.0 o.1 z at vs y c r o.3 (no_close vs (expr_begins 5 j vs y (t.CloseParen c ∷ r) w))
    (λ i. finish 5 i j y (t.CloseParen c ∷ r) (expr_of i 5 vs) (comes 5 j vs y (t.CloseParen c ∷ r) w refl (λ p. omega (arith, p)) i) (λ p. omega (arith, p))) e)
comes l m ts x rest (ex.in_parens j at us y c r w) e b n =
    enclosed_again n j at us y c r (λ i. finish 5 i j y (t.CloseParen c ∷ r) (expr_of i 5 us) (comes 5 j us y (t.CloseParen c ∷ r) w refl (λ p. omega (arith, p)) i) (λ p. omega (arith, p))) e
comes l m ts x rest (ex.after_sign j op at us y r s w) e b n = signed_again n j op at us y r s (comes 0 j us y r w e (λ p. omega arith))
comes l m ts x rest (ex.alone i j us z r w) e b n =
    lift i n j us z r (finish i n j z r (expr_of n i us) (comes i j us z r w e (λ p. let q : suc i ≤ next_level r = b p in omega arith) n) (λ p. let q : suc i ≤ next_level r = b p in omega arith))
comes l m ts x rest (ex.joined i j h us z k op vs y r a is of w) e b n =
    climbed i n j h z k op vs y r (expr_of n (suc i) us)
    (comes (suc i) j us z (k ∷ vs) a (between_closed k op is) (λ p. let q : next_level (k ∷ vs) ≡ level op = level_at k vs op is in omega arith) n) is of
    (λ d. finish i d h y r (expr_of d i vs) (comes i h vs y r w e (λ p. let q : suc i ≤ next_level r = b p in omega arith) d) (λ p. let q : suc i ≤ next_level r = b p in omega arith))

pub expr_again : (m : ℕ) (ts : List Symbol) (x : Operand) (rest : List Symbol) → IsExpr 5 m ts x rest → Closed rest → Beyond 5 rest → (n : ℕ) → Agrees n m (x, n - m) rest (expr_at n ts)
expr_again m ts x rest w e b n = finish 5 n m x rest (expr_of n 5 ts) (comes 5 m ts x rest w e (λ p. let q : 5 < next_level rest = b p in omega arith) n) b
