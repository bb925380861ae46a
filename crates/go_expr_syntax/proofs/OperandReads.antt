-- What the readers of operands do.
use Rattle.std.proofs.Common.{◌≡◌, ℕ, zero, suc, Bool, true, false, List, [], ◌∷◌, ◌++◌, length, Ok, refl, sym, subst}
use Rattle.go_expr_syntax.specs.declared.symbols.Operator.{Operator}
use Rattle.go_expr_syntax.specs.declared.symbols.Symbol.{Symbol}
use Rattle.go_expr_syntax.specs.declared.symbols.Symbol.TheVariants as t
use Rattle.go_expr_syntax.specs.declared.symbols.Ident.{Ident}
use Rattle.go_lexer.specs.declared.token_kinds.Token.{Token}
use Rattle.go_lexer.specs.declared.token_kinds.TokenKind.TheVariants as kind
use Rattle.go_expr_syntax.specs.declared.expressions.Operand.{Operand}
use Rattle.go_expr_syntax.specs.declared.faults.Fault.{Fault}
use Rattle.go_expr_syntax.specs.declared.faults.Fault.TheVariants.{Call}
use Rattle.go_expr_syntax.specs.declared.tree.NameExpr.{NameExpr}
use Rattle.go_expr_syntax.specs.Reading.{is_close_paren, starts}
use Rattle.go_expr_syntax.specs.Names.{plain, IsTypeName, own, of_package, dotted}
use Rattle.go_expr_syntax.specs.Expressions as ex
use Rattle.go_expr_syntax.specs.Expressions.{is_unary, literal, constant, conversion, enclosed, unary, IsExpr}
use Rattle.go_expr_syntax.specs.Calls.{is_operator, IsArguments, no_argument, last_argument, more_arguments, spreads, a_call, Called}
use Rattle.go_expr_syntax.specs.Operands.{Sized, Reader, called, uncalled, goes_on, converted_end, converted, argument, convert_by, named_by, ident_by, enclosed_end, enclosed_by, signed, signed_by, operand_by}
use Rattle.go_expr_syntax.proofs.Viable.{next_is, ends_so, going, turned, Meets, ReadsBy, ReadsAt, Sample, Behind, Past, After, done_reads, refuse_by, refuse_next, refuse_end, as_by, cons_by, cons_reads, past_by, peek_by, bind_by, value_reads}
use Rattle.go_expr_syntax.proofs.Marks.{close_paren}
use Rattle.go_expr_syntax.proofs.NameReads.{any_ident, dotted_reads}

-- an expression of a level, of any number of nodes
abbrev pub ExprAt : ℕ → List Symbol → Sized → List Symbol → Type 0
ExprAt l ts z rest = (m : ℕ) × IsExpr l m ts z.0 rest

-- the name alone, of any level
pub alone_up : (l : ℕ) (tail : List Symbol) → IsExpr l 1 (t.Ident any_ident ∷ tail) (constant (plain any_ident)) tail
alone_up zero tail = ex.a_name (t.Ident any_ident ∷ tail) (plain any_ident) tail (own any_ident tail)
alone_up (suc l) tail = ex.alone l 1 (t.Ident any_ident ∷ tail) (constant (plain any_ident)) tail (alone_up l tail)

abbrev pub some_expr : (l : ℕ) → Sample (ExprAt l)
some_expr l = record { tokens = t.Ident any_ident ∷ []; made = (constant (plain any_ident), 0); stands = λ tail. (1, alone_up l tail) }

pub no_expr_of : (l m : ℕ) (us : List Symbol) (y : _) → IsExpr l m [] y us → ⊥
no_expr_of l m us y (ex.a_name ts z rest a) = elim a [ ]
no_expr_of l m us y (ex.a_conversion n ts z at vs w c rest a b) = elim a [ ]
no_expr_of l m us y (ex.alone i n ts z rest a) = no_expr_of i n us z a
no_expr_of l m us y (ex.joined i n j ts z k op vs w rest a e f b) = no_expr_of (suc i) n (k ∷ vs) z a

pub no_expr_here : (l : ℕ) (z : Sized) (us : List Symbol) → ExprAt l [] z us → ⊥
no_expr_here l z us w = no_expr_of l w.0 us z.0 w.1

-- ---- calls

any_literal : Token
any_literal = record { kind = kind.Whole; start = 0; end = 0 }

-- what stands in place of a call
abbrev stand_in : Sized
stand_in = (literal any_literal, 0)

-- an operand, a parenthesis and arguments
called_as : (m at : ℕ) (ts : List Symbol) (x : Operand) (us tail : List Symbol) → starts is_operator ts ≡ false → IsExpr 0 m ts x (t.OpenParen at ∷ us) → IsArguments us tail → Called (ExprAt 0) at ts stand_in tail
called_as m at ts x us tail e w a = record { before = []; call = ts; after = tail; literal = any_literal; split = refl; calls = a_call m at ts x us tail e w a; stands = (1, ex.a_literal any_literal tail) }

name_no_sign : (ts : List Symbol) (x : NameExpr) (rest : List Symbol) → IsTypeName ts x rest → starts is_operator ts ≡ false
name_no_sign ts x rest (own i r) = refl
name_no_sign ts x rest (of_package p d i r) = refl

-- a whole operand
uncalled_by : (F : List Symbol → Sized → List Symbol → Type 0) (W : Fault → List Symbol → Sized → List Symbol → Type 0) (z : Sized) (ts : List Symbol) → ((tail : List Symbol) → F tail z tail)
    → ((k at : ℕ) (tail : List Symbol) → W (Call k at) (t.OpenParen at ∷ t.CloseParen 0 ∷ tail) stand_in tail) → ReadsBy F W (uncalled z) ts (uncalled z ts)
uncalled_by F W z [] h c = done_reads F (uncalled z) [] z h (ends_so (λ r. uncalled z r ≡ Ok (z, r)) refl)
uncalled_by F W z (t.OpenParen at ∷ ts) h c =
    refuse_by F W (uncalled z) (t.OpenParen at ∷ ts) (Call (length (t.OpenParen at ∷ ts)) at) (record { tokens = []; made = z; stands = h }) refl
    (next_is (λ r. uncalled z r ≡ called at r) (t.OpenParen at) (λ r. refl))
    (record { next = t.OpenParen at; comes = refl; beyond = t.CloseParen 0 ∷ []; formed = stand_in; goes = λ tail. c (length (t.OpenParen at ∷ ts)) at tail })
uncalled_by F W z (k ∷ ts) h c = done_reads F (uncalled z) (k ∷ ts) z h (next_is (λ r. uncalled z r ≡ Ok (z, r)) k (λ r. refl))

-- a token that shows that the parenthesis at this place is a call
called_by : (F : List Symbol → Sized → List Symbol → Type 0) (W : Fault → List Symbol → Sized → List Symbol → Type 0) (at : ℕ) (ts : List Symbol) → Sample F → ((k : ℕ) → Meets (W (Call k at)) [] ts) → ReadsBy F W (called at) ts (called at ts)
called_by F W at ts s m = refuse_by F W (called at) ts (Call (length ts) at) s refl (λ r e. refl) (m (length ts))

-- ---- conversions

-- after the name and the parenthesis
abbrev Opened : NameExpr → ℕ → List Symbol → Sized → List Symbol → Type 0
Opened x at us z rest = (ts : List Symbol) → IsTypeName ts x (t.OpenParen at ∷ us) → ExprAt 0 ts z rest

abbrev Opening : NameExpr → ℕ → Fault → List Symbol → Sized → List Symbol → Type 0
Opening x at f us z rest = (ts : List Symbol) → IsTypeName ts x (t.OpenParen at ∷ us) → going (ExprAt 0) f ts z rest

-- after the argument
abbrev Argued : NameExpr → ℕ → Sized → List Symbol → Sized → List Symbol → Type 0
Argued x at y = After (ExprAt 5) (Opened x at) y

abbrev Arguing : NameExpr → ℕ → Sized → Fault → List Symbol → Sized → List Symbol → Type 0
Arguing x at y f us z rest = (ts : List Symbol) → ExprAt 5 ts y us → Opening x at f ts z rest

meets_list : (x : NameExpr) (at : ℕ) (y : Sized) (ts : List Symbol) → starts goes_on ts ≡ true → (k : ℕ) → Meets (Arguing x at y (Call k at)) [] ts
meets_list x at y [] s k = absurd cc
meets_list x at y (t.Comma c ∷ ts) s k = record {
  next = t.Comma c;
  comes = refl;
  beyond = t.CloseParen 0 ∷ [];
  formed = stand_in;
  goes = λ tail us w vs a. called_as 1 at vs (constant x) us tail (name_no_sign vs x (t.OpenParen at ∷ us) a) (ex.a_name vs x (t.OpenParen at ∷ us) a) (more_arguments w.0 c us y.0 (t.CloseParen 0 ∷ tail) tail w.1 (no_argument 0 tail));
}
meets_list x at y (t.Ellipsis e ∷ ts) s k = record {
  next = t.Ellipsis e;
  comes = refl;
  beyond = t.CloseParen 0 ∷ [];
  formed = stand_in;
  goes = λ tail us w vs a. called_as 1 at vs (constant x) us tail (name_no_sign vs x (t.OpenParen at ∷ us) a) (ex.a_name vs x (t.OpenParen at ∷ us) a) (last_argument w.0 us y.0 (t.Ellipsis e ∷ t.CloseParen 0 ∷ tail) tail w.1 (spreads e 0 tail));
}
meets_list x at y (_ ∷ ts) s k = absurd cc

meets_none : (x : NameExpr) (at : ℕ) (ts : List Symbol) → starts is_close_paren ts ≡ true → (k : ℕ) → Meets (Opening x at (Call k at)) [] ts
meets_none x at [] s k = absurd cc
meets_none x at (t.CloseParen c ∷ ts) s k = record {
  next = t.CloseParen c;
  comes = refl;
  beyond = [];
  formed = stand_in;
  goes = λ tail vs a. called_as 1 at vs (constant x) (t.CloseParen c ∷ tail) tail (name_no_sign vs x (t.OpenParen at ∷ t.CloseParen c ∷ tail) a) (ex.a_name vs x (t.OpenParen at ∷ t.CloseParen c ∷ tail) a) (no_argument c tail);
}
meets_none x at (_ ∷ ts) s k = absurd cc

converted_reads : (x : NameExpr) (at : ℕ) (y : Sized) (ts : List Symbol) → ReadsBy (Argued x at y) (Arguing x at y) (converted x at y) ts (converted x at y ts)
converted_reads x at y ts =
    peek_by (Argued x at y) (Arguing x at y) goes_on (called at) (converted_end x y) ts
    (λ s. called_by (Argued x at y) (Arguing x at y) at ts
    (record { tokens = t.CloseParen 0 ∷ []; made = (conversion x y.0, y.1); stands = λ tail us w vs a. (suc w.0, ex.a_conversion w.0 vs x at us y.0 0 tail a w.1) })
    (meets_list x at y ts s))
    (λ s. past_by is_close_paren (Argued x at y) (Arguing x at y) close_paren (uncalled (conversion x y.0, y.1)) ts
    (record { tokens = []; made = (conversion x y.0, y.1); stands = λ tail c us w vs a. (suc w.0, ex.a_conversion w.0 vs x at us y.0 c tail a w.1) })
    (λ k us e. uncalled_by (Past close_paren (Argued x at y)) (λ f. Past close_paren (Arguing x at y f)) (conversion x y.0, y.1) us (λ tail c vs w ws a. (suc w.0, ex.a_conversion w.0 ws x at vs y.0 c tail a w.1))
    (λ j o tail c vs w ws a. called_as (suc w.0) o ws (conversion x y.0) (t.CloseParen 0 ∷ tail) tail (name_no_sign ws x (t.OpenParen at ∷ vs) a) (ex.a_conversion w.0 ws x at vs y.0 c (t.OpenParen o ∷ t.CloseParen 0 ∷ tail) a w.1) (no_argument 0 tail))))

-- the tokens of a name and its parenthesis
named_before : (ts : List Symbol) (x : NameExpr) (at : ℕ) (us : List Symbol) → IsTypeName ts x (t.OpenParen at ∷ us) → (before : List Symbol) × (ts ≡ before ++ us) × ((vs : List Symbol) → IsTypeName (before ++ vs) x (t.OpenParen at ∷ vs))
named_before ts x at us (own i r) = (t.Ident i ∷ t.OpenParen at ∷ [], refl, λ vs. own i (t.OpenParen at ∷ vs))
named_before ts x at us (of_package p d i r) = (t.Ident p ∷ t.Dot d ∷ t.Ident i ∷ t.OpenParen at ∷ [], refl, λ vs. of_package p d i (t.OpenParen at ∷ vs))

argument_goes : (x : NameExpr) (at : ℕ) (f : Fault) (us : List Symbol) (y : Sized) (r : List Symbol) → going (ExprAt 5) f us y (t.CloseParen 0 ∷ r) → Opening x at f us (conversion x y.0, y.1) r
argument_goes x at f us y r h vs a =
    let o = named_before vs x at us a in
    subst (λ ws. going (ExprAt 0) f ws (conversion x y.0, y.1) r) (sym o.1)
    (turned (ExprAt 5) (ExprAt 0) o.0 y (conversion x y.0, y.1) (t.CloseParen 0 ∷ r) r (λ ws w. (suc w.0, ex.a_conversion w.0 (o.0 ++ ws) x at ws y.0 0 r (o.2 ws) w.1)) f us h)

convert_reads : (inner : Reader) → ((us : List Symbol) → ReadsAt (ExprAt 5) inner us (inner us)) → (x : NameExpr) (at : ℕ) (ts : List Symbol) → ReadsBy (Opened x at) (Opening x at) (convert_by inner x at) ts (convert_by inner x at ts)
convert_reads inner h x at ts =
    peek_by (Opened x at) (Opening x at) is_close_paren (called at) (argument inner x at) ts
    (λ s. called_by (Opened x at) (Opening x at) at ts
    (let w = some_expr 5 in record {
      tokens = t.Ident any_ident ∷ t.CloseParen 0 ∷ [];
      made = (conversion x w.made.0, 0);
      stands = λ tail vs a. let v = w.stands (t.CloseParen 0 ∷ tail) in (suc v.0, ex.a_conversion v.0 vs x at _ w.made.0 0 tail a v.1);
    })
    (meets_none x at ts s))
    (λ s. bind_by (ExprAt 5) (going (ExprAt 5)) (Opened x at) (Arguing x at) (Opening x at) inner (converted x at) ts
    (λ y. record { tokens = t.CloseParen 0 ∷ []; made = (conversion x y.0, y.1); stands = λ tail us w vs a. (suc w.0, ex.a_conversion w.0 vs x at us y.0 0 tail a w.1) })
    (λ y. t.CloseParen 0 ∷ []) (λ y. (conversion x y.0, y.1)) (argument_goes x at)
    (λ y us o. converted_reads x at y us) (λ y us o f vs z r w. w (o.front ++ vs) (o.stands vs)) (inner ts) (h ts))

-- after a name that begins with this identifier
abbrev Named : Ident → NameExpr → List Symbol → Sized → List Symbol → Type 0
Named i x = After (Behind (t.Ident i) IsTypeName) (Behind (t.Ident i) (ExprAt 0)) x

abbrev Naming : Ident → NameExpr → Fault → List Symbol → Sized → List Symbol → Type 0
Naming i x f us z rest = (ts : List Symbol) → IsTypeName (t.Ident i ∷ ts) x us → going (ExprAt 0) f (t.Ident i ∷ ts) z rest

alone_here : (n : ℕ) (i : Ident) (x : NameExpr) (tail : List Symbol) → Named i x tail (constant x, n) tail
alone_here n i x tail = λ us w. (1, ex.a_name (t.Ident i ∷ us) x tail w)

named_reads : (n : ℕ) (inner : Reader) → ((us : List Symbol) → ReadsAt (ExprAt 5) inner us (inner us)) → (i : Ident) (x : NameExpr) (ts : List Symbol) → ReadsBy (Named i x) (Naming i x) (named_by n inner x) ts (named_by n inner x ts)
named_reads n inner h i x [] = done_reads (Named i x) (named_by n inner x) [] (constant x, n) (alone_here n i x) (ends_so (λ r. named_by n inner x r ≡ Ok ((constant x, n), r)) refl)
named_reads n inner h i x (t.OpenParen at ∷ ts) =
    cons_by (Named i x) (Naming i x) (named_by n inner x) (convert_by inner x at) (t.OpenParen at) ts (convert_by inner x at ts) (λ r. refl)
    (as_by (Opened x at) (Behind (t.OpenParen at) (Named i x)) (Opening x at) (λ f. Behind (t.OpenParen at) (Naming i x f)) (convert_by inner x at) ts (convert_by inner x at ts) (λ us z rest w vs a. w (t.Ident i ∷ vs) a)
    (λ f us z rest w vs a. w (t.Ident i ∷ vs) a) (convert_reads inner h x at ts))
named_reads n inner h i x (k ∷ ts) = done_reads (Named i x) (named_by n inner x) (k ∷ ts) (constant x, n) (alone_here n i x) (next_is (λ r. named_by n inner x r ≡ Ok ((constant x, n), r)) k (λ r. refl))

ident_reads : (n : ℕ) (inner : Reader) → ((us : List Symbol) → ReadsAt (ExprAt 5) inner us (inner us)) → (i : Ident) (ts : List Symbol) → ReadsBy (Behind (t.Ident i) (ExprAt 0)) (λ f. Behind (t.Ident i) (going (ExprAt 0) f)) (ident_by n inner i) ts (ident_by n inner i ts)
ident_reads n inner h i ts =
    bind_by (Behind (t.Ident i) IsTypeName) (going (Behind (t.Ident i) IsTypeName)) (Behind (t.Ident i) (ExprAt 0)) (Naming i) (λ f. Behind (t.Ident i) (going (ExprAt 0) f)) (dotted i) (named_by n inner) ts
    (λ x. record { tokens = []; made = (constant x, n); stands = λ tail us w. (1, ex.a_name (t.Ident i ∷ us) x tail w) })
    (λ x. []) (λ x. (constant x, n))
    (λ f us x r w. turned (Behind (t.Ident i) IsTypeName) (ExprAt 0) (t.Ident i ∷ []) x (constant x, n) r r (λ vs v. (1, ex.a_name (t.Ident i ∷ vs) x r v)) f us w)
    (λ x us o. named_reads n inner h i x us) (λ x us o f vs z r w. w (o.front ++ vs) (o.stands vs)) (dotted i ts) (dotted_reads i ts)

-- ---- parentheses and signs

abbrev Enclosing : ℕ → Sized → Fault → List Symbol → Sized → List Symbol → Type 0
Enclosing at y f us z rest = (ts : List Symbol) → ExprAt 5 ts y us → going (ExprAt 0) f (t.OpenParen at ∷ ts) z rest

enclosed_reads : (inner : Reader) → ((us : List Symbol) → ReadsAt (ExprAt 5) inner us (inner us)) → (at : ℕ) (ts : List Symbol) → ReadsBy (Behind (t.OpenParen at) (ExprAt 0)) (λ f. Behind (t.OpenParen at) (going (ExprAt 0) f)) (enclosed_by inner at) ts (enclosed_by inner at ts)
enclosed_reads inner h at ts =
    bind_by (ExprAt 5) (going (ExprAt 5)) (Behind (t.OpenParen at) (ExprAt 0)) (Enclosing at) (λ f. Behind (t.OpenParen at) (going (ExprAt 0) f)) inner (enclosed_end at) ts
    (λ y. record { tokens = t.CloseParen 0 ∷ []; made = (enclosed at y.0, y.1); stands = λ tail us w. (suc w.0, ex.in_parens w.0 at us y.0 0 tail w.1) })
    (λ y. t.CloseParen 0 ∷ []) (λ y. (enclosed at y.0, y.1))
    (λ f us y r w. turned (ExprAt 5) (ExprAt 0) (t.OpenParen at ∷ []) y (enclosed at y.0, y.1) (t.CloseParen 0 ∷ r) r (λ vs v. (suc v.0, ex.in_parens v.0 at vs y.0 0 r v.1)) f us w)
    (λ y us o. past_by is_close_paren (After (ExprAt 5) (Behind (t.OpenParen at) (ExprAt 0)) y) (Enclosing at y) close_paren (uncalled (enclosed at y.0, y.1)) us
    (record { tokens = []; made = (enclosed at y.0, y.1); stands = λ tail c vs w. (suc w.0, ex.in_parens w.0 at vs y.0 c tail w.1) })
    (λ k vs e. uncalled_by (Past close_paren (After (ExprAt 5) (Behind (t.OpenParen at) (ExprAt 0)) y)) (λ f. Past close_paren (Enclosing at y f)) (enclosed at y.0, y.1) vs (λ tail c ws w. (suc w.0, ex.in_parens w.0 at ws y.0 c tail w.1))
    (λ j o' tail c ws w. called_as (suc w.0) o' (t.OpenParen at ∷ ws) (enclosed at y.0) (t.CloseParen 0 ∷ tail) tail refl (ex.in_parens w.0 at ws y.0 c (t.OpenParen o' ∷ t.CloseParen 0 ∷ tail) w.1) (no_argument 0 tail))))
    (λ y us o f vs z r w. w (o.front ++ vs) (o.stands vs)) (inner ts) (h ts)

signed_reads : (n : ℕ) (first inner : Reader) → ((us : List Symbol) → ReadsAt (ExprAt 0) first us (first us)) → (op : Operator) (at : ℕ) (ts : List Symbol) (b : Bool) → is_unary op ≡ b
    → ReadsAt (ExprAt 0) (operand_by n first inner) (t.Operator op at ∷ ts) (signed_by b first op at ts)
signed_reads n first inner h op at ts true e =
    cons_reads (ExprAt 0) (operand_by n first inner) (signed first op at) (t.Operator op at) ts (signed first op at ts) (λ r. rw e refl)
    (value_reads (ExprAt 0) (Behind (t.Operator op at) (ExprAt 0)) first (λ y. (unary op at y.0, y.1)) ts (λ us y rest w. (suc w.0, ex.after_sign w.0 op at us y.0 rest e w.1)) (first ts) (h ts))
signed_reads n first inner h op at ts false e = refuse_next (ExprAt 0) (operand_by n first inner) (t.Operator op at) ts (some_expr 0) (λ r. rw e refl)

pub operand_reads : (n : ℕ) (first inner : Reader) → ((us : List Symbol) → ReadsAt (ExprAt 0) first us (first us)) → ((us : List Symbol) → ReadsAt (ExprAt 5) inner us (inner us))
    → (ts : List Symbol) → ReadsAt (ExprAt 0) (operand_by n first inner) ts (operand_by n first inner ts)
operand_reads n first inner g h [] = refuse_end (ExprAt 0) (operand_by n first inner) (some_expr 0) refl
operand_reads n first inner g h (t.Literal token ∷ ts) =
    cons_by (ExprAt 0) (going (ExprAt 0)) (operand_by n first inner) (uncalled (literal token, n)) (t.Literal token) ts (uncalled (literal token, n) ts) (λ r. refl)
    (uncalled_by (Behind (t.Literal token) (ExprAt 0)) (λ f. Behind (t.Literal token) (going (ExprAt 0) f)) (literal token, n) ts (λ tail. (1, ex.a_literal token tail))
    (λ k at tail. called_as 1 at (t.Literal token ∷ t.OpenParen at ∷ t.CloseParen 0 ∷ tail) (literal token) (t.CloseParen 0 ∷ tail) tail refl (ex.a_literal token (t.OpenParen at ∷ t.CloseParen 0 ∷ tail)) (no_argument 0 tail)))
operand_reads n first inner g h (t.Text s ∷ ts) =
    cons_by (ExprAt 0) (going (ExprAt 0)) (operand_by n first inner) (uncalled (literal s.0, n)) (t.Text s) ts (uncalled (literal s.0, n) ts) (λ r. refl)
    (uncalled_by (Behind (t.Text s) (ExprAt 0)) (λ f. Behind (t.Text s) (going (ExprAt 0) f)) (literal s.0, n) ts (λ tail. (1, ex.a_text s tail))
    (λ k at tail. called_as 1 at (t.Text s ∷ t.OpenParen at ∷ t.CloseParen 0 ∷ tail) (literal s.0) (t.CloseParen 0 ∷ tail) tail refl (ex.a_text s (t.OpenParen at ∷ t.CloseParen 0 ∷ tail)) (no_argument 0 tail)))
operand_reads n first inner g h (t.Ident i ∷ ts) =
    cons_by (ExprAt 0) (going (ExprAt 0)) (operand_by n first inner) (ident_by n inner i) (t.Ident i) ts (ident_by n inner i ts) (λ r. refl) (ident_reads n inner h i ts)
operand_reads n first inner g h (t.OpenParen at ∷ ts) =
    cons_by (ExprAt 0) (going (ExprAt 0)) (operand_by n first inner) (enclosed_by inner at) (t.OpenParen at) ts (enclosed_by inner at ts) (λ r. refl) (enclosed_reads inner h at ts)
operand_reads n first inner g h (t.Operator op at ∷ ts) = signed_reads n first inner g op at ts (is_unary op) refl
operand_reads n first inner g h (k ∷ ts) = refuse_next (ExprAt 0) (operand_by n first inner) k ts (some_expr 0) (λ r. refl)
