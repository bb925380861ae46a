-- What stands somewhere, of any number of nodes, and the least that does.
use Rattle.std.proofs.Common.{◌≡◌, ℕ, Bool, true, false, List, [], ◌∷◌, ◌++◌, Ok, Err, refl, sym, ap, subst, ◌∙◌, append_assoc}
use Rattle.go_expr_syntax.specs.declared.symbols.Symbol.{Symbol}
use Rattle.go_expr_syntax.specs.Calls.{Called}
use Rattle.go_lexer.specs.declared.token_kinds.Token.{Token}
use Rattle.go_expr_syntax.specs.declared.symbols.Symbol.TheVariants as t
use Rattle.go_expr_syntax.specs.declared.symbols.Ident.{Ident}
use Rattle.go_expr_syntax.specs.declared.faults.Fault.{Fault}
use Rattle.go_expr_syntax.specs.declared.faults.Fault.TheVariants.{Unexpected, Deep, DotImport, Call}
use Rattle.go_type_syntax.specs.declared.params.Param.{Param}
use Rattle.go_type_syntax.specs.declared.tree.FieldExpr.{FieldExpr}
use Rattle.go_type_syntax.specs.declared.tree.ParamExpr.{ParamExpr}
use Rattle.go_type_syntax.specs.declared.tree.SigExpr.{SigExpr}
use Rattle.go_type_syntax.specs.declared.tree.TermExpr.{TermExpr}
use Rattle.go_type_syntax.specs.declared.tree.ElemExpr.{ElemExpr}
use Rattle.go_type_syntax.specs.declared.tree.TypeExpr.{TypeExpr}
use Rattle.go_type_syntax.specs.declared.tree.TypeExpr.TheVariants as y
use Rattle.go_expr_syntax.specs.Reading.{Reply, ◌>>=◌, begins_type, start_of, placed, Fit}
use Rattle.go_expr_syntax.specs.Names.{plain, selected, own, of_package, none}
use Rattle.go_type_syntax.specs.Grammar as g
use Rattle.go_type_syntax.specs.Grammar.{instance, named, field, param, signature, IsType, IsNamed, IsArgs, IsTypes, IsField, IsFields, IsParam, IsParams, IsSig, IsTerm, IsTerms, IsUnion, IsElem, IsElems}
use Rattle.go_expr_syntax.proofs.Viable.{ReadsAt, Sample, Behind, going, Goes}
use Rattle.go_expr_syntax.proofs.NameReads.{any_ident, no_names, no_type_name}

abbrev pub TypeAt : List Symbol → Fit TypeExpr → List Symbol → Type 0
TypeAt ts x rest = (m : ℕ) × IsType m ts x.0 rest

-- arguments of a type, after the bracket
abbrev pub TypesAt : List Symbol → Fit (List TypeExpr) → List Symbol → Type 0
TypesAt ts xs rest = (m : ℕ) × IsTypes m ts xs.0 rest

abbrev pub NamedAt : List Symbol → Fit TypeExpr → List Symbol → Type 0
NamedAt ts x rest = (m : ℕ) × IsNamed m ts x.0 rest

abbrev pub FieldAt : List Symbol → Fit FieldExpr → List Symbol → Type 0
FieldAt ts x rest = (m : ℕ) × IsField m ts x.0 rest

abbrev pub FieldsAt : List Symbol → Fit (List FieldExpr) → List Symbol → Type 0
FieldsAt ts xs rest = (m : ℕ) × IsFields m ts xs.0 rest

abbrev pub ParamAt : Bool → Bool → List Symbol → Param → List Symbol → Type 0
ParamAt w v ts x rest = (m : ℕ) × IsParam w v x.last m ts x.expr rest

abbrev pub ParamsAt : Bool → Bool → List Symbol → Fit (List ParamExpr) → List Symbol → Type 0
ParamsAt w v ts xs rest = (m : ℕ) × IsParams w v m ts xs.0 rest

abbrev pub SigAt : List Symbol → Fit SigExpr → List Symbol → Type 0
SigAt ts x rest = (m : ℕ) × IsSig m ts x.0 rest

abbrev pub TermAt : List Symbol → Fit TermExpr → List Symbol → Type 0
TermAt ts x rest = (m : ℕ) × IsTerm m ts x.0 rest

abbrev pub TermsAt : List Symbol → Fit (List TermExpr) → List Symbol → Type 0
TermsAt ts xs rest = (m : ℕ) × IsTerms m ts xs.0 rest

abbrev pub UnionAt : List Symbol → Fit TypeExpr → List Symbol → Type 0
UnionAt ts x rest = (m : ℕ) × IsUnion m ts x.0 rest

abbrev pub ElemAt : List Symbol → Fit ElemExpr → List Symbol → Type 0
ElemAt ts x rest = (m : ℕ) × IsElem m ts x.0 rest

abbrev pub ElemsAt : List Symbol → Fit (List ElemExpr) → List Symbol → Type 0
ElemsAt ts xs rest = (m : ℕ) × IsElems m ts xs.0 rest

-- ---- the least

pub plain_stands : (i : Ident) (tail : List Symbol) → IsNamed 1 (t.Ident i ∷ tail) (named (plain i)) tail
plain_stands i tail = g.by_name 0 (t.Ident i ∷ tail) (plain i) tail [] tail (own i tail) (g.no_args tail)

pub name_stands : (i : Ident) (tail : List Symbol) → IsType 1 (t.Ident i ∷ tail) (named (plain i)) tail
name_stands i tail = g.name 1 (t.Ident i ∷ tail) (named (plain i)) tail (plain_stands i tail)

abbrev pub some_type : Sample TypeAt
some_type = record { tokens = t.Ident any_ident ∷ []; made = (named (plain any_ident), 0); stands = λ tail. (1, name_stands any_ident tail) }

-- behind a token with which a type begins
pub type_begun_by : (k : Symbol) → begins_type k ≡ true → Sample (Behind k TypeAt)
type_begun_by (t.Ident i) e = record { tokens = []; made = (named (plain i), 0); stands = λ tail. (1, name_stands i tail) }
type_begun_by (t.OpenParen at) e = record {
  tokens = t.Ident any_ident ∷ t.CloseParen 0 ∷ [];
  made = (y.Paren (named (plain any_ident)) at, 0);
  stands = λ tail. (2, g.paren 1 at 0 (t.Ident any_ident ∷ t.CloseParen 0 ∷ tail) (named (plain any_ident)) tail (name_stands any_ident (t.CloseParen 0 ∷ tail)));
}
type_begun_by (t.Star at) e = record { tokens = t.Ident any_ident ∷ []; made = (y.Pointer (named (plain any_ident)) at, 0); stands = λ tail. (2, g.pointer 1 at (t.Ident any_ident ∷ tail) (named (plain any_ident)) tail (name_stands any_ident tail)) }
type_begun_by (t.OpenBracket at) e = record {
  tokens = t.CloseBracket 0 ∷ t.Ident any_ident ∷ [];
  made = (y.Slice (named (plain any_ident)) at, 0);
  stands = λ tail. (2, g.slice 1 at 0 (t.Ident any_ident ∷ tail) (named (plain any_ident)) tail (name_stands any_ident tail));
}
type_begun_by (t.Map at) e = record {
  tokens = t.OpenBracket 0 ∷ t.Ident any_ident ∷ t.CloseBracket 0 ∷ t.Ident any_ident ∷ [];
  made = (y.MapOf (named (plain any_ident)) (named (plain any_ident)) at, 0);
  stands = λ tail. (2, g.map_of 1 1 at 0 0 (t.Ident any_ident ∷ t.CloseBracket 0 ∷ t.Ident any_ident ∷ tail) (named (plain any_ident)) (t.Ident any_ident ∷ tail) (named (plain any_ident)) tail (name_stands any_ident (t.CloseBracket 0 ∷ t.Ident any_ident ∷ tail)) (name_stands any_ident tail));
}
type_begun_by (t.Chan at) e = record { tokens = t.Ident any_ident ∷ []; made = (y.Chan true true (named (plain any_ident)) at, 0); stands = λ tail. (2, g.both_ways 1 at (t.Ident any_ident ∷ tail) (named (plain any_ident)) tail refl (name_stands any_ident tail)) }
type_begun_by (t.Arrow at) e = record {
  tokens = t.Chan 0 ∷ t.Ident any_ident ∷ [];
  made = (y.Chan true false (named (plain any_ident)) at, 0);
  stands = λ tail. (2, g.receive_only 1 at 0 (t.Ident any_ident ∷ tail) (named (plain any_ident)) tail (name_stands any_ident tail));
}
type_begun_by (t.Struct at) e = record { tokens = t.OpenBrace 0 ∷ t.CloseBrace 0 ∷ []; made = (y.Struct [] at, 0); stands = λ tail. (1, g.struct 0 at 0 (t.CloseBrace 0 ∷ tail) [] tail (g.none 0 tail)) }
type_begun_by (t.Func at) e = record {
  tokens = t.OpenParen 0 ∷ t.CloseParen 0 ∷ [];
  made = (y.Func (signature [] [] 0) at, 0);
  stands = λ tail. (1, g.func 0 at (t.OpenParen 0 ∷ t.CloseParen 0 ∷ tail) (signature [] [] 0) tail (g.no_result true 0 0 (t.CloseParen 0 ∷ tail) [] tail (g.no_param true true 0 tail)));
}
type_begun_by (t.Interface at) e = record { tokens = t.OpenBrace 0 ∷ t.CloseBrace 0 ∷ []; made = (y.Interface [] at, 0); stands = λ tail. (1, g.interface 0 at 0 (t.CloseBrace 0 ∷ tail) [] tail (g.no_elem 0 tail)) }
type_begun_by _ e = absurd cc

-- the name of another package's type, after its first identifier, and one with an argument
pub dotted_stands : (i : Ident) (d : ℕ) (tail : List Symbol) → IsNamed 1 (t.Ident i ∷ t.Dot d ∷ t.Ident any_ident ∷ tail) (named (selected i any_ident)) tail
dotted_stands i d tail = g.by_name 0 (t.Ident i ∷ t.Dot d ∷ t.Ident any_ident ∷ tail) (selected i any_ident) tail [] tail (of_package i d any_ident tail) (g.no_args tail)

pub applied_stands : (i : Ident) (o : ℕ) (tail : List Symbol) → IsNamed 2 (t.Ident i ∷ t.OpenBracket o ∷ t.Ident any_ident ∷ t.CloseBracket 0 ∷ tail) (instance (plain i) (named (plain any_ident) ∷ [])) tail
applied_stands i o tail =
    g.by_name 1 (t.Ident i ∷ t.OpenBracket o ∷ t.Ident any_ident ∷ t.CloseBracket 0 ∷ tail) (plain i) (t.OpenBracket o ∷ t.Ident any_ident ∷ t.CloseBracket 0 ∷ tail) (named (plain any_ident) ∷ []) tail (own i (t.OpenBracket o ∷ t.Ident any_ident ∷ t.CloseBracket 0 ∷ tail))
    (g.some_args 1 o (t.Ident any_ident ∷ t.CloseBracket 0 ∷ tail) (named (plain any_ident) ∷ []) tail refl (g.last_type 1 0 (t.Ident any_ident ∷ t.CloseBracket 0 ∷ tail) (named (plain any_ident)) tail (name_stands any_ident (t.CloseBracket 0 ∷ tail))))

abbrev pub some_field : Sample FieldAt
some_field = record {
  tokens = t.Ident any_ident ∷ [];
  made = (field [] (named (plain any_ident)) [] 0, 0);
  stands = λ tail. (1, g.embedded 1 (t.Ident any_ident ∷ tail) (named (plain any_ident)) tail [] tail (plain_stands any_ident tail) (none tail));
}

-- ---- none of them stands of no tokens

pub no_named : (m : ℕ) (ty : TypeExpr) (us : List Symbol) → IsNamed m [] ty us → ⊥
no_named m ty us (g.by_name n ts x vs args r a b) = no_type_name x vs a

pub no_type_of : (m : ℕ) (ty : TypeExpr) (us : List Symbol) → IsType m [] ty us → ⊥
no_type_of m ty us (g.name n ts z r a) = no_named n ty us a

pub no_type_here : (x : Fit TypeExpr) (us : List Symbol) → TypeAt [] x us → ⊥
no_type_here x us w = no_type_of w.0 x.0 us w.1

pub no_literal_of : (m : ℕ) (token : Token) (us : List Symbol) (ty : TypeExpr) (rest : List Symbol) → IsType m (t.Literal token ∷ us) ty rest → ⊥
no_literal_of m token us ty rest (g.name n ts z r (g.by_name k vs x ws args r' a b)) = elim a [ ]

-- no type begins with a literal
pub no_literal : (token : Token) (us : List Symbol) (x : Fit TypeExpr) (rest : List Symbol) → TypeAt (t.Literal token ∷ us) x rest → ⊥
no_literal token us x rest w = no_literal_of w.0 token us x.0 rest w.1

pub no_field : (m : ℕ) (f : FieldExpr) (us : List Symbol) → IsField m [] f us → ⊥
no_field m f us (g.shared n i names ts vs ty ws tag rest a b c) = no_names (i ∷ names) vs a
no_field m f us (g.embedded n ts ty vs tag rest a b) = no_named n ty vs a

no_param_of : (w v f : Bool) (m : ℕ) (x : ParamExpr) (us : List Symbol) → IsParam w v f m [] x us → ⊥
no_param_of w v f m x us (g.unnamed v' n ts ty rest a) = no_type_of n ty us a
no_param_of w v f m x us (g.sharing v' n i names ts vs ty rest a b) = no_names (i ∷ names) vs a

pub no_param : (w v : Bool) (x : Param) (us : List Symbol) → ParamAt w v [] x us → ⊥
no_param w v x us p = no_param_of w v x.last p.0 x.expr us p.1

no_term_of : (m : ℕ) (x : TermExpr) (us : List Symbol) → IsTerm m [] x us → ⊥
no_term_of m x us (g.exactly n ts ty rest a) = no_type_of n ty us a

pub no_term : (x : Fit TermExpr) (us : List Symbol) → TermAt [] x us → ⊥
no_term x us w = no_term_of w.0 x.0 us w.1

no_union_of : (m : ℕ) (x : TypeExpr) (us : List Symbol) → IsUnion m [] x us → ⊥
no_union_of m x us (g.alone n ts ty rest a) = no_type_of n ty us a
no_union_of m x us (g.several k n b ts vs x' xs rest a c) = no_term_of k x' (t.Bar b ∷ vs) a

no_union_literal_of : (m : ℕ) (token : Token) (us : List Symbol) (ty : TypeExpr) (rest : List Symbol) → IsUnion m (t.Literal token ∷ us) ty rest → ⊥
no_union_literal_of m token us ty rest (g.alone n ts z r a) = no_literal_of n token us z r a
no_union_literal_of m token us ty rest (g.several k n b ts vs x xs r (g.exactly j ts' z r' a) c) = no_literal_of j token us z r' a

pub no_union_literal : (token : Token) (us : List Symbol) (x : Fit TypeExpr) (rest : List Symbol) → UnionAt (t.Literal token ∷ us) x rest → ⊥
no_union_literal token us x rest w = no_union_literal_of w.0 token us x.0 rest w.1

pub no_union : (x : Fit TypeExpr) (us : List Symbol) → UnionAt [] x us → ⊥
no_union x us w = no_union_of w.0 x.0 us w.1

no_elem_of : (m : ℕ) (x : ElemExpr) (us : List Symbol) → IsElem m [] x us → ⊥
no_elem_of m x us (g.embeds n ts ty rest a) = no_union_of n ty us a

pub no_elem_here : (x : Fit ElemExpr) (us : List Symbol) → ElemAt [] x us → ⊥
no_elem_here x us w = no_elem_of w.0 x.0 us w.1

-- ---- what is read, with its place

abbrev pub Placed : {X : Type 0} → (List Symbol → X → List Symbol → Type 0) → List Symbol → X × ℕ → List Symbol → Type 0
Placed F ts x rest = F ts x.0 rest × (x.1 ≡ start_of ts)

start_front : {X : Type 0} (F : List Symbol → X → List Symbol → Type 0) (x : X) (front : List Symbol) → ((z : X) (us : List Symbol) → F [] z us → ⊥) → ((tail : List Symbol) → F (front ++ tail) x tail)
    → (a b : List Symbol) → start_of (front ++ a) ≡ start_of (front ++ b)
start_front F x [] never h a b = absurd (never x [] (h []))
start_front F x (k ∷ front) never h a b = refl

abbrev placed_as : {X : Type 0} → X → List Symbol → ℕ → Reply (X × ℕ)
placed_as x r at = Ok ((x, at), r)

abbrev place_by : {X : Type 0} → ℕ → Reply X → Reply (X × ℕ)
place_by at reply = reply >>= λ x. Ok ((x.0, at), x.1)

start_next : (front : List Symbol) (k : Symbol) (a b : List Symbol) → start_of (front ++ k ∷ a) ≡ start_of (front ++ k ∷ b)
start_next [] k a b = refl
start_next (j ∷ front) k a b = refl

-- a call begins no earlier than behind the first token, where none of F begins with a literal
placed_called : {X : Type 0} (F : List Symbol → X → List Symbol → Type 0) → ((token : Token) (us : List Symbol) (x : X) (rest : List Symbol) → F (t.Literal token ∷ us) x rest → ⊥) → (at : ℕ) (us : List Symbol) (x : X) (rest : List Symbol) → Called F at us x rest
    → Called (Placed F) at us (x, start_of us) rest
placed_called F literally at us x rest h = at_front h.before h.split h.stands
  where
    at_front : (before : List Symbol) → us ≡ before ++ h.call → F (before ++ t.Literal h.literal ∷ h.after) x rest → Called (Placed F) at us (x, start_of us) rest
    at_front [] split w = absurd (literally h.literal h.after x rest w)
    at_front (j ∷ before) split w = record { before = j ∷ before; call = h.call; after = h.after; literal = h.literal; split = split; calls = h.calls; stands = (w, ap start_of split) }

placed_goes : {X : Type 0} (F : List Symbol → X → List Symbol → Type 0) (front rest : List Symbol) → ((token : Token) (us : List Symbol) (x : X) (r : List Symbol) → F (t.Literal token ∷ us) x r → ⊥) → (f : Fault) → Goes f (going F) front rest → Goes f (going (Placed F)) front rest
placed_goes F front rest literally (Unexpected k) h = tt
placed_goes F front rest literally (Deep k began) h = record {
  next = h.next;
  comes = h.comes;
  beyond = h.beyond;
  formed = (h.formed, start_of (front ++ h.next ∷ []));
  goes = λ tail. (h.goes tail, start_next front h.next [] (h.beyond ++ tail));
}
placed_goes F front rest literally (DotImport k) h = record {
  next = h.next;
  comes = h.comes;
  beyond = h.beyond;
  formed = (h.formed, start_of (front ++ h.next ∷ []));
  goes = λ tail. (h.goes tail, start_next front h.next [] (h.beyond ++ tail));
}
placed_goes F front rest literally (Call k at) h = record {
  next = h.next;
  comes = h.comes;
  beyond = h.beyond;
  formed = (h.formed, start_of (front ++ h.next ∷ []));
  goes = λ tail.
      subst (λ place. Called (Placed F) at (front ++ (h.next ∷ (h.beyond ++ tail))) (h.formed, place) tail) (sym (start_next front h.next [] (h.beyond ++ tail)))
      (placed_called F literally at (front ++ (h.next ∷ (h.beyond ++ tail))) h.formed tail (h.goes tail));
}

pub placed_reads : {X : Type 0} (F : List Symbol → X → List Symbol → Type 0) (p : List Symbol → Reply X) (ts : List Symbol) → ((z : X) (us : List Symbol) → F [] z us → ⊥)
    → ((token : Token) (us : List Symbol) (x : X) (rest : List Symbol) → F (t.Literal token ∷ us) x rest → ⊥) → (reply : Reply X) → ReadsAt F p ts reply → ReadsAt (Placed F) (placed p) ts (place_by (start_of ts) reply)
placed_reads F p ts never literally (Ok z) h = record {
  front = h.front;
  split = h.split;
  stands = λ tail. (h.stands tail, ap start_of h.split ∙ start_front F z.0 h.front never h.stands z.1 tail);
  stays = λ r e. ap (place_by (start_of (h.front ++ r))) (h.stays r e) ∙ ap (placed_as z.0 r) (start_front F z.0 h.front never h.stands r z.1 ∙ sym (ap start_of h.split));
}
placed_reads F p ts never literally (Err f) h =
    let whole : (tail : List Symbol) → F ((h.front ++ h.more) ++ tail) h.made tail = λ tail. rw append_assoc (h.completes tail) in
    record {
      front = h.front;
      rest = h.rest;
      split = h.split;
      place = h.place;
      stays = λ r e. ap (place_by (start_of (h.front ++ r))) (h.stays r e);
      more = h.more;
      made = (h.made, start_of ((h.front ++ h.more) ++ []));
      completes = λ tail. (h.completes tail, start_front F h.made (h.front ++ h.more) never whole [] tail ∙ ap start_of (append_assoc h.front h.more tail));
      met = placed_goes F h.front h.rest literally f h.met;
    }

-- what a reader of types does after a first token, where a node is left for the type
pub record Begun (n : ℕ) (inner : List Symbol → Reply (Fit TypeExpr)) : Type 0 where
  pub ident : (i : Ident) (ts : List Symbol) → (n ≡ 0 → ⊥) → ReadsAt (Behind (t.Ident i) NamedAt) (λ us. inner (t.Ident i ∷ us)) ts (inner (t.Ident i ∷ ts))
  pub star : (at : ℕ) (ts : List Symbol) → (n ≡ 0 → ⊥) → ReadsAt (Behind (t.Star at) TypeAt) (λ us. inner (t.Star at ∷ us)) ts (inner (t.Star at ∷ ts))
