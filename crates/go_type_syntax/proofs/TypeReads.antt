-- What the reader of types does.
use Rattle.std.proofs.Common.{◌≡◌, ℕ, zero, suc, max, min, Bool, true, false, List, [], ◌∷◌, Ok, refl, sym, ap, ◌∙◌, ◌-◌, arith}
use Rattle.go_expr_syntax.specs.declared.symbols.Symbol.{Symbol}
use Rattle.go_expr_syntax.specs.declared.symbols.Symbol.TheVariants as t
use Rattle.go_type_syntax.specs.declared.tree.TypeExpr.{TypeExpr}
use Rattle.go_type_syntax.specs.declared.tree.TypeExpr.TheVariants as y
use Rattle.go_expr_syntax.specs.Reading.{Reply, unexpected, too_deep, starts, begins_type, is_arrow, is_chan, is_close_paren, is_open_bracket, is_close_bracket, is_open_brace, Fit, from_start}
use Rattle.go_expr_syntax.specs.Names.{plain}
use Rattle.go_type_syntax.specs.Grammar as g
use Rattle.go_type_syntax.specs.Grammar.{named, IsType}
use Rattle.go_expr_syntax.specs.Operands.{expr_at}
use Rattle.go_type_syntax.specs.Params.{param_at, sig_at}
use Rattle.go_type_syntax.specs.Elements.{name_by, term_at, elem_at, elems_at, interface_inside, interface_by}
use Rattle.go_type_syntax.specs.Types.{with_type, paren_end, paren_by, array_item, array_end, array_by, bracket_by, map_value, map_end, map_inside, map_by, chan_by, receive_by, func_by, field_by, fields_at, struct_inside, struct_by, type_by, no_type, readers, type_at, lower_at}
use Rattle.go_expr_syntax.proofs.Viable.{ReadsAt, Behind, Past, After, done_reads, refuse_next, refuse_end, cons_reads, past_reads, choose_reads, peek_reads, stuck_reads, deep_reads, bind_reads, value_reads, only_reads, starts_same, from_start_reads, told_by_reads}
use Rattle.go_expr_syntax.proofs.Marks.{arrow, chan, close_paren, open_bracket, close_bracket, open_brace}
use Rattle.go_expr_syntax.proofs.NameReads.{any_ident}
use Rattle.go_type_syntax.proofs.Standing.{no_literal, type_begun_by, name_stands, Begun, NamedAt, TypeAt, FieldAt, FieldsAt, ParamAt, SigAt, TermAt, ElemAt, ElemsAt, some_type, no_type_of, no_field, no_param, no_term, no_elem_here}
use Rattle.go_type_syntax.proofs.ParamReads.{ReadsTypes, param_reads, sig_reads}
use Rattle.go_type_syntax.proofs.ElemReads.{ClosedElem, named_reads, name_reads, term_reads, elem_reads, elems_read}
use Rattle.go_expr_syntax.proofs.OperandReads.{ExprAt}
use Rattle.go_expr_syntax.proofs.ExprReads.{expr_reads}
use Rattle.go_type_syntax.proofs.FieldReads.{ClosedField, field_reads, fields_read}
use Rattle.go_expr_syntax.proofs.Rows.{Eats, eats_of, eats_on}

paren_reads : (inner : List Symbol → Reply (Fit TypeExpr)) → ((us : List Symbol) → ReadsAt TypeAt inner us (inner us)) → (at : ℕ) (ts : List Symbol) → ReadsAt (Behind (t.OpenParen at) TypeAt) (paren_by inner at) ts (paren_by inner at ts)
paren_reads inner h at ts =
    bind_reads TypeAt (Behind (t.OpenParen at) TypeAt) inner (paren_end at) ts
    (λ ty. record { tokens = t.CloseParen 0 ∷ []; made = (y.Paren ty.0 at, ty.1); stands = λ tail us w. (suc w.0, g.paren w.0 at 0 us ty.0 tail w.1) })
    (λ ty us o. past_reads is_close_paren (After TypeAt (Behind (t.OpenParen at) TypeAt) ty) close_paren (λ rest. Ok ((y.Paren ty.0 at, ty.1), rest)) us
    (record { tokens = []; made = (y.Paren ty.0 at, ty.1); stands = λ tail c vs w. (suc w.0, g.paren w.0 at c vs ty.0 tail w.1) })
    (λ k vs e. done_reads (Past close_paren (After TypeAt (Behind (t.OpenParen at) TypeAt) ty)) (λ rest. Ok ((y.Paren ty.0 at, ty.1), rest)) vs (y.Paren ty.0 at, ty.1) (λ tail c ws w. (suc w.0, g.paren w.0 at c ws ty.0 tail w.1)) (λ r e'. refl)))
    (inner ts) (h ts)

array_reads : (n : ℕ) (inner : List Symbol → Reply (Fit TypeExpr)) → ((us : List Symbol) → ReadsAt TypeAt inner us (inner us)) → (at : ℕ) (ts : List Symbol) → ReadsAt (Behind (t.OpenBracket at) TypeAt) (array_by n inner at) ts (array_by n inner at ts)
array_reads n inner h at ts =
    bind_reads (ExprAt 5) (Behind (t.OpenBracket at) TypeAt) (expr_at n) (array_end inner at) ts
    (λ z. record {
      tokens = t.CloseBracket 0 ∷ t.Ident any_ident ∷ [];
      made = (y.Array (z.0).expr (named (plain any_ident)) at, 0);
      stands = λ tail us w. (suc (max w.0 1), g.array w.0 1 at 0 us z.0 (t.Ident any_ident ∷ tail) (named (plain any_ident)) tail w.1 (name_stands any_ident tail));
    })
    (λ z us o. past_reads is_close_bracket (After (ExprAt 5) (Behind (t.OpenBracket at) TypeAt) z) close_bracket (array_item inner at z) us
    (record {
      tokens = t.Ident any_ident ∷ [];
      made = (y.Array (z.0).expr (named (plain any_ident)) at, 0);
      stands = λ tail c vs w. (suc (max w.0 1), g.array w.0 1 at c vs z.0 (t.Ident any_ident ∷ tail) (named (plain any_ident)) tail w.1 (name_stands any_ident tail));
    })
    (λ k vs e. value_reads TypeAt (Past close_bracket (After (ExprAt 5) (Behind (t.OpenBracket at) TypeAt) z)) inner (λ ty. (y.Array (z.0).expr ty.0 at, min z.1 ty.1)) vs
    (λ ws ty rest v c us' w. (suc (max w.0 v.0), g.array w.0 v.0 at c us' z.0 ws ty.0 rest w.1 v.1)) (inner vs) (h vs)))
    (expr_at n ts) (expr_reads n 5 ts)

bracket_reads : (n : ℕ) (inner : List Symbol → Reply (Fit TypeExpr)) → ((us : List Symbol) → ReadsAt TypeAt inner us (inner us)) → (at : ℕ) (ts : List Symbol)
    → ReadsAt (Behind (t.OpenBracket at) TypeAt) (bracket_by n inner at) ts (bracket_by n inner at ts)
bracket_reads n inner h at ts =
    choose_reads is_close_bracket (Behind (t.OpenBracket at) TypeAt) close_bracket (with_type inner (λ ty. y.Slice ty at)) (array_by n inner at) ts
    (λ us. value_reads TypeAt (Past close_bracket (Behind (t.OpenBracket at) TypeAt)) inner (λ ty. (y.Slice ty.0 at, ty.1)) us (λ vs ty rest w c. (suc w.0, g.slice w.0 at c vs ty.0 rest w.1)) (inner us) (h us))
    (λ e. array_reads n inner h at ts)

map_reads : (inner : List Symbol → Reply (Fit TypeExpr)) → ((us : List Symbol) → ReadsAt TypeAt inner us (inner us)) → (at : ℕ) (ts : List Symbol) → ReadsAt (Behind (t.Map at) TypeAt) (map_by inner at) ts (map_by inner at ts)
map_reads inner h at ts =
    past_reads is_open_bracket (Behind (t.Map at) TypeAt) open_bracket (map_inside inner at) ts
    (let s = some_type in record {
      tokens = t.Ident any_ident ∷ t.CloseBracket 0 ∷ t.Ident any_ident ∷ [];
      made = (y.MapOf (named (plain any_ident)) (named (plain any_ident)) at, 0);
      stands = λ tail b. (
        2,
        g.map_of 1 1 at b 0 _ (named (plain any_ident)) (t.Ident any_ident ∷ tail) (named (plain any_ident)) tail
            (name_stands any_ident (t.CloseBracket 0 ∷ t.Ident any_ident ∷ tail)) (name_stands any_ident tail),
      );
    })
    (λ k us e. bind_reads TypeAt (Past open_bracket (Behind (t.Map at) TypeAt)) inner (map_end inner at) us
    (λ key. record {
      tokens = t.CloseBracket 0 ∷ t.Ident any_ident ∷ [];
      made = (y.MapOf key.0 (named (plain any_ident)) at, 0);
      stands = λ tail vs w b. (suc (max w.0 1), g.map_of w.0 1 at b 0 vs key.0 (t.Ident any_ident ∷ tail) (named (plain any_ident)) tail w.1 (name_stands any_ident tail));
    })
    (λ key vs o. past_reads is_close_bracket (After TypeAt (Past open_bracket (Behind (t.Map at) TypeAt)) key) close_bracket (map_value inner at key) vs
    (record {
      tokens = t.Ident any_ident ∷ [];
      made = (y.MapOf key.0 (named (plain any_ident)) at, 0);
      stands = λ tail c ws w b. (suc (max w.0 1), g.map_of w.0 1 at b c ws key.0 (t.Ident any_ident ∷ tail) (named (plain any_ident)) tail w.1 (name_stands any_ident tail));
    })
    (λ k' ws e'. value_reads TypeAt (Past close_bracket (After TypeAt (Past open_bracket (Behind (t.Map at) TypeAt)) key)) inner (λ ty. (y.MapOf key.0 ty.0 at, min key.1 ty.1)) ws
    (λ xs ty rest v c ys w b. (suc (max w.0 v.0), g.map_of w.0 v.0 at b c ys key.0 xs ty.0 rest w.1 v.1)) (inner ws) (h ws)))
    (inner us) (h us))

abbrev Sends : List Symbol → Fit TypeExpr → List Symbol → Type 0
Sends ts ty rest = (m : ℕ) × IsType m ts ty.0 rest × (starts is_arrow ts ≡ false)

chan_reads : (inner : List Symbol → Reply (Fit TypeExpr)) → ((us : List Symbol) → ReadsAt TypeAt inner us (inner us)) → (at : ℕ) (ts : List Symbol) → ReadsAt (Behind (t.Chan at) TypeAt) (chan_by inner at) ts (chan_by inner at ts)
chan_reads inner h at ts =
    choose_reads is_arrow (Behind (t.Chan at) TypeAt) arrow (with_type inner (λ ty. y.Chan false true ty at)) (with_type inner (λ ty. y.Chan true true ty at)) ts
    (λ us. value_reads TypeAt (Past arrow (Behind (t.Chan at) TypeAt)) inner (λ ty. (y.Chan false true ty.0 at, ty.1)) us (λ vs ty rest w b. (suc w.0, g.send_only w.0 at b vs ty.0 rest w.1)) (inner us) (h us))
    (λ e. value_reads Sends (Behind (t.Chan at) TypeAt) inner (λ ty. (y.Chan true true ty.0 at, ty.1)) ts (λ vs ty rest w. (suc w.0, g.both_ways w.0 at vs ty.0 rest w.2 w.1)) (inner ts)
    (only_reads TypeAt Sends inner ts
    (λ k us ty rest a w. (w.0, w.1, sym (starts_same is_arrow ts (k ∷ []) a) ∙ e))
    (λ ty us w. no_type_of w.0 ty.0 us w.1) no_literal
    (record { tokens = t.Ident any_ident ∷ []; made = (named (plain any_ident), 0); stands = λ tail. (1, name_stands any_ident tail, refl) })
    (inner ts) (h ts)))

receive_reads : (inner : List Symbol → Reply (Fit TypeExpr)) → ((us : List Symbol) → ReadsAt TypeAt inner us (inner us)) → (at : ℕ) (ts : List Symbol) → ReadsAt (Behind (t.Arrow at) TypeAt) (receive_by inner at) ts (receive_by inner at ts)
receive_reads inner h at ts =
    past_reads is_chan (Behind (t.Arrow at) TypeAt) chan (with_type inner (λ ty. y.Chan true false ty at)) ts
    (record { tokens = t.Ident any_ident ∷ []; made = (y.Chan true false (named (plain any_ident)) at, 0); stands = λ tail b. (2, g.receive_only 1 at b _ (named (plain any_ident)) tail (name_stands any_ident tail)) })
    (λ k us e. value_reads TypeAt (Past chan (Behind (t.Arrow at) TypeAt)) inner (λ ty. (y.Chan true false ty.0 at, ty.1)) us (λ vs ty rest w b. (suc w.0, g.receive_only w.0 at b vs ty.0 rest w.1)) (inner us) (h us))

struct_reads : (n : ℕ) (inner : List Symbol → Reply (Fit TypeExpr)) → ((us : List Symbol) → ReadsAt TypeAt inner us (inner us)) → Begun n inner → (at : ℕ) (ts : List Symbol) → ReadsAt (Behind (t.Struct at) TypeAt) (struct_by n inner at) ts (struct_by n inner at ts)
struct_reads n inner h d at ts =
    past_reads is_open_brace (Behind (t.Struct at) TypeAt) open_brace (struct_inside n inner at) ts
    (record { tokens = t.CloseBrace 0 ∷ []; made = (y.Struct [] at, 0); stands = λ tail b. (1, g.struct 0 at b _ [] tail (g.none 0 tail)) })
    (λ k us e. value_reads FieldsAt (Past open_brace (Behind (t.Struct at) TypeAt)) (fields_at n inner) (λ fields. (y.Struct fields.0 at, fields.1)) us
    (λ vs fields rest w b. (suc w.0, g.struct w.0 at b vs fields.0 rest w.1)) (fields_at n inner us) (fields_read n inner h d us))

func_reads : (n : ℕ) (inner : List Symbol → Reply (Fit TypeExpr)) → ReadsTypes inner → Begun n inner → (at : ℕ) (ts : List Symbol) → ReadsAt (Behind (t.Func at) TypeAt) (func_by n inner at) ts (func_by n inner at ts)
func_reads n inner h d at ts = value_reads SigAt (Behind (t.Func at) TypeAt) (sig_at n inner) (λ x. (y.Func x.0 at, x.1)) ts (λ us x rest w. (suc w.0, g.func w.0 at us x.0 rest w.1)) (sig_at n inner ts) (sig_reads n inner h d ts)

interface_reads : (n : ℕ) (inner lower : List Symbol → Reply (Fit TypeExpr)) → ReadsTypes inner → Begun n inner → ReadsTypes lower → (at : ℕ) (ts : List Symbol)
    → ReadsAt (Behind (t.Interface at) TypeAt) (interface_by n inner lower at) ts (interface_by n inner lower at ts)
interface_reads n inner lower h d l at ts =
    past_reads is_open_brace (Behind (t.Interface at) TypeAt) open_brace (interface_inside n inner lower at) ts
    (record { tokens = t.CloseBrace 0 ∷ []; made = (y.Interface [] at, 0); stands = λ tail b. (1, g.interface 0 at b _ [] tail (g.no_elem 0 tail)) })
    (λ k us e. value_reads ElemsAt (Past open_brace (Behind (t.Interface at) TypeAt)) (elems_at n inner lower) (λ es. (y.Interface es.0 at, es.1)) us
    (λ vs es rest w b. (suc w.0, g.interface w.0 at b vs es.0 rest w.1)) (elems_at n inner lower us) (elems_read n inner lower h d l us))

pointer_reads : (inner : List Symbol → Reply (Fit TypeExpr)) → ReadsTypes inner → (at : ℕ) (ts : List Symbol) → ReadsAt (Behind (t.Star at) TypeAt) (with_type inner (λ ty. y.Pointer ty at)) ts (with_type inner (λ ty. y.Pointer ty at) ts)
pointer_reads inner h at ts = value_reads TypeAt (Behind (t.Star at) TypeAt) inner (λ ty. (y.Pointer ty.0 at, ty.1)) ts (λ us ty rest w. (suc w.0, g.pointer w.0 at us ty.0 rest w.1)) (inner ts) (h ts)

type_step : (n : ℕ) (inner lower : List Symbol → Reply (Fit TypeExpr)) → ReadsTypes inner → Begun n inner → ReadsTypes lower → (ts : List Symbol) → ReadsAt TypeAt (type_by n inner lower) ts (type_by n inner lower ts)
type_step n inner lower h d l [] = refuse_end TypeAt (type_by n inner lower) some_type refl
type_step n inner lower h d l (t.Ident i ∷ ts) = cons_reads TypeAt (type_by n inner lower) (name_by n inner i) (t.Ident i) ts (name_by n inner i ts) (λ r. refl) (name_reads n inner h i ts)
type_step n inner lower h d l (t.OpenParen at ∷ ts) = cons_reads TypeAt (type_by n inner lower) (paren_by inner at) (t.OpenParen at) ts (paren_by inner at ts) (λ r. refl) (paren_reads inner h at ts)
type_step n inner lower h d l (t.Star at ∷ ts) =
    cons_reads TypeAt (type_by n inner lower) (with_type inner (λ ty. y.Pointer ty at)) (t.Star at) ts (with_type inner (λ ty. y.Pointer ty at) ts) (λ r. refl) (pointer_reads inner h at ts)
type_step n inner lower h d l (t.OpenBracket at ∷ ts) = cons_reads TypeAt (type_by n inner lower) (bracket_by n inner at) (t.OpenBracket at) ts (bracket_by n inner at ts) (λ r. refl) (bracket_reads n inner h at ts)
type_step n inner lower h d l (t.Map at ∷ ts) = cons_reads TypeAt (type_by n inner lower) (map_by inner at) (t.Map at) ts (map_by inner at ts) (λ r. refl) (map_reads inner h at ts)
type_step n inner lower h d l (t.Chan at ∷ ts) = cons_reads TypeAt (type_by n inner lower) (chan_by inner at) (t.Chan at) ts (chan_by inner at ts) (λ r. refl) (chan_reads inner h at ts)
type_step n inner lower h d l (t.Arrow at ∷ ts) = cons_reads TypeAt (type_by n inner lower) (receive_by inner at) (t.Arrow at) ts (receive_by inner at ts) (λ r. refl) (receive_reads inner h at ts)
type_step n inner lower h d l (t.Func at ∷ ts) = cons_reads TypeAt (type_by n inner lower) (func_by n inner at) (t.Func at) ts (func_by n inner at ts) (λ r. refl) (func_reads n inner h d at ts)
type_step n inner lower h d l (t.Struct at ∷ ts) = cons_reads TypeAt (type_by n inner lower) (struct_by n inner at) (t.Struct at) ts (struct_by n inner at ts) (λ r. refl) (struct_reads n inner h d at ts)
type_step n inner lower h d l (t.Interface at ∷ ts) = cons_reads TypeAt (type_by n inner lower) (interface_by n inner lower at) (t.Interface at) ts (interface_by n inner lower at ts) (λ r. refl) (interface_reads n inner lower h d l at ts)
type_step n inner lower h d l (k ∷ ts) = refuse_next TypeAt (type_by n inner lower) k ts some_type (λ r. refl)

no_type_reads : (ts : List Symbol) → ReadsAt TypeAt no_type ts (no_type ts)
no_type_reads ts = peek_reads TypeAt begins_type too_deep unexpected ts (λ s. deep_reads TypeAt begins_type ts some_type type_begun_by s) (λ s. stuck_reads TypeAt ts some_type)

pub record BothRead (n : ℕ) : Type 0 where
  pub here : ReadsTypes (type_at n)
  pub below : ReadsTypes (lower_at n)
  pub begun : Begun n (type_at n)

both_read : (n : ℕ) → BothRead n
unfolding readers
both_read zero = record { here = no_type_reads; below = no_type_reads; begun = record { ident = λ i ts e. absurd (e refl); star = λ at ts e. absurd (e refl) } }
both_read (suc n) =
    let o = both_read n in
    record {
      here = λ ts. from_start_reads TypeAt (type_by n (type_at n) (lower_at n)) ts (type_by n (type_at n) (lower_at n) ts) (type_step n (type_at n) (lower_at n) o.here o.begun o.below ts);
      below = o.here;
      begun = record {
        ident = λ i ts e. told_by_reads (Behind (t.Ident i) NamedAt) (name_by n (type_at n) i) ts i.start (name_by n (type_at n) i ts) (named_reads n (type_at n) o.here i ts);
        star = λ at ts e.
            told_by_reads (Behind (t.Star at) TypeAt) (with_type (type_at n) (λ ty. y.Pointer ty at)) ts at (with_type (type_at n) (λ ty. y.Pointer ty at) ts) (pointer_reads (type_at n) o.here at ts);
      };
    }

pub type_begun : (n : ℕ) → Begun n (type_at n)
type_begun n = (both_read n).begun

pub type_reads : (n : ℕ) (ts : List Symbol) → ReadsAt TypeAt (type_at n) ts (type_at n ts)
type_reads n ts = (both_read n).here ts

pub lower_reads : (n : ℕ) (ts : List Symbol) → ReadsAt TypeAt (lower_at n) ts (lower_at n ts)
lower_reads n ts = (both_read n).below ts

-- ---- each item takes a token

pub field_eats : (n : ℕ) → Eats (field_by n (type_at n))
field_eats n = eats_on FieldAt ClosedField (field_by n (type_at n)) (λ x us w. no_field w.0 x.0 us w.1) (field_reads n (type_at n) (type_reads n) (type_begun n))

pub param_eats : (w v : Bool) (n : ℕ) → Eats (param_at w v (type_at n))
param_eats w v n = eats_of (ParamAt w v) (param_at w v (type_at n)) (no_param w v) (param_reads w v (type_at n) (type_reads n))

pub term_eats : (n : ℕ) → Eats (term_at (lower_at n))
term_eats n = eats_of TermAt (term_at (lower_at n)) no_term (term_reads (lower_at n) (lower_reads n))

pub elem_eats : (n : ℕ) → Eats (elem_at n (type_at n) (lower_at n))
elem_eats n = eats_on ElemAt ClosedElem (elem_at n (type_at n) (lower_at n)) no_elem_here (elem_reads n (type_at n) (lower_at n) (type_reads n) (type_begun n) (lower_reads n))

-- ---- with a node left or not

pub type_none : (n : ℕ) (ts : List Symbol) → n ≡ 0 → type_at n ts ≡ no_type ts
unfolding readers
type_none zero ts e = refl
type_none (suc n) ts e = absurd (omega arith)

less_one : (n : ℕ) → suc n - 1 ≡ n
less_one n = omega arith

pub type_some : (n : ℕ) (ts : List Symbol) → (n ≡ 0 → ⊥) → type_at n ts ≡ from_start (type_by (n - 1) (type_at (n - 1)) (lower_at (n - 1))) ts
unfolding readers
type_some zero ts e = absurd (e refl)
type_some (suc n) ts e = ap (λ m. from_start (type_by m (type_at m) (lower_at m)) ts) (sym (less_one n))

pub lower_none : (n : ℕ) (ts : List Symbol) → n ≡ 0 → lower_at n ts ≡ no_type ts
unfolding readers
lower_none zero ts e = refl
lower_none (suc n) ts e = absurd (omega arith)

pub lower_is : (n : ℕ) (ts : List Symbol) → (n ≡ 0 → ⊥) → lower_at n ts ≡ type_at (n - 1) ts
unfolding readers
lower_is zero ts e = absurd (e refl)
lower_is (suc n) ts e = ap (λ m. type_at m ts) (sym (less_one n))
