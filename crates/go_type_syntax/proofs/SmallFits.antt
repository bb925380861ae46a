-- What is left over in a series is no more than was left before it.
use Rattle.std.proofs.Common.{◌≡◌, ℕ, ◌≤◌, min, Bool, false, List, [], Ok, Err, refl, ap, subst, arith}
use Rattle.go_expr_syntax.specs.declared.symbols.Symbol.{Symbol}
use Rattle.go_expr_syntax.specs.Reading.{Reply, is_semicolon, is_comma, is_close_brace, is_close_bracket, series, Fit, fitting, with_fit}
use Rattle.go_type_syntax.specs.declared.tree.TypeExpr.{TypeExpr}
use Rattle.go_type_syntax.specs.Types.{field_by, fields_at, type_at, lower_at}
use Rattle.go_type_syntax.specs.Elements.{type_list, elem_at, elems_at}
use Rattle.go_expr_syntax.proofs.Viable.{ReadsOn, ReadsAt, as_on, Kind}
use Rattle.go_expr_syntax.proofs.Marks.{semicolon, comma, close_brace, close_bracket}
use Rattle.go_expr_syntax.proofs.Rows.{IsSeries, series_on, Final}
use Rattle.go_type_syntax.proofs.Standing.{TypeAt, FieldAt, ElemAt, no_type_here, no_field, no_elem_here}
use Rattle.go_type_syntax.proofs.FieldReads.{ClosedField, field_reads}
use Rattle.go_type_syntax.proofs.ElemReads.{ClosedElem, elem_reads}
use Rattle.go_type_syntax.proofs.TypeReads.{type_begun, type_reads, lower_reads}

-- what a loop keeps: no more is left over than n, and what was read with what is still read is all of it
pub record Keeps {Y : Type 0} (n k : ℕ) (read total : Reply Y) : Type 0 where
  pub small : k ≤ n
  pub same : read ≡ total

module _ {X Y : Type 0} (n : ℕ) (sep closes : Symbol → Bool) (between : Kind sep) (ending : Kind closes) (final : X → Bool) (tree : X → Y) (fit : X → ℕ) (F : List Symbol → X → List Symbol → Type 0) (one : List Symbol → Reply X) where
  abbrev Small : List Symbol → Fit (List Y) → List Symbol → Type 0
  Small ts ys rest = ys.1 ≤ n

  small_series : IsSeries (fitting n sep closes final tree fit) F Small
  small_series = record {
    between = between;
    ending = ending;
    none = λ c rest. omega arith;
    last = λ c ts x rest w. omega arith;
    more = λ s ts us x ys rest e w q. omega (arith, q);
    final = λ s c ts x rest e w. omega arith;
  }

  small_fit : (W : List Symbol → X → List Symbol → Type 0) → ((x : X) (us : List Symbol) → F [] x us → ⊥) → ((us : List Symbol) → ReadsOn F W one us (one us)) → (ts : List Symbol) (z : Fit (List Y) × List Symbol) → series (fitting n sep closes final tree fit) one ts ≡ Ok z → z.0.1 ≤ n
  small_fit W never item ts z e =
      (subst (ReadsAt Small (series (fitting n sep closes final tree fit) one) ts) e
      (series_on (fitting n sep closes final tree fit) F Small small_series one never
      (λ us. as_on F F W (Final (fitting n sep closes final tree fit) F Small small_series) one us (one us) (λ vs x r w. w) (λ vs x r w. omega arith) (item us)) ts)).stands []

abbrev as_read : {Y : Type 0} → List Y → ℕ → List Symbol → Reply (Fit (List Y))
as_read ys k rest = Ok ((ys, k), rest)

with_none : {Y : Type 0} (n : ℕ) (read : Reply (Fit (List Y))) → ((z : Fit (List Y) × List Symbol) → read ≡ Ok z → z.0.1 ≤ n) → with_fit ([], n) read ≡ read
with_none n (Ok z) h = let e : min n z.0.1 ≡ z.0.1 = omega (arith, h z refl) in ap (λ k. as_read z.0.0 k z.1) e
with_none n (Err f) h = refl

pub fields_start : (n : ℕ) (ts : List Symbol) → with_fit ([], n) (fields_at n (type_at n) ts) ≡ fields_at n (type_at n) ts
fields_start n ts =
    with_none n (fields_at n (type_at n) ts)
    (small_fit n is_semicolon is_close_brace semicolon close_brace (λ x. false) (λ x. x.0) (λ x. x.1) FieldAt (field_by n (type_at n)) ClosedField (λ x us w. no_field w.0 x.0 us w.1) (field_reads n (type_at n) (type_reads n) (type_begun n)) ts)

pub elems_start : (n : ℕ) (ts : List Symbol) → with_fit ([], n) (elems_at n (type_at n) (lower_at n) ts) ≡ elems_at n (type_at n) (lower_at n) ts
elems_start n ts =
    with_none n (elems_at n (type_at n) (lower_at n) ts)
    (small_fit n is_semicolon is_close_brace semicolon close_brace (λ x. false) (λ x. x.0) (λ x. x.1) ElemAt (elem_at n (type_at n) (lower_at n)) ClosedElem no_elem_here (elem_reads n (type_at n) (lower_at n) (type_reads n) (type_begun n) (lower_reads n)) ts)

pub types_small : (n : ℕ) (ts : List Symbol) (z : Fit (List TypeExpr) × List Symbol) → series (type_list n) (type_at n) ts ≡ Ok z → z.0.1 ≤ n
types_small n ts z e = small_fit n is_comma is_close_bracket comma close_bracket (λ x. false) (λ x. x.0) (λ x. x.1) TypeAt (type_at n) TypeAt no_type_here (type_reads n) ts z e
