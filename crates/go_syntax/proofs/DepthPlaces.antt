-- A path that is too long is told at the first token of what it is in, and there each that goes on so has one.
use Rattle.std.proofs.Common.{◌≡◌, ℕ, zero, suc, ◌<◌, ◌-◌, List, [], ◌∷◌, ◌++◌, length, Some, None, Ok, Err, refl, ap, subst, ◌∙◌, arith}
use Rattle.go_expr_syntax.specs.declared.symbols.Symbol.{Symbol}
use Rattle.go_expr_syntax.specs.declared.symbols.Symbol.TheVariants as t
use Rattle.go_expr_syntax.specs.declared.faults.Fault.TheVariants.{Unexpected, Deep, DotImport, Call}
use Rattle.go_type_syntax.specs.declared.tree.TypeExpr.{TypeExpr}
use Rattle.go_expr_syntax.specs.Reading.{Reply, Fit, start_of, told_at}
use Rattle.go_expr_syntax.specs.Expressions.{IsExpr}
use Rattle.go_expr_syntax.specs.Operands.{expr_at, outer_expr}
use Rattle.go_type_syntax.specs.Grammar.{IsType, IsUnion}
use Rattle.go_type_syntax.specs.Elements.{union_at}
use Rattle.go_type_syntax.specs.Types.{no_type, readers, type_by, type_at, lower_at}
use Rattle.go_syntax.specs.Generics.{constraint_at}
use Rattle.go_syntax.specs.Outcomes.{IsDeepFrom}
use Rattle.go_expr_syntax.proofs.Viable.{ahead, ReadNot, ReadsAt, from_start_reads}
use Rattle.go_expr_syntax.proofs.Agreeing.{Agrees, sized, told_again}
use Rattle.go_expr_syntax.proofs.ExprReads.{expr_reads}
use Rattle.go_expr_syntax.proofs.ExprAgain.{expr_again}
use Rattle.go_type_syntax.proofs.ElemReads.{union_reads}
use Rattle.go_type_syntax.proofs.TypeReads.{type_reads, lower_reads}
use Rattle.go_type_syntax.proofs.TypeAgain.{type_again, union_again}

-- ---- where it is told

abbrev deep : {X : Type 0} → ℕ → ℕ → Reply X
deep k at = Err (Deep k at)

told_there : {X : Type 0} (place left at : ℕ) (r : Reply X) → told_at place r ≡ deep left at → at ≡ place
told_there place left at (Ok z) e = absurd cc
told_there place left at (Err (Unexpected k)) e = absurd cc
told_there {X} place left at (Err (Deep k began)) e = let same : deep {X = X} k place ≡ deep left at = e in cc
told_there place left at (Err (DotImport k)) e = absurd cc
told_there place left at (Err (Call k c)) e = absurd cc

-- ---- what is there

module _ {X : Type 0} (F : ℕ → List Symbol → X → List Symbol → Type 0) (n : ℕ) (p : List Symbol → Reply (Fit X)) (again : (m : ℕ) (ts : List Symbol) (x : X) → F m ts x [] → Agrees n m (sized n m x) [] (p ts)) where
  abbrev Of : List Symbol → Fit X → List Symbol → Type 0
  Of us x r = (m : ℕ) × F m us x.0 r

  clash : (m k began : ℕ) (x : X) (r : Reply (Fit X)) → r ≡ deep k began → Agrees n m (sized n m x) [] r → n < m
  clash m k began x r e h = subst (Agrees n m (sized n m x) []) e h

  deep_at : (ts : List Symbol) (left at : ℕ) → at ≡ start_of ts → (h : ReadNot Of p ts (Deep left at)) → (rest : List Symbol) → h.rest ≡ rest → IsDeepFrom F n ts left at
  deep_at ts left at place h [] e = let c : ahead h.rest ≡ Some h.met.next = h.met.comes in let d : ahead h.rest ≡ None = ap ahead e in absurd cc
  deep_at ts left at place h (k ∷ us) e =
      let c : ahead h.rest ≡ Some h.met.next = h.met.comes in
      let d : ahead h.rest ≡ Some k = ap ahead e in
      let same : h.met.next ≡ k = cc in
      let far : Deep left at ≡ Deep (length h.rest) at = h.place in
      let left_is : left ≡ length h.rest = cc in
      let w = h.met.goes [] in
      record {
        front = h.front;
        next = k;
        rest = us;
        split = h.split ∙ ap (λ (vs : List Symbol). h.front ++ vs) e;
        place = left_is ∙ ap length e;
        starts = place;
        goes = (h.met.beyond ++ [], h.met.formed.0, w.0, subst (λ i. F w.0 (h.front ++ (i ∷ (h.met.beyond ++ []))) h.met.formed.0 []) same w.1);
        deeper = λ more x m v. clash m (length (k ∷ more)) at x (p (h.front ++ k ∷ more)) (h.stays (k ∷ more) d) (again m (h.front ++ k ∷ more) x v);
      }

  pub deep_from : (ts : List Symbol) (left at : ℕ) → at ≡ start_of ts → ReadsAt Of p ts (p ts) → p ts ≡ deep left at → IsDeepFrom F n ts left at
  deep_from ts left at place h e = let g : ReadNot Of p ts (Deep left at) = subst (ReadsAt Of p ts) e h in deep_at ts left at place g g.rest refl

-- ---- types, constraints and expressions

none_there : (left at : ℕ) (ts : List Symbol) → no_type ts ≡ deep left at → at ≡ start_of ts
none_there left at [] e = absurd cc
none_there left at (t.Ident i ∷ ts) e = let same : deep {X = Fit TypeExpr} (length (t.Ident i ∷ ts)) i.start ≡ deep left at = e in cc
none_there left at (t.OpenParen a ∷ ts) e = let same : deep {X = Fit TypeExpr} (length (t.OpenParen a ∷ ts)) a ≡ deep left at = e in cc
none_there left at (t.Star a ∷ ts) e = let same : deep {X = Fit TypeExpr} (length (t.Star a ∷ ts)) a ≡ deep left at = e in cc
none_there left at (t.OpenBracket a ∷ ts) e = let same : deep {X = Fit TypeExpr} (length (t.OpenBracket a ∷ ts)) a ≡ deep left at = e in cc
none_there left at (t.Map a ∷ ts) e = let same : deep {X = Fit TypeExpr} (length (t.Map a ∷ ts)) a ≡ deep left at = e in cc
none_there left at (t.Chan a ∷ ts) e = let same : deep {X = Fit TypeExpr} (length (t.Chan a ∷ ts)) a ≡ deep left at = e in cc
none_there left at (t.Arrow a ∷ ts) e = let same : deep {X = Fit TypeExpr} (length (t.Arrow a ∷ ts)) a ≡ deep left at = e in cc
none_there left at (t.Struct a ∷ ts) e = let same : deep {X = Fit TypeExpr} (length (t.Struct a ∷ ts)) a ≡ deep left at = e in cc
none_there left at (t.Func a ∷ ts) e = let same : deep {X = Fit TypeExpr} (length (t.Func a ∷ ts)) a ≡ deep left at = e in cc
none_there left at (t.Interface a ∷ ts) e = let same : deep {X = Fit TypeExpr} (length (t.Interface a ∷ ts)) a ≡ deep left at = e in cc
none_there left at (_ ∷ ts) e = absurd cc

type_there : (n left at : ℕ) (ts : List Symbol) → type_at n ts ≡ deep left at → at ≡ start_of ts
unfolding readers
type_there zero left at ts e = none_there left at ts e
type_there (suc n) left at ts e = told_there (start_of ts) left at (type_by n (readers n).here (readers n).below ts) e

pub deep_type : (n left at : ℕ) (ts : List Symbol) → type_at n ts ≡ deep left at → IsDeepFrom IsType n ts left at
deep_type n left at ts e = deep_from IsType n (type_at n) (λ m us x w. type_again m us x [] w refl n) ts left at (type_there n left at ts e) (type_reads n ts) e

pub constraint_reads : (n : ℕ) (ts : List Symbol) → ReadsAt (λ us x r. (m : ℕ) × IsUnion m us x.0 r) (constraint_at n) ts (constraint_at n ts)
constraint_reads n ts = from_start_reads (λ us x r. (m : ℕ) × IsUnion m us x.0 r) (union_at n (type_at n) (lower_at n)) ts (union_at n (type_at n) (lower_at n) ts) (union_reads n (type_at n) (lower_at n) (type_reads n) (lower_reads n) ts)

pub deep_constraint : (n left at : ℕ) (ts : List Symbol) → constraint_at n ts ≡ deep left at → IsDeepFrom IsUnion n ts left at
deep_constraint n left at ts e =
    deep_from IsUnion n (constraint_at n) (λ m us x w. told_again n m (sized n m x) [] (start_of us) (union_at n (type_at n) (lower_at n) us) (union_again m us x [] w refl refl n)) ts left at
    (told_there (start_of ts) left at (union_at n (type_at n) (lower_at n) ts) e)
    (constraint_reads n ts) e

pub deep_expr : (n left at : ℕ) (ts : List Symbol) → outer_expr n ts ≡ deep left at → IsDeepFrom (IsExpr 5) n ts left at
deep_expr n left at ts e =
    deep_from (IsExpr 5) n (outer_expr n) (λ m us x w. told_again n m (x, n - m) [] (start_of us) (expr_at n us) (expr_again m us x [] w refl (λ p. absurd (omega (arith, p))) n)) ts left at
    (told_there (start_of ts) left at (expr_at n ts) e)
    (from_start_reads (λ us x r. (m : ℕ) × IsExpr 5 m us x.0 r) (expr_at n) ts (expr_at n ts) (expr_reads n 5 ts)) e
