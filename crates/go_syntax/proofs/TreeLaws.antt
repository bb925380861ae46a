-- Tokens are at most one file, and where they are one they have no fault.
use Rattle.std.proofs.Common.{◌≡◌, ℕ, ◌<◌, ◌≤◌, nat_le, max, Bool, true, false, List, [], ◌∷◌, ◌++◌, length, Result, Ok, refl, sym, ap, subst, ◌∙◌, append_assoc, arith}
use Rattle.std.proofs.lemmas.Bool.{leb-true, leb-false}
use Rattle.std.proofs.lemmas.List.{append-nil}
use Rattle.go_expr_syntax.specs.declared.symbols.Symbol.{Symbol}
use Rattle.go_syntax.specs.declared.tree.SourceFile.{SourceFile}
use Rattle.go_expr_syntax.specs.declared.faults.Fault.{Fault}
use Rattle.go_syntax.specs.Decls.{IsFileOf}
use Rattle.go_syntax.specs.Files.{file_at}
use Rattle.go_syntax.specs.Outcomes.{IsFile, BeginsFile, Stops, IsUnexpected, Deepens, IsTooDeep, IsLeftOut}
use Rattle.go_expr_syntax.proofs.EitherReads.{goes_further}
use Rattle.go_syntax.proofs.Laws.{is_only, as_unexpected}

abbrev found : SourceFile → Result SourceFile Fault
found f = Ok f

pub one_file : (ts : List Symbol) (m n : ℕ) (f g : SourceFile) → IsFileOf m ts f [] → IsFileOf n ts g [] → f ≡ g
one_file ts m n f g a b =
    let p : file_at (max 2 (max m n)) ts ≡ Ok f = is_only (max 2 (max m n)) m (omega arith) ts f a (omega arith) in
    let q : file_at (max 2 (max m n)) ts ≡ Ok g = is_only (max 2 (max m n)) n (omega arith) ts g b (omega arith) in
    let same : found f ≡ found g = sym p ∙ q in
    cc

-- ---- no fault of a file

stops_none : (front rest : List Symbol) (f : SourceFile) (m : ℕ) → Stops front rest → IsFileOf m (front ++ rest) f [] → ⊥
stops_none front [] f m h w = h f (m, subst (λ us. IsFileOf m us f []) (append-nil front) w)
stops_none front (k ∷ ts) f m h w = h (ts, f, (m, subst (λ us. IsFileOf m us f []) (sym (append_assoc front (k ∷ []) ts)) w))

pub no_unexpected : (ts : List Symbol) (f : SourceFile) (left : ℕ) → IsFile ts f → IsUnexpected ts left → ⊥
no_unexpected ts f left w h = stops_none h.front h.rest f w.0 h.ends (subst (λ us. IsFileOf w.0 us f []) h.split w.1)

pub no_left_out : (G : List Symbol → SourceFile → Type 0) (ts : List Symbol) (f : SourceFile) (left : ℕ) → IsFile ts f → IsLeftOut G ts left → ⊥
no_left_out G ts f left w h = no_unexpected ts f left w (as_unexpected G ts left h)

deepens_more : (n : ℕ) (front rest : List Symbol) (f : SourceFile) (m : ℕ) → Deepens n front rest → IsFileOf m (front ++ rest) f [] → n < m
deepens_more n front [] f m h w = h f m (subst (λ us. IsFileOf m us f []) (append-nil front) w)
deepens_more n front (k ∷ ts) f m h w = h ts f m w

pub no_depth : (ts : List Symbol) (f : SourceFile) (m n left : ℕ) → IsFileOf m ts f [] → IsTooDeep n ts left → n < m
no_depth ts f m n left w h = deepens_more n h.front h.rest f m h.deeper (subst (λ us. IsFileOf m us f []) h.split w)

-- ---- one place

-- tokens that begin a file go no further than where it stops
no_further : (front rest mid after other : List Symbol) → Stops front rest → rest ≡ mid ++ after → other ≡ front ++ mid → BeginsFile other → mid ≡ []
no_further front rest [] after other s e o b = refl
no_further front rest (k ∷ mid) after other s e o b =
    let whole : other ++ b.0 ≡ (front ++ (k ∷ [])) ++ (mid ++ b.0) = ap (λ (us : List Symbol). us ++ b.0) o ∙ append_assoc front (k ∷ mid) b.0 ∙ sym (append_assoc front (k ∷ []) (mid ++ b.0)) in
    let stops : Stops front (k ∷ (mid ++ after)) = subst (λ us. Stops front us) e s in
    absurd (stops (mid ++ b.0, b.1, (b.2.0, subst (λ us. IsFileOf b.2.0 us b.1 []) whole b.2.1)))

same_place : (ts : List Symbol) (left other : ℕ) (h : IsUnexpected ts left) (g : IsUnexpected ts other) → length g.rest ≤ length h.rest → left ≡ other
same_place ts left other h g le =
    let o = goes_further h.front h.rest g.front g.rest (sym h.split ∙ g.split) le in
    let none : o.0 ≡ [] = no_further h.front h.rest o.0 g.rest g.front h.ends o.2 o.1 g.begins in
    h.place ∙ ap length (o.2 ∙ ap (λ (us : List Symbol). us ++ g.rest) none) ∙ sym g.place

either_way : (ts : List Symbol) (left other : ℕ) (h : IsUnexpected ts left) (g : IsUnexpected ts other) (b : Bool) → nat_le (length g.rest) (length h.rest) ≡ b → left ≡ other
either_way ts left other h g true e = same_place ts left other h g (leb-true (length g.rest) (length h.rest) e)
either_way ts left other h g false e = let less = leb-false (length g.rest) (length h.rest) e in sym (same_place ts other left g h (omega (arith, less)))

pub one_unexpected : (ts : List Symbol) (left other : ℕ) → IsUnexpected ts left → IsUnexpected ts other → left ≡ other
one_unexpected ts left other h g = either_way ts left other h g (nat_le (length g.rest) (length h.rest)) refl
