-- Tokens that are no file have a first one that is unexpected, or end too early.
use Rattle.std.proofs.Common.{◌≡◌, ℕ, zero, suc, ◌+◌, ◌<◌, ◌≤◌, max, nat_le, Bool, true, false, List, [], ◌∷◌, ◌++◌, length, Result, Ok, Err, refl, sym, ap, subst, ◌∙◌, append_assoc, arith, length-append}
use Rattle.std.proofs.lemmas.Bool.{leb-true, leb-false}
use Rattle.go_expr_syntax.specs.declared.symbols.Symbol.{Symbol}
use Rattle.go_syntax.specs.declared.tree.SourceFile.{SourceFile}
use Rattle.go_expr_syntax.specs.declared.faults.Fault.{Fault}
use Rattle.go_expr_syntax.specs.declared.faults.Fault.TheVariants.{Unexpected, Deep, DotImport, Call}
use Rattle.go_syntax.specs.Decls.{IsFileOf}
use Rattle.go_syntax.specs.Files.{file_at}
use Rattle.go_syntax.specs.Outcomes.{IsFile, IsUnexpected, Deepens, GoesOnTo, IsTooDeep, IsFileWithDots, IsFileWithCall}
use Rattle.go_expr_syntax.proofs.EitherReads.{goes_further}
use Rattle.go_syntax.proofs.Laws.{is_found, explains, as_unexpected}

-- a file that goes on with a front and the token behind it has the path
deepens_at : (n : ℕ) (front mid more us : List Symbol) (k : Symbol) (f : SourceFile) (m : ℕ) → Deepens n front (mid ++ k ∷ us) → IsFileOf m (front ++ (mid ++ k ∷ more)) f [] → n < m
deepens_at n front [] more us k f m h w = h more f m w
deepens_at n front (j ∷ mid) more us k f m h w = h (mid ++ k ∷ more) f m w

-- Where a path is too long at some token, and some file that goes on with it has m nodes on a path, none is too long so early where m are allowed.
later_at : (ts : List Symbol) (n left other : ℕ) (h : IsTooDeep n ts left) (m : ℕ) (g : IsTooDeep m ts other) → ((n' : ℕ) (f : SourceFile) (more us : List Symbol) (k : Symbol) → h.rest ≡ k ∷ us → IsFileOf n' ((h.front ++ k ∷ []) ++ more) f [] → n' ≤ m → left ≤ other → ⊥)
later_at ts n left other h m g n' f more us k e w small le =
    let o = goes_further g.front g.rest h.front h.rest (sym g.split ∙ h.split) (subst (λ (i : ℕ). length h.rest ≤ i) g.place (subst (λ (i : ℕ). i ≤ other) h.place le)) in
    let rest : g.rest ≡ o.0 ++ k ∷ us = o.2 ∙ ap (λ (vs : List Symbol). o.0 ++ vs) e in
    let whole : (h.front ++ k ∷ []) ++ more ≡ g.front ++ (o.0 ++ k ∷ more) = append_assoc h.front (k ∷ []) more ∙ ap (λ (vs : List Symbol). vs ++ k ∷ more) o.1 ∙ append_assoc g.front o.0 (k ∷ more) in
    let long : m < n' = deepens_at m g.front o.0 more us k f n' (subst (Deepens m g.front) rest g.deeper) (subst (λ vs. IsFileOf n' vs f []) whole w) in
    omega (arith, long, small)

module _ (ts : List Symbol) (never : (f : SourceFile) → IsFile ts f → ⊥) where
  abbrev First : Type 0
  First = (left : ℕ) × IsUnexpected ts left

  abbrev Small : ℕ → ℕ → Type 0
  Small size n = (k began : ℕ) → file_at n ts ≡ Err (Deep k began) → k < size

  earlier : (n : ℕ) → 2 ≤ n → (k began : ℕ) → file_at n ts ≡ Err (Deep k began) → (rest : List Symbol) (h : IsTooDeep n ts k) → h.rest ≡ rest → GoesOnTo IsFile h.front rest → (m : ℕ) × (2 ≤ m) × Small k m
  earlier n two k began e [] h same goes = absurd goes
  earlier n two k began e (j ∷ us) h same goes =
      let m = max n goes.2.0 in (
        m,
        omega arith,
        λ other at d.
            let g : IsTooDeep m ts other = (explains m (omega arith) ts (Deep other at) d).0 in
            below other (nat_le k other) refl (λ le. later_at ts n k other h m g goes.2.0 goes.1 goes.0 us j same goes.2.1 (omega arith) le),
      )
    where
      below : (other : ℕ) (b : Bool) → nat_le k other ≡ b → (k ≤ other → ⊥) → other < k
      below other true c above = absurd (above (leb-true k other c))
      below other false c above = leb-false k other c

  found_or : (size n : ℕ) → 2 ≤ n → Small size n → ((m : ℕ) → 2 ≤ m → (k : ℕ) → k < size → Small k m → First) → (g : Result SourceFile Fault) → file_at n ts ≡ g → First
  found_or size n two small next (Ok f) e = absurd (never f (is_found n two ts f e))
  found_or size n two small next (Err (Unexpected k)) e = (k, explains n two ts (Unexpected k) e)
  found_or size n two small next (Err (DotImport k)) e = (k, as_unexpected IsFileWithDots ts k (explains n two ts (DotImport k) e))
  found_or size n two small next (Err (Call k at)) e = (k, as_unexpected (IsFileWithCall at) ts k (explains n two ts (Call k at) e))
  found_or size n two small next (Err (Deep k began)) e =
      let h : IsTooDeep n ts k = (explains n two ts (Deep k began) e).0 in
      let o = earlier n two k began e h.rest h refl h.goes in
      next o.0 o.1 k (small k began e) o.2

  first_in : (fuel size n : ℕ) → size ≤ fuel → 2 ≤ n → Small size n → First
  first_in zero size n le two small = found_or size n two small (λ m two' k less s. absurd (omega (arith, le, less))) (file_at n ts) refl
  first_in (suc fuel) size n le two small = found_or size n two small (λ m two' k less s. first_in fuel k m (omega (arith, le, less)) two' s) (file_at n ts) refl

  few : (n : ℕ) → 2 ≤ n → Small (suc (length ts)) n
  few n two k began e =
      let h : IsTooDeep n ts k = (explains n two ts (Deep k began) e).0 in
      let long : length ts ≡ length h.front + length h.rest = ap length h.split ∙ length-append {A = Symbol} h.front h.rest in
      let place : k ≡ length h.rest = h.place in
      omega (arith, long, place)

pub first_unexpected : (ts : List Symbol) → ((f : SourceFile) → IsFile ts f → ⊥) → (left : ℕ) × IsUnexpected ts left
first_unexpected ts never = first_in ts never (suc (length ts)) (suc (length ts)) 2 (omega arith) (omega arith) (few ts never 2 (omega arith))
