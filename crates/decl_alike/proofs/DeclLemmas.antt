-- What the comparison of two declarations tells.
use Rattle.std.proofs.Common.{◌≡◌, ℕ, suc, List, Bool, true, false, cond, Result, Ok, Err, refl}
use Rattle.std.specs.Prelude.{IsOkAnd}
use Rattle.std.specs.List.{AllByRecursion, Contains}
use Rattle.pair_walk.specs.Walk.{End, by_itself, apart, broken}
use Rattle.replacement.specs.declared.faults.SetFault.{SetFault}
use Rattle.type_terms.specs.Declarations.{Decl}
use Rattle.type_alike.specs.Sides.{Sides, Pair}
use Rattle.type_alike.specs.Identity.{Id, Identical}
use Rattle.type_alike.specs.Comparing.{compared}
use Rattle.decl_alike.specs.SameDecl.{same_head, decl_pairs, decls_compared, and_then}

-- both declarations are there, where no fault is met
both_told : (e : End SetFault) (C : Decl → Decl → End SetFault) (P : Decl → Decl → Type 0) → ((f : SetFault) → broken f ≡ e → ⊥)
    → ((x y : Decl) → C x y ≡ e → P x y) → (r q : Result Decl SetFault) → and_then r (λ x. and_then q (C x)) ≡ e
    → IsOkAnd r (λ x. IsOkAnd q (P x))
both_told e C P whole each (Ok x) (Ok y) is = each x y is
both_told e C P whole each (Ok x) (Err f) is = absurd (whole f is)
both_told e C P whole each (Err f) q is = absurd (whole f is)

not_by_itself : (f : SetFault) → broken f ≡ by_itself → ⊥
not_by_itself f e = cc

not_apart : (depth : ℕ) (f : SetFault) → broken f ≡ apart depth → ⊥
not_apart depth f e = cc

abbrev pub Alike : Sides → Decl → Decl → Type 0
Alike sides x y = (same_head x y ≡ true) × AllByRecursion (λ p. Identical sides p.left p.right) (decl_pairs x y)

abbrev pub Unlike : Sides → ℕ → Decl → Decl → Type 0
Unlike sides depth x y = (p : Pair) × Contains (decl_pairs x y) p × (Id sides (suc depth) p.left p.right → ⊥)

module _ (sides : Sides)
    (same : (starts : List Pair) → (compared sides starts).end ≡ by_itself → AllByRecursion (λ p. Identical sides p.left p.right) starts)
    (differ : (starts : List Pair) (depth : ℕ) → (compared sides starts).end ≡ apart depth
    → (p : Pair) × Contains starts p × (Id sides depth p.left p.right → ⊥)) where
  by_head : (x y : Decl) (b : Bool) → same_head x y ≡ b → cond b (compared sides (decl_pairs x y)).end (apart 0) ≡ by_itself → Alike sides x y
  by_head x y true is ends = (is, same (decl_pairs x y) ends)
  by_head x y false is ends = absurd cc

  by_head_apart : (x y : Decl) (b : Bool) → same_head x y ≡ b → cond b (compared sides (decl_pairs x y)).end (apart 0) ≡ apart 0 → same_head x y ≡ false
  by_head_apart x y true is ends = absurd ((differ (decl_pairs x y) 0 ends).2 tt)
  by_head_apart x y false is ends = is

  by_head_deeper : (x y : Decl) (depth : ℕ) (b : Bool) → cond b (compared sides (decl_pairs x y)).end (apart 0) ≡ apart (suc depth) → Unlike sides depth x y
  by_head_deeper x y depth true ends = differ (decl_pairs x y) (suc depth) ends
  by_head_deeper x y depth false ends = absurd (not_deeper depth ends)
    where
      not_deeper : (n : ℕ) → ◌≡◌ {A = End SetFault} (apart 0) (apart (suc n)) → ⊥
      not_deeper n e = cc

  pub decls_alike : (r q : Result Decl SetFault) → and_then r (λ x. and_then q (decls_compared sides x)) ≡ by_itself
      → IsOkAnd r (λ x. IsOkAnd q (Alike sides x))
  decls_alike = both_told by_itself (decls_compared sides) (Alike sides) not_by_itself (λ x y is. by_head x y (same_head x y) refl is)

  pub heads_differ : (r q : Result Decl SetFault) → and_then r (λ x. and_then q (decls_compared sides x)) ≡ apart 0
      → IsOkAnd r (λ x. IsOkAnd q (λ y. same_head x y ≡ false))
  heads_differ = both_told (apart 0) (decls_compared sides) (λ x y. same_head x y ≡ false) (not_apart 0) (λ x y is. by_head_apart x y (same_head x y) refl is)

  pub types_differ : (depth : ℕ) (r q : Result Decl SetFault) → and_then r (λ x. and_then q (decls_compared sides x)) ≡ apart (suc depth)
      → IsOkAnd r (λ x. IsOkAnd q (Unlike sides depth x))
  types_differ depth = both_told (apart (suc depth)) (decls_compared sides) (Unlike sides depth) (not_apart (suc depth)) (λ x y is. by_head_deeper x y depth (same_head x y) is)
