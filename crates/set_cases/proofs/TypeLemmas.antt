-- Numbers of a list that are below a bound, one after the other.
use Rattle.std.proofs.Common.{◌≡◌, ℕ, ◌<◌, ◌≤◌, zero, suc, List, [], ◌∷◌, length, drop, drop-cons, get_or, refl, ap, sym, subst, ◌∙◌, arith}
use Rattle.type_terms.specs.Arenas.{AllBelow}

-- where those that are left are below, all are
abbrev pub Left : ℕ → List ℕ → ℕ → Type 0
Left n ids k = AllBelow n (drop k ids) → AllBelow n ids

pub one_more : (n : ℕ) (ids : List ℕ) (k : ℕ) (id : ℕ) → k < length ids → id ≡ get_or ids k id → id < n → Left n ids k → Left n ids (suc k)
one_more n ids k id inside is below left rest =
    left (subst (AllBelow n) (sym (drop-cons ids k id inside ∙ ap (λ x. x ∷ drop (suc k) ids) (sym is))) (below, rest))

pub none_left : (n : ℕ) (ids : List ℕ) (k : ℕ) → length ids ≤ k → Left n ids k → AllBelow n ids
none_left n ids k past left = left (subst (AllBelow n) (sym (drop_past ids k past)) tt)
  where
    drop_past : (xs : List ℕ) (i : ℕ) → length xs ≤ i → drop i xs ≡ []
    drop_past [] zero h = refl
    drop_past [] (suc i) h = refl
    drop_past (x ∷ xs) zero h = absurd (omega (arith, h))
    drop_past (x ∷ xs) (suc i) h = drop_past xs i (omega (arith, h))
