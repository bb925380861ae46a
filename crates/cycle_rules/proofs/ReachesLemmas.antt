-- Paths, and what reaches what.
use Rattle.std.proofs.Common.{ℕ, ◌<◌, arith}
use Rattle.cycle_rules.specs.Paths.{Path, edge, onward as longer}
use Rattle.cycle_rules.specs.Search.{Reaches, here, onward}

pub reaches_further : {Edge : ℕ → ℕ → Type 0} {a b c : ℕ} → Reaches Edge a b → Reaches Edge b c → Reaches Edge a c
reaches_further here q = q
reaches_further (onward e p) q = onward e (reaches_further p q)

pub one_edge : {Edge : ℕ → ℕ → Type 0} {a b : ℕ} → Edge a b → Reaches Edge a b
one_edge e = onward e here

pub path_from : {Edge : ℕ → ℕ → Type 0} {a b c : ℕ} → Edge a b → Reaches Edge b c → Path Edge a c
path_from e here = edge e
path_from e (onward f p) = longer e (path_from f p)

-- what falls along each edge falls along a path
pub falls_along : {Edge : ℕ → ℕ → Type 0} {a b : ℕ} (rank : ℕ → ℕ) → ((c d : ℕ) → Edge c d → rank d < rank c) → Path Edge a b → rank b < rank a
falls_along rank falls (edge e) = falls _ _ e
falls_along rank falls (longer e p) = let one = falls _ _ e in let more = falls_along rank falls p in omega arith
