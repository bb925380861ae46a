use Rattle.std.specs.Prelude.{◌≡◌, ℕ, ◌<◌, List, Bool, true, false, length, slice_get, Some}

-- edges lead from a to b, one or more
pub data Path (Edge : ℕ → ℕ → Type 0) : ℕ → ℕ → Type 0 where
  edge : {a b : ℕ} → Edge a b → Path Edge a b
  onward : {a b c : ℕ} → Edge a b → Path Edge b c → Path Edge a c

-- a path leads from it back to it
abbrev pub LiesOnCycle : (ℕ → ℕ → Type 0) → ℕ → Type 0
LiesOnCycle Edge a = Path Edge a a

-- the graph has an edge from a to b
pub record Arrow (graph : List (List ℕ)) (a b : ℕ) : Type 0 where
  pub targets : List ℕ
  pub place : ℕ
  pub from : slice_get graph a ≡ Some targets
  pub to : slice_get targets place ≡ Some b

-- each edge leads to a node of the graph
abbrev pub IsGraph : List (List ℕ) → Type 0
IsGraph graph = (a b : ℕ) → Arrow graph a b → b < length graph

-- for each of so many nodes whether it lies on a cycle
pub record TellsCycles (Edge : ℕ → ℕ → Type 0) (count : ℕ) (told : List Bool) : Type 0 where
  pub sized : length told ≡ count
  pub yes : (v : ℕ) → slice_get told v ≡ Some true → LiesOnCycle Edge v
  pub no : (v : ℕ) → slice_get told v ≡ Some false → LiesOnCycle Edge v → ⊥
