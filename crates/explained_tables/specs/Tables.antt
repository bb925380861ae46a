-- Tables that explain themselves: each entry is what one step makes of it, where the step takes what it needs of other
-- entries from the table itself. Values of constants that name each other are one.
use Rattle.std.specs.Prelude.{◌≡◌, ◌≢◌, ◌<◌, ℕ, List, Some, slice_get}

-- The first so many entries are explained.
abbrev pub Explained : {V : Type 0} → ((ℕ → V) → ℕ → V) → ℕ → (ℕ → V) → Type 0
Explained step count table = (i : ℕ) → i < count → table i ≡ step table i

-- A step makes the same of an entry from two tables that agree on what the entry needs.
abbrev pub IsLocal : {V : Type 0} → ((ℕ → V) → ℕ → V) → (ℕ → ℕ → Type 0) → Type 0
IsLocal {V} step needs = (f g : ℕ → V) (i : ℕ) → ((j : ℕ) → needs i j → f j ≡ g j) → step f i ≡ step g i

-- What an entry needs is in the table, and has a smaller rank, so none needs itself.
abbrev pub IsRanked : (ℕ → ℕ → Type 0) → ℕ → (ℕ → ℕ) → Type 0
IsRanked needs count rank = (i : ℕ) → i < count → (j : ℕ) → needs i j → (j < count) × (rank j < rank i)

-- An order in which each entry needs earlier ones alone, and stands once.
pub record IsOrder (needs : ℕ → ℕ → Type 0) (order : List ℕ) : Type 0 where
  pub once : (k l i : ℕ) → slice_get order k ≡ Some i → slice_get order l ≡ Some i → k ≡ l
  pub before : (k i : ℕ) → slice_get order k ≡ Some i → (j : ℕ) → needs i j
      → (l : ℕ) × (l < k) × (slice_get order l ≡ Some j)

-- The entries of the first so many places of an order are explained.
abbrev pub Reached : {V : Type 0} → ((ℕ → V) → ℕ → V) → List ℕ → ℕ → (ℕ → V) → Type 0
Reached step order count table = (k i : ℕ) → k < count → slice_get order k ≡ Some i → table i ≡ step table i

-- The second table has the step's value at an entry, and else what the first has.
pub record Fills {V : Type 0} (step : (ℕ → V) → ℕ → V) (i : ℕ) (before after : ℕ → V) : Type 0 where
  pub filled : after i ≡ step before i
  pub others : (j : ℕ) → j ≢ i → after j ≡ before j
