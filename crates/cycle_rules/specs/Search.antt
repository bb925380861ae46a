use Rattle.std.specs.Prelude.{◌≡◌, ℕ, ◌+◌, ◌<◌, ◌≤◌, List, Bool, true, false, length, slice_get, count_by, map, Some}
use Rattle.cycle_rules.specs.Paths.{Arrow}
use Rattle.cycle_rules.specs.declared.components.Mark.{Mark}
use Rattle.cycle_rules.specs.declared.components.Mark.TheVariants.{New, Open, Done}
use Rattle.cycle_rules.specs.declared.components.Bound.{Bound}
use Rattle.cycle_rules.specs.declared.components.Search.{Search}

-- b is a, or edges lead from a to b
pub data Reaches (Edge : ℕ → ℕ → Type 0) : ℕ → ℕ → Type 0 where
  here : {a : ℕ} → Reaches Edge a a
  onward : {a b c : ℕ} → Edge a b → Reaches Edge b c → Reaches Edge a c

abbrev pub is_new : Mark → Bool
is_new New = true
is_new _ = false

-- the rank of a mark, or 0
abbrev pub rank_in : Mark → ℕ
rank_in (Done rank) = rank
rank_in _ = 0

-- the node at this place of the stack belongs to the component that begins at root: the last one that begins at this
-- place or before
pub record Belongs (graph : List (List ℕ)) (stack : List ℕ) (bounds : List Bound) (place node : ℕ) : Type 0 where
  pub index : ℕ
  pub bound : Bound
  pub root : ℕ
  pub at : slice_get bounds index ≡ Some bound
  pub below : bound.stack ≤ place
  pub last : (k : ℕ) (b : Bound) → slice_get bounds k ≡ Some b → b.stack ≤ place → k ≤ index
  pub start : slice_get stack bound.stack ≡ Some root
  pub back : Reaches (Arrow graph) node root

-- where an edge of an open node leads
pub data Followed (marks : List Mark) (stack pending : List ℕ) (bound : Bound) (target : ℕ) : Type 0 where
  done : (rank : ℕ) → slice_get marks target ≡ Some (Done rank) → Followed marks stack pending bound target
  within : (place : ℕ) → bound.stack ≤ place → slice_get stack place ≡ Some target
      → Followed marks stack pending bound target
  waits : (place : ℕ) → bound.pending ≤ place → slice_get pending place ≡ Some target
      → Followed marks stack pending bound target

-- what a search for components keeps
pub record IsSearch (graph : List (List ℕ)) (marks : List Mark) (stack pending : List ℕ) (bounds : List Bound)
    (rank : ℕ) : Type 0 where
  pub sized : length marks ≡ length graph
  -- the open nodes are those on the stack
  pub placed : (i v : ℕ) → slice_get stack i ≡ Some v → slice_get marks v ≡ Some (Open i)
  pub opened : (v i : ℕ) → slice_get marks v ≡ Some (Open i) → slice_get stack i ≡ Some v
  -- each new node waits
  pub fresh : (v : ℕ) → slice_get marks v ≡ Some New → (x : ℕ) × (slice_get pending x ≡ Some v)
  pub inside : (x v : ℕ) → slice_get pending x ≡ Some v → v < length graph
  -- the components lie on the stack in order, each with a node
  pub rising : (k l : ℕ) (a b : Bound) → slice_get bounds k ≡ Some a → slice_get bounds l ≡ Some b → k < l
      → (a.stack < b.stack) × (a.pending ≤ b.pending)
  pub begun : (k : ℕ) (b : Bound) → slice_get bounds k ≡ Some b → b.stack < length stack
  -- each open node leads back to its component's first, which leads to all that came after it
  pub belongs : (i v : ℕ) → slice_get stack i ≡ Some v → Belongs graph stack bounds i v
  pub leads : (k root j v : ℕ) (b : Bound) → slice_get bounds k ≡ Some b → slice_get stack b.stack ≡ Some root
      → b.stack ≤ j → slice_get stack j ≡ Some v → Reaches (Arrow graph) root v
  pub awaits : (k root x v : ℕ) (b : Bound) → slice_get bounds k ≡ Some b → slice_get stack b.stack ≡ Some root
      → b.pending ≤ x → slice_get pending x ≡ Some v → Reaches (Arrow graph) root v
  -- no edge of an open node leads further back than its component
  pub followed : (k i v t : ℕ) (b : Bound) → slice_get bounds k ≡ Some b → b.stack ≤ i → slice_get stack i ≡ Some v
      → Arrow graph v t → Followed marks stack pending b t
  -- what is done is ranked
  pub falls : (v t r : ℕ) → slice_get marks v ≡ Some (Done r) → Arrow graph v t → (s : ℕ)
      × (slice_get marks t ≡ Some (Done s)) × (s ≤ r)
  pub alike : (v w r : ℕ) → slice_get marks v ≡ Some (Done r) → slice_get marks w ≡ Some (Done r)
      → Reaches (Arrow graph) v w
  pub ranked : (v r : ℕ) → slice_get marks v ≡ Some (Done r) → r < rank
  pub counted : rank + length bounds + count_by is_new marks ≤ length graph

-- the nodes that each node's edges lead to
abbrev pub edges_of : Search → List (List ℕ)
edges_of s = map (λ t. t.now) s.graph.now

-- the search keeps what it should, with these nodes pending
abbrev pub Searches : Search → List ℕ → Type 0
Searches s pending = IsSearch (edges_of s) s.marks.items s.stack.items pending s.bounds.items s.rank

-- each component has room for what waits
abbrev pub HasRoom : List Bound → List ℕ → Type 0
HasRoom bounds pending = (k : ℕ) (b : Bound) → slice_get bounds k ≡ Some b → b.pending ≤ length pending

-- Edges lead to the same rank or a smaller one, and nodes of one rank lead to each other.
pub record RanksComponents (graph : List (List ℕ)) (ranks : List ℕ) : Type 0 where
  pub sized : length ranks ≡ length graph
  pub falls : (v t r : ℕ) → slice_get ranks v ≡ Some r → Arrow graph v t → (s : ℕ) × (slice_get ranks t ≡ Some s)
      × (s ≤ r)
  pub alike : (v w r : ℕ) → slice_get ranks v ≡ Some r → slice_get ranks w ≡ Some r → Reaches (Arrow graph) v w
