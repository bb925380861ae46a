use Rattle.std.specs.Prelude.{◌≡◌, ℕ, ◌<◌, List, [], length, map, slice_get, slice_index, Option, Some, MatchOption}
use Rattle.cycle_rules.specs.declared.cycles.CycleKind.{CycleKind}
use Rattle.cycle_rules.specs.declared.cycles.CycleKind.TheVariants.{Contains, Embeds, OfAlias, Constraint, Value}
use Rattle.cycle_rules.specs.declared.cycles.Ranks.{Ranks}
use Rattle.cycle_rules.specs.declared.cycles.Ranked.{Ranked}
use Rattle.cycle_rules.specs.declared.cycles.Graphs.{Graphs}
use Rattle.cycle_rules.specs.declared.shapes.DeclShape.{DeclShape}
use Rattle.cycle_rules.specs.Forms.{Fits, Owns, shape}
use Rattle.cycle_rules.specs.Paths.{Arrow, IsGraph, LiesOnCycle, TellsCycles}

-- the declarations that a declaration lists for this kind; what it contains is no list
abbrev pub targets_of : CycleKind → DeclShape → List ℕ
targets_of Contains d = []
targets_of Embeds d = d.embeds.items
targets_of OfAlias d = d.aliases.items
targets_of Constraint d = d.constraints.items
targets_of Value d = d.values.items

-- an edge of this kind leads from the declaration at s to the one at t
abbrev pub IsEdge : List DeclShape → CycleKind → ℕ → ℕ → Type 0
IsEdge shapes Contains s t = Owns shapes s (shape t)
IsEdge shapes Embeds s t = Arrow (map (targets_of Embeds) shapes) s t
IsEdge shapes OfAlias s t = Arrow (map (targets_of OfAlias) shapes) s t
IsEdge shapes Constraint s t = Arrow (map (targets_of Constraint) shapes) s t
IsEdge shapes Value s t = Arrow (map (targets_of Value) shapes) s t

-- the declaration lies on a cycle of this kind
abbrev pub IsCyclic : List DeclShape → CycleKind → ℕ → Type 0
IsCyclic shapes kind s = LiesOnCycle (IsEdge shapes kind) s

-- the kinds in their order
abbrev pub place_of : CycleKind → ℕ
place_of Contains = 0
place_of Embeds = 1
place_of OfAlias = 2
place_of Constraint = 3
place_of Value = 4

-- the first kind of which the declaration lies on a cycle, if it lies on one
abbrev pub IsFirstKind : List DeclShape → ℕ → Option CycleKind → Type 0
IsFirstKind shapes s first = MatchOption first ((k : CycleKind) → IsCyclic shapes k s → ⊥) (λ kind.
    IsCyclic shapes kind s × ((k : CycleKind) → place_of k < place_of kind → IsCyclic shapes k s → ⊥))

-- for each of so many declarations the first kind of which it lies on a cycle, if it lies on one
pub record AreFirstKinds (shapes : List DeclShape) (count : ℕ) (kinds : List (Option CycleKind)) : Type 0 where
  pub sized : length kinds ≡ count
  pub each : (s : ℕ) (first : Option CycleKind) → slice_get kinds s ≡ Some first → IsFirstKind shapes s first

-- the first declaration that lies on a cycle, and the first kind of which it lies on one
pub record IsFirstCycle (shapes : List DeclShape) (kind : CycleKind) (item : ℕ) : Type 0 where
  pub cyclic : IsCyclic shapes kind item
  pub least : (k : CycleKind) (s : ℕ) → s < item → IsCyclic shapes k s → ⊥
  pub earliest : (k : CycleKind) → place_of k < place_of kind → IsCyclic shapes k item → ⊥

-- the numbers in these declarations are places of the list and numbers of parameters
pub record AreShapes (shapes : List DeclShape) : Type 0 where
  pub forms : (s : ℕ) (of : DeclShape) → slice_get shapes s ≡ Some of → Fits shapes of.params of.holds
  pub lists : (kind : CycleKind) → IsGraph (map (targets_of kind) shapes)

-- the rank of the declaration at this place
abbrev pub rank_in : Ranks → CycleKind → ℕ → ℕ
rank_in r Contains item = slice_index r.contains.items item
rank_in r Embeds item = slice_index r.embeds.items item
rank_in r OfAlias item = slice_index r.aliases.items item
rank_in r Constraint item = slice_index r.constraints.items item
rank_in r Value item = slice_index r.values.items item

-- there is a rank of each kind for each of so many declarations
pub record HasRanks (r : Ranks) (count : ℕ) : Type 0 where
  pub contains : length r.contains.items ≡ count
  pub embeds : length r.embeds.items ≡ count
  pub aliases : length r.aliases.items ≡ count
  pub constraints : length r.constraints.items ≡ count
  pub values : length r.values.items ≡ count

-- what was found of one relation
pub record IsRanked (Edge : ℕ → ℕ → Type 0) (count : ℕ) (ranked : Ranked) : Type 0 where
  pub sized : length ranked.ranks.items ≡ count
  pub cyclic : TellsCycles Edge count ranked.cyclic.items
  pub falls : (s t : ℕ) → Edge s t → (LiesOnCycle Edge s → ⊥)
      → slice_index ranked.ranks.items t < slice_index ranked.ranks.items s

-- what was found of each kind
pub record AreRanked (g : Graphs) : Type 0 where
  pub contains : IsRanked (IsEdge g.shapes.now Contains) (length g.shapes.now) g.contains
  pub embeds : IsRanked (IsEdge g.shapes.now Embeds) (length g.shapes.now) g.embeds
  pub aliases : IsRanked (IsEdge g.shapes.now OfAlias) (length g.shapes.now) g.aliases
  pub constraints : IsRanked (IsEdge g.shapes.now Constraint) (length g.shapes.now) g.constraints
  pub values : IsRanked (IsEdge g.shapes.now Value) (length g.shapes.now) g.values
