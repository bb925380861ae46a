-- What is remembered of an open file: the descriptors that the declarations read so far have finished.
use Rattle.std.specs.Prelude.{◌≢◌, ℕ, ◌<◌, ◌⊎◌, List, [], ◌∷◌, map}
use Rattle.std.specs.List.{AllByRecursion, Contains}
use Rattle.decl_spelling.specs.Sections.{Sections}
use Rattle.decl_spelling.specs.Tables.{Finished, Table}
use Rattle.decl_spelling.specs.Spelling.{Block, Sound}

abbrev pub block_of : ℕ × Finished → Block
block_of entry = record { start = entry.0; end = entry.1.end; tree = entry.1.tree }

abbrev pub blocks_in : Table → List Block
blocks_in memory = map block_of memory

-- each starts before all that stand behind it
abbrev pub InOrder : Table → Type 0
InOrder [] = Unit {0}
InOrder (entry ∷ rest) = AllByRecursion (λ later. entry.0 < later.0) rest × InOrder rest

-- Descriptors in the order of their places. Their bytes spell their types with one another, and no two share a byte.
pub record IsMemory (src : Sections) (memory : Table) : Type 0 where
  pub in_order : InOrder memory
  pub sound : Sound src (blocks_in memory)

-- two descriptors at different places that share a byte
abbrev pub Overlap : Block → Block → Type 0
Overlap a b = (a.start ≢ b.start) × (a.start < b.end) × (b.start < a.end)

-- a descriptor of the one and one of the other
abbrev pub Overlaps : Table → Table → Type 0
Overlaps some others =
    (a b : Block) × Contains (blocks_in some) a × Contains (blocks_in others) b × Overlap a b

-- all that both have, and nothing else
pub record Joins (some others all : Table) : Type 0 where
  pub first : (block : Block) → Contains (blocks_in some) block → Contains (blocks_in all) block
  pub second : (block : Block) → Contains (blocks_in others) block → Contains (blocks_in all) block
  pub only : (block : Block) → Contains (blocks_in all) block
      → Contains (blocks_in some) block ⊎ Contains (blocks_in others) block
