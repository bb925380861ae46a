-- The starts of a source's lines, as a list.
use Rattle.std.specs.Prelude.{◌≡◌, ◌≤◌, ◌<◌, ◌==◌, ℕ, suc, List, [], ◌∷◌, length, slice_index_or}
use Rattle.std.specs.Prelude.{if◌then◌else◌}
use Rattle.source_positions.specs.Positions.{line_feed}

-- those in what stands from a place on
abbrev pub starts_in : ℕ → List ℕ → List ℕ
starts_in at [] = []
starts_in at (b ∷ []) = []
starts_in at (b ∷ c ∷ bs) = if b == line_feed then suc at ∷ starts_in (suc at) (c ∷ bs) else starts_in (suc at) (c ∷ bs)

abbrev pub line_starts : List ℕ → List ℕ
line_starts source = 0 ∷ starts_in 0 source

-- a byte before this place makes it a start
abbrev pub start_behind : ℕ → ℕ → List ℕ
start_behind b at = if b == line_feed then at ∷ [] else []

-- each is above the one before it
abbrev pub Rises : ℕ → List ℕ → Type 0
Rises below [] = Unit {0}
Rises below (x ∷ xs) = (below < x) × Rises x xs

-- a list that begins with 0 and rises
abbrev pub AreStarts : List ℕ → Type 0
AreStarts [] = ⊥
AreStarts (x ∷ xs) = (x ≡ 0) × Rises x xs

-- so many starts are at most the offset, and the others above it
pub record Cuts (starts : List ℕ) (offset n : ℕ) : Type 0 where
  pub some : 0 < n
  pub few : n ≤ length starts
  pub low : (k : ℕ) → k < n → slice_index_or starts k 0 ≤ offset
  pub high : (k : ℕ) → n ≤ k → k < length starts → offset < slice_index_or starts k 0

-- a source with its lines, as the code keeps them
pub record AreLines (source starts : List ℕ) : Type 0 where
  pub short : length source < 4294967295
  pub starts_are : starts ≡ line_starts source
