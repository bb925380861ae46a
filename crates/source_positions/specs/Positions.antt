-- Lines and columns of a source's bytes. A line begins at the start and behind each line feed that isn't the last byte;
-- lines count from 1, and columns in bytes from 1.
use Rattle.std.specs.Prelude.{◌≡◌, ◌≤◌, ◌+◌, ◌==◌, ℕ, List, [], ◌∷◌, ◌++◌, length, take, if◌then◌else◌}
use Rattle.source_positions.specs.declared.lines.LineColumn.{LineColumn}

abbrev pub line_feed : ℕ
line_feed = 10

-- a line of the source begins at this place
pub data IsLineStart (source : List ℕ) : ℕ → Type 0 where
  start_of_source : IsLineStart source 0
  behind_line_feed : (before : List ℕ) (next : ℕ) (after : List ℕ) → source ≡ before ++ (line_feed ∷ next ∷ after)
      → IsLineStart source (length before + 1)

-- how many line feeds there are
abbrev pub line_feeds : List ℕ → ℕ
line_feeds [] = 0
line_feeds (b ∷ bs) = if b == line_feed then 1 + line_feeds bs else line_feeds bs

abbrev pub without_last : List ℕ → List ℕ
without_last [] = []
without_last (b ∷ []) = []
without_last (b ∷ c ∷ bs) = b ∷ without_last (c ∷ bs)

-- The position of a place of the source, or of its end: the line is one more than the line feeds before, the last byte
-- not counted, and the column one more than the bytes from the last start of a line on.
pub record IsPosition (source : List ℕ) (offset : ℕ) (p : LineColumn) : Type 0 where
  pub line : p.line ≡ 1 + line_feeds (take offset (without_last source))
  pub start : ℕ
  pub begins : IsLineStart source start
  pub before : start ≤ offset
  pub last : (other : ℕ) → IsLineStart source other → other ≤ offset → other ≤ start
  pub column : start + p.column ≡ offset + 1
