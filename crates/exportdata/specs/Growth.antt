-- What reading a file leaves.
use Rattle.std.specs.Prelude.{◌≡◌, ℕ, ◌≤◌, List, ◌++◌, length}

-- bytes came behind what was there, no more than the limit
pub record Grows (limit : ℕ) (before after : List ℕ) : Type 0 where
  pub bytes : List ℕ
  pub grown : after ≡ before ++ bytes
  pub short : length bytes ≤ limit
