-- Files by name, as an object that tells them shows them.
use Rattle.std.specs.Prelude.{◌≡◌, ◌≢◌, ℕ, ◌<◌, ◌≤◌, List, ◌++◌, length, Option, None, Some, IfSome}
use Rattle.std.specs.Ordering.{nat_cmp}
use Rattle.std.specs.Cmp.Lexicographic.{slice_cmp}
use Rattle.std.specs.FinMap.{FinMap, get}

-- the bodies of the files, by name
abbrev pub Held : Type 0
Held = FinMap (slice_cmp nat_cmp) (List ℕ)

-- Bytes came behind what was there, no more than the limit. They are the named file's, where the files are told.
pub record Appends (held : Option Held) (name : List ℕ) (limit : ℕ) (before after : List ℕ) : Type 0 where
  pub bytes : List ℕ
  pub appended : after ≡ before ++ bytes
  pub short : length bytes ≤ limit
  pub named : IfSome held (λ files. get files name ≡ Some bytes)

-- there is a body, and it is longer than the limit
abbrev pub IsLonger : Option (List ℕ) → ℕ → Type 0
IsLonger None limit = ⊥
IsLonger (Some bytes) limit = limit < length bytes

-- What stands of the files before and after a call. An object tells its files at all times, or never.
abbrev pub IfBothHeld : Option Held → Option Held → (Held → Held → Type 0) → Type 0
IfBothHeld (Some before) (Some after) P = P before after
IfBothHeld None None P = Unit {0}
IfBothHeld (Some before) None P = ⊥
IfBothHeld None (Some after) P = ⊥

-- every other name has the body that it had
abbrev pub SameElsewhere : List ℕ → Held → Held → Type 0
SameElsewhere name before after = (other : List ℕ) → other ≢ name → get after other ≡ get before other
