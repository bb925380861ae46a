-- Why no whole constant of a type can be read.
use Rattle.std.specs.Prelude.{◌≡◌, ◌≢◌, ℕ, ◌<◌, ◌≤◌, ℤ, pos, negsuc, unsigned_abs, Bool, IsTrue, ◌⊎◌, List, []}
use Rattle.std.specs.Prelude.{◌∷◌, ◌++◌, length, slice_index}
use Rattle.wire_bytes.specs.declared.fault.ByteFault.{ByteFault}
use Rattle.wire_bytes.specs.declared.fault.ByteFault.TheVariants as faults
use Rattle.wire_bytes.specs.Reading.{Spot, place}
use Rattle.wire_bytes.specs.Whole.{in_range, code_of, small_limit, prefix_of, size_in, length_behind}

-- The bytes begin with a prefix, which is no value's own byte, and with as many bytes of a size as it tells of.
pub record HasSize (signed : Bool) (max : ℕ) (bytes : List ℕ) (prefix : ℕ) (size : List ℕ) : Type 0 where
  pub rest : List ℕ
  pub there : bytes ≡ prefix ∷ (size ++ rest)
  pub no_code : small_limit signed max ≤ prefix
  pub told : length size ≡ length_behind signed prefix

-- a value below 0 is signed
abbrev pub MayBeSigned : Bool → ℤ → Type 0
MayBeSigned signed (pos n) = Unit {0}
MayBeSigned signed (negsuc n) = IsTrue signed

-- the value of this prefix and size, in whatever range
pub record Means (signed : Bool) (prefix : ℕ) (size : List ℕ) (v : ℤ) : Type 0 where
  pub sign : MayBeSigned signed v
  pub first : prefix ≡ prefix_of signed v (length size)
  pub value : size_in size ≡ unsigned_abs v

-- no byte is there, or a prefix and fewer bytes than it tells of
abbrev pub LacksBytes : Bool → ℕ → List ℕ → Type 0
LacksBytes signed max [] = Unit {0}
LacksBytes signed max (prefix ∷ size) = (small_limit signed max ≤ prefix) × (length size < length_behind signed prefix)

-- There is a shorter spelling: the size begins with 0, or the value has a byte of its own.
abbrev pub IsLonger : Bool → ℕ → ℕ → List ℕ → Type 0
IsLonger signed max prefix size = (slice_index size 0 ≡ 0)
    ⊎ ((v : ℤ) × Means signed prefix size v × (code_of signed v < small_limit signed max))

-- the shortest spelling of a value that isn't one of the type
abbrev pub IsOutside : Bool → ℕ → ℕ → List ℕ → Type 0
IsOutside signed max prefix size = (0 < slice_index size 0)
    × ((v : ℤ) × Means signed prefix size v × (IsTrue (in_range signed max v) → ⊥))

-- Why none can be read: the part ends, at its end, within one; or what begins there is longer than it has to be, or is
-- a value beyond its type, of which the prefix is told, or beyond all that are read.
abbrev pub IsWholeFault : Bool → ℕ → Spot → ByteFault → Type 0
IsWholeFault signed max s (faults.Ended at) = (at ≡ s.end) × LacksBytes signed max s.left
IsWholeFault signed max s (faults.Number at) = (at ≡ place s)
    × ((prefix : ℕ) × (size : List ℕ) × HasSize signed max s.left prefix size × IsLonger signed max prefix size)
IsWholeFault signed max s (faults.Range at prefix) = (at ≡ place s) × (max ≢ 64)
    × ((size : List ℕ) × HasSize signed max s.left prefix size × IsOutside signed max prefix size)
IsWholeFault signed max s (faults.Wide at) = (at ≡ place s) × (max ≡ 64)
    × ((prefix : ℕ) × (size : List ℕ) × HasSize signed max s.left prefix size × IsOutside signed max prefix size)
IsWholeFault signed max s _ = ⊥
