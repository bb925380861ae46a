-- Numbers: the grammar of their spellings, and reading one from the front of some bytes.
use Rattle.std.specs.Prelude.{◌≡◌, ℕ, zero, suc, ◌+◌, ◌-◌, ◌*◌, ◌^◌, ◌<◌, ◌≤◌, List, [], ◌∷◌, ◌++◌, length, Result, Ok}
use Rattle.std.specs.Prelude.{Err, nat_lt, if◌then◌else◌}
use Rattle.wire_bytes.specs.declared.fault.ByteFault.{ByteFault}
use Rattle.wire_bytes.specs.declared.fault.ByteFault.TheVariants as faults
use Rattle.wire_bytes.specs.declared.number.Unspelled.{Unspelled}
use Rattle.wire_bytes.specs.declared.number.Unspelled.TheVariants.{Cut, Wrong}
use Rattle.wire_bytes.specs.Reading.{Spot, place, onward}

-- Groups of seven bits, the low ones first. A byte below 128 is the last group and stands for itself. Of a byte from
-- 128 on the low seven bits count, and the bytes after it spell the rest, which isn't 0: so no number has two
-- spellings.
abbrev pub IsGroups : List ℕ → ℕ → Type 0
IsGroups [] n = ⊥
IsGroups (b ∷ []) n = (b < 128) × (n ≡ b)
IsGroups (b ∷ c ∷ bs) n = (128 ≤ b) × (b < 256) × (high : ℕ) × (0 < high) × (n + 128 ≡ b + 128 * high)
    × IsGroups (c ∷ bs) high

-- the bytes spell the number, which has 64 bits
pub record Uvarint (bytes : List ℕ) (n : ℕ) : Type 0 where
  pub groups : IsGroups bytes n
  pub bits : n < 2 ^ 64

-- the bytes begin with a spelling of the number, and the rest follows it
abbrev pub BeginsWith : List ℕ → ℕ → List ℕ → Type 0
BeginsWith bytes n rest = (front : List ℕ) × Uvarint front n × (bytes ≡ front ++ rest)

-- the bytes are the beginning of a spelling, and more bytes are needed to end it
abbrev pub IsCutShort : List ℕ → Type 0
IsCutShort bytes = (more : List ℕ) × (n : ℕ) × (0 < length more) × Uvarint (bytes ++ more) n

-- the bytes neither begin with a spelling nor are the beginning of one
pub record BeginsNone (bytes : List ℕ) : Type 0 where
  pub not_whole : (n : ℕ) (rest : List ℕ) → BeginsWith bytes n rest → ⊥
  pub not_cut : IsCutShort bytes → ⊥

-- Why a number can't be read: the part ends, at its end, within a spelling; or there, at the first byte, none begins.
abbrev pub IsUvarintFault : Spot → ByteFault → Type 0
IsUvarintFault s (faults.Ended at) = (at ≡ s.end) × IsCutShort s.left
IsUvarintFault s (faults.Number at) = (at ≡ place s) × BeginsNone s.left
IsUvarintFault s _ = ⊥

-- A number, and the bytes after it.
abbrev pub Front : Type 0
Front = Result (ℕ × List ℕ) Unspelled

-- a byte with its top bit set, before what the bytes after it spell
abbrev pub behind : ℕ → Front → Front
behind b (Ok (zero, rest)) = Err Wrong
behind b (Ok (suc h, rest)) = Ok (b - 128 + 128 * suc h, rest)
behind b (Err e) = Err e

-- a number of any size
abbrev pub groups_in : List ℕ → Front
groups_in [] = Err Cut
groups_in (b ∷ bs) = if nat_lt b 128 then Ok (b, bs) else behind b (groups_in bs)

-- a number of 64 bits, which has ten bytes at the most
abbrev pub of_64_bits : ℕ → Front → Front
of_64_bits len (Ok (n, rest)) = if nat_lt n (2 ^ 64) then Ok (n, rest) else Err Wrong
of_64_bits len (Err Cut) = if nat_lt len 10 then Err Cut else Err Wrong
of_64_bits len (Err Wrong) = Err Wrong

unfoldable pub uvarint_in : List ℕ → Front
uvarint_in bytes = of_64_bits (length bytes) (groups_in bytes)

abbrev pub uvarint_from : Spot → Front → Result (ℕ × Spot) ByteFault
uvarint_from s (Ok (n, rest)) = Ok (n, onward s rest)
uvarint_from s (Err Cut) = Err (faults.Ended s.end)
uvarint_from s (Err Wrong) = Err (faults.Number (place s))

-- the next number
abbrev pub uvarint_at : Spot → Result (ℕ × Spot) ByteFault
uvarint_at s = uvarint_from s (uvarint_in s.left)
