-- Signed numbers and flags, which are spelled by a number.
use Rattle.std.specs.Prelude.{◌≡◌, ℕ, ◌+◌, ◌*◌, ◌/◌, ◌%◌, ◌<◌, ℤ, pos, negsuc, ◌==◌, nat_lt, if◌then◌else◌, List, Bool}
use Rattle.std.specs.Prelude.{true, false, Result, Ok, Err}
use Rattle.wire_bytes.specs.declared.fault.ByteFault.{ByteFault}
use Rattle.wire_bytes.specs.declared.fault.ByteFault.TheVariants as faults
use Rattle.wire_bytes.specs.Reading.{Spot, place, ◌>>=◌}
use Rattle.wire_bytes.specs.Uvarint.{Uvarint, BeginsWith, IsUvarintFault, uvarint_at}

-- The number as which a signed one is spelled: 2x from 0 on, and -2x - 1 below 0. So 0, -1, 1, -2 are 0, 1, 2, 3.
abbrev pub number_of : ℤ → ℕ
number_of (pos n) = 2 * n
number_of (negsuc n) = 2 * n + 1

-- the bytes spell the signed number
abbrev pub Varint : List ℕ → ℤ → Type 0
Varint bytes x = Uvarint bytes (number_of x)

-- the signed number that is spelled as a number
abbrev pub signed_of : ℕ → ℤ
signed_of n = if n % 2 == 0 then pos (n / 2) else negsuc (n / 2)

-- the next signed number
abbrev pub varint_at : Spot → Result (ℤ × Spot) ByteFault
varint_at s = do
  n ← uvarint_at s
  Ok (signed_of n.0, n.1)

-- A flag is the number 0 or 1.
abbrev pub Flag : List ℕ → Bool → Type 0
Flag bytes false = Uvarint bytes 0
Flag bytes true = Uvarint bytes 1

-- Why a flag can't be read: no number can, or the number is above 1.
abbrev pub IsFlagFault : Spot → ByteFault → Type 0
IsFlagFault s (faults.Tag at value) = (at ≡ place s) × (1 < value) × ((rest : List ℕ) × BeginsWith s.left value rest)
IsFlagFault s f = IsUvarintFault s f

abbrev pub flag_of : ℕ → ℕ → Result Bool ByteFault
flag_of at n = if nat_lt 1 n then Err (faults.Tag at n) else Ok (n == 1)

-- the next flag
abbrev pub flag_at : Spot → Result (Bool × Spot) ByteFault
flag_at s = do
  n ← uvarint_at s
  flag ← flag_of (place s) n.0
  Ok (flag, n.1)
