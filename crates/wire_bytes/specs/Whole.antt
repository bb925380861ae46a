-- Whole constants of a type, which is signed or not, and whose values have at most so many bytes without their sign: 1,
-- 2, 4 or 8, and 64 where no type is written.
use Rattle.std.specs.Prelude.{◌≡◌, ℕ, ◌+◌, ◌-◌, ◌*◌, ◌/◌, ◌%◌, ◌^◌, ◌<◌, ◌≤◌, ℤ, pos, negsuc, neg_ℤ, unsigned_abs, Bool}
use Rattle.std.specs.Prelude.{true, false, ◌&&◌, ◌==◌, nat_lt, nat_le, if◌then◌else◌, IsTrue, ◌⊎◌, List, [], ◌∷◌}
use Rattle.std.specs.Prelude.{length, fold, slice_index, Result, Ok}
use Rattle.wire_bytes.specs.declared.fault.ByteFault.{ByteFault}
use Rattle.wire_bytes.specs.declared.fault.ByteFault.TheVariants as faults
use Rattle.wire_bytes.specs.Reading.{Spot, place, ◌>>=◌, demand, byte_at, bytes_at}
use Rattle.wire_bytes.specs.Varint.{number_of, signed_of}

abbrev pub IsGreatestLength : ℕ → Type 0
IsGreatestLength max = (max ≡ 1) ⊎ ((max ≡ 2) ⊎ ((max ≡ 4) ⊎ ((max ≡ 8) ⊎ (max ≡ 64))))

-- A value of the type has this size at the most, or a smaller one if it isn't below 0: without a type, 2 ^ 127.
abbrev pub bound_of : Bool → ℕ → ℕ
bound_of signed max = if max == 64 then 2 ^ 127 else (if signed then 2 ^ (8 * max - 1) else 2 ^ (8 * max))

-- whether a value is one of the type
abbrev pub in_range : Bool → ℕ → ℤ → Bool
in_range signed max (pos n) = nat_lt n (bound_of signed max)
in_range signed max (negsuc n) = signed && nat_lt n (bound_of signed max)

-- a value's code: the number as which it is spelled where it is signed, and itself where it isn't
abbrev pub code_of : Bool → ℤ → ℕ
code_of true v = number_of v
code_of false v = unsigned_abs v

-- a code below this is a byte of its own
abbrev pub small_limit : Bool → ℕ → ℕ
small_limit signed max = if max == 1 then 256 else (if signed then 256 - 2 * max else 256 - max)

-- the byte before a size of so many bytes, which tells how many they are and the sign
abbrev pub prefix_of : Bool → ℤ → ℕ → ℕ
prefix_of false v len = 256 - len
prefix_of true (pos n) len = 256 - 2 * len
prefix_of true (negsuc n) len = 257 - 2 * len

-- the number whose bytes these are, the highest first
abbrev pub size_in : List ℕ → ℕ
size_in bytes = fold (λ n b. n * 256 + b) 0 bytes

-- The bytes of a value's size stand behind their prefix. There is no shorter spelling: the highest byte isn't 0, and
-- the code is no byte of its own.
pub record IsLong (signed : Bool) (max : ℕ) (bytes : List ℕ) (v : ℤ) : Type 0 where
  pub size : List ℕ
  pub spelled : bytes ≡ prefix_of signed v (length size) ∷ size
  pub value : size_in size ≡ unsigned_abs v
  pub few : length size ≤ max
  pub highest : 0 < slice_index size 0
  pub of_bytes : (i : ℕ) → slice_index size i < 256
  pub above : small_limit signed max ≤ code_of signed v

-- the value's code is the one byte
abbrev pub IsShort : Bool → ℕ → List ℕ → ℤ → Type 0
IsShort signed max bytes v = (bytes ≡ code_of signed v ∷ []) × (code_of signed v < small_limit signed max)

-- the bytes spell a value of the type
pub record Whole (signed : Bool) (max : ℕ) (bytes : List ℕ) (v : ℤ) : Type 0 where
  pub of_type : IsTrue (in_range signed max v)
  pub spelled : IsShort signed max bytes v ⊎ IsLong signed max bytes v

-- ---- reading one

-- how many bytes stand behind a prefix
abbrev pub length_behind : Bool → ℕ → ℕ
length_behind signed prefix = if signed then (257 - prefix) / 2 else 256 - prefix

-- the value of this size and sign
abbrev pub with_sign : Bool → ℕ → ℤ
with_sign negative n = if negative then neg_ℤ (pos n) else pos n

-- the value that a prefix makes of a size
abbrev pub value_behind : Bool → ℕ → ℕ → ℤ
value_behind signed prefix n = with_sign (signed && (prefix % 2 == 1)) n

-- the value of a code
abbrev pub value_of : Bool → ℕ → ℤ
value_of signed code = if signed then signed_of code else pos code

-- the fault of a value that isn't one of the type
abbrev pub beyond : ℕ → ℕ → ℕ → ByteFault
beyond max at prefix = if max == 64 then faults.Wide at else faults.Range at prefix

-- the value of a size behind a prefix, at which each fault stands
unfoldable pub judged : Bool → ℕ → ℕ → ℕ → List ℕ → Result ℤ ByteFault
judged signed max at prefix size = do
  shortest ← demand (nat_lt 0 (slice_index size 0)) (faults.Number at)
  long ← demand (nat_le (small_limit signed max) (code_of signed (value_behind signed prefix (size_in size))))
      (faults.Number at)
  fits ← demand (in_range signed max (value_behind signed prefix (size_in size))) (beyond max at prefix)
  Ok (value_behind signed prefix (size_in size))

abbrev pub long_at : Bool → ℕ → ℕ → ℕ → Spot → Result (ℤ × Spot) ByteFault
long_at signed max at prefix s = do
  size ← bytes_at (length_behind signed prefix) s
  value ← judged signed max at prefix size.0
  Ok (value, size.1)

-- the next whole constant
abbrev pub whole_at : Bool → ℕ → Spot → Result (ℤ × Spot) ByteFault
whole_at signed max s = do
  first ← byte_at s
  if nat_lt first.0 (small_limit signed max) then Ok (value_of signed first.0, first.1)
      else long_at signed max (place s) first.0 first.1
