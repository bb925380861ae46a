-- Readings that depend only on the bytes up to where they end, or up to where their fault is met.
use Rattle.std.specs.Prelude.{◌≡◌, ℕ, ◌+◌, ◌<◌, ◌≤◌, List, ◌++◌, length, slice_index, Bool, true, false, Option, Some, None}
use Rattle.std.specs.Prelude.{Result, Ok, Err, IfSome}
use Rattle.wire_bytes.specs.declared.fault.ByteFault.{ByteFault}
use Rattle.wire_bytes.specs.declared.fault.ByteFault.TheVariants.{Ended, Number, Range, Tag, Order, Version, Wide}
use Rattle.wire_bytes.specs.declared.fault.ByteFault.TheVariants.{Float, NotConst, Trailing}
use Rattle.wire_bytes.specs.Reading.{Spot, place}

-- the same part, where more bytes follow
abbrev pub with_more : Spot → List ℕ → Spot
with_more s more = record { end = s.end + length more; left = s.left ++ more }

-- a later place of the same part
pub record IsAhead (s after : Spot) : Type 0 where
  pub front : List ℕ
  pub same_end : after.end ≡ s.end
  pub behind : s.left ≡ front ++ after.left

-- where a fault stands; only a version that isn't known tells no place
abbrev pub place_of_fault : ByteFault → Option ℕ
place_of_fault (Ended at) = Some at
place_of_fault (Number at) = Some at
place_of_fault (Range at value) = Some at
place_of_fault (Tag at value) = Some at
place_of_fault (Order at) = Some at
place_of_fault (Version found) = None
place_of_fault (Wide at) = Some at
place_of_fault (Float at) = Some at
place_of_fault (NotConst at) = Some at
place_of_fault (Trailing at) = Some at

abbrev pub is_ended : ByteFault → Bool
is_ended (Ended at) = true
is_ended (Number at) = false
is_ended (Range at value) = false
is_ended (Tag at value) = false
is_ended (Order at) = false
is_ended (Version found) = false
is_ended (Wide at) = false
is_ended (Float at) = false
is_ended (NotConst at) = false
is_ended (Trailing at) = false

-- whether bytes are wanting for an answer
abbrev pub wants_more : {X : Type 0} → Result X ByteFault → Bool
wants_more (Ok x) = false
wants_more (Err f) = is_ended f

abbrev pub AreBytes : List ℕ → Type 0
AreBytes bytes = (i : ℕ) → slice_index bytes i < 256

-- a fault stands at one of the bytes from here on
abbrev pub IsAmong : ℕ → ℕ → ByteFault → Type 0
IsAmong from end f = IfSome (place_of_fault f) (λ at. (from ≤ at) × (at < end))

-- What was read is the same whatever follows, and so is each fault but `ended`, which stands at the end of the part and
-- comes only where more bytes give another answer.
pub record IsSteady {X : Type 0} (read : Spot → Result (X × Spot) ByteFault) : Type 0 where
  pub ahead : (s after : Spot) (x : X) → read s ≡ Ok (x, after) → IsAhead s after
  pub stays : (s after : Spot) (x : X) (more : List ℕ) → read s ≡ Ok (x, after)
      → read (with_more s more) ≡ Ok (x, with_more after more)
  pub refused : (s : Spot) (f : ByteFault) (more : List ℕ) → read s ≡ Err f → is_ended f ≡ false
      → read (with_more s more) ≡ Err f
  pub end : (s : Spot) (at : ℕ) → read s ≡ Err (Ended at) → at ≡ s.end
  pub goes_on : (s : Spot) → wants_more (read s) ≡ true
      → (more : List ℕ) × AreBytes more × (wants_more (read (with_more s more)) ≡ false)

-- And each fault but `ended` stands at a byte that was left when the reading began.
pub record IsLocal {X : Type 0} (read : Spot → Result (X × Spot) ByteFault) : Type 0 where
  pub steady : IsSteady read
  pub inside : (s : Spot) (f : ByteFault) → length s.left ≤ s.end → read s ≡ Err f → is_ended f ≡ false
      → IsAmong (place s) s.end f
