-- Reading from left to right: each reader takes what is left of a part, and gives a value and what is left after it, or
-- the first fault.
use Rattle.std.specs.Prelude.{◌≡◌, ℕ, zero, suc, ◌-◌, List, [], ◌∷◌, length, take, drop, Bool, true, false, Result, Ok}
use Rattle.std.specs.Prelude.{Err, Option, Some, None, nat_lt, if◌then◌else◌}
use Rattle.wire_bytes.specs.declared.fault.ByteFault.{ByteFault}
use Rattle.wire_bytes.specs.declared.fault.ByteFault.TheVariants as faults

-- what is left of a part, and the place in the file at which the part ends
pub record Spot : Type 0 where
  pub end : ℕ
  pub left : List ℕ

-- the place of the next byte
abbrev pub place : Spot → ℕ
place s = s.end - length s.left

-- the same part, with less left of it
abbrev pub onward : Spot → List ℕ → Spot
onward s rest = record { end = s.end; left = rest }

-- one step, and then what it leads to, unless it failed
infixl 10 ◌>>=◌
abbrev pub ◌>>=◌ : {E A B : Type 0} → Result A E → (A → Result B E) → Result B E
(Ok x) >>= f = f x
(Err e) >>= f = Err e

-- a fault, unless the test holds
abbrev pub demand : Bool → ByteFault → Result (Unit {0}) ByteFault
demand true f = Ok tt
demand false f = Err f

-- the value that is there, or else a fault
abbrev pub or_fault : {A : Type 0} → ByteFault → Option A → Result A ByteFault
or_fault f (Some x) = Ok x
or_fault f None = Err f

-- What was returned, as its reader sees it.
abbrev pub seen : {E X Y : Type 0} → (X → Y) → Result X E → Result Y E
seen view (Ok x) = Ok (view x)
seen view (Err e) = Err e

-- What a call of a cursor returned, seen by view, and the cursor that it left are what reading gives. A fault leaves
-- the cursor as it was.
abbrev pub Reads : {X Y : Type 0} → (X → Y) → Result X ByteFault → Spot → Spot → Result (Y × Spot) ByteFault → Type 0
Reads view (Ok x) old new read = read ≡ Ok (view x, new)
Reads view (Err f) old new read = (read ≡ Err f) × (new ≡ old)

-- the next byte
abbrev pub byte_of : Spot → List ℕ → Result (ℕ × Spot) ByteFault
byte_of s [] = Err (faults.Ended s.end)
byte_of s (b ∷ rest) = Ok (b, onward s rest)

abbrev pub byte_at : Spot → Result (ℕ × Spot) ByteFault
byte_at s = byte_of s s.left

-- the next n bytes
abbrev pub bytes_at : ℕ → Spot → Result (List ℕ × Spot) ByteFault
bytes_at n s = if nat_lt (length s.left) n then Err (faults.Ended s.end)
    else Ok (take n s.left, onward s (drop n s.left))

-- n things one after the other, each read with what the one before it leaves to it
unfoldable pub many : {X K : Type 0} → (K → Spot → Result (X × Spot) ByteFault) → (X → K) → ℕ → K → Spot
    → Result (List X × Spot) ByteFault
many one next zero k s = Ok ([], s)
many one next (suc n) k s = do
  first ← one k s
  others ← many one next n (next first.0) first.1
  Ok (first.0 ∷ others.0, others.1)

-- What a reader of the code returned, seen by view, is what reading gives. Some of its errors name a fault, which is
-- then the fault; the others, as want of memory, say nothing of the bytes.
abbrev pub Fails : {Y : Type 0} → Option ByteFault → Result Y ByteFault → Type 0
Fails (Some f) read = read ≡ Err f
Fails None read = Unit {0}

abbrev pub GivesBy : {E X Y : Type 0} → (E → Option ByteFault) → (X → Y) → Result X E → Result Y ByteFault → Type 0
GivesBy fault_of view (Ok x) read = read ≡ Ok (view x)
GivesBy fault_of view (Err e) read = Fails (fault_of e) read

-- ---- what stands in some bytes, apart from how it is read

-- things that stand one after the other, from the front of the bytes up to the rest
abbrev pub InOrder : {X : Type 0} → (List ℕ → X → List ℕ → Type 0) → List ℕ → List X → List ℕ → Type 0
InOrder Stands bytes [] rest = bytes ≡ rest
InOrder Stands bytes (x ∷ xs) rest = (next : List ℕ) × Stands bytes x next × InOrder Stands next xs rest

-- what each of them owes to what the one before it leaves
abbrev pub Linked : {X K : Type 0} → (K → X → Type 0) → (X → K) → K → List X → Type 0
Linked Fits next k [] = Unit {0}
Linked Fits next k (x ∷ xs) = Fits k x × Linked Fits next (next x) xs
