-- Where a part of some bytes lies, and what is left of it.
use Rattle.std.proofs.Common.{◌≡◌, ℕ, zero, suc, ◌+◌, ◌-◌, ◌<◌, ◌≤◌, List, [], ◌∷◌, ◌++◌, length, take, drop, arith, length-append, length-drop, length-take-le, take-append-drop, ap}
use Rattle.wire_bytes.proofs.Spellings.{IsBytes, IsBytes-rest}

-- the bytes from an offset up to another, and those behind
abbrev pub part : List ℕ → ℕ → ℕ → List ℕ
part bytes from to = take (to - from) (drop from bytes)

abbrev pub behind : List ℕ → ℕ → ℕ → List ℕ
behind bytes from to = drop (to - from) (drop from bytes)

pub part_behind : (bytes : List ℕ) (from to : ℕ) → part bytes from to ++ behind bytes from to ≡ drop from bytes
part_behind bytes from to = take-append-drop (to - from) (drop from bytes)

pub behind_length : (bytes : List ℕ) (from to : ℕ) → from ≤ to → to ≤ length bytes → length (behind bytes from to) + to ≡ length bytes
behind_length bytes from to rises within = omega (arith, length-drop (to - from) (drop from bytes), length-drop from bytes)

pub part_length : (bytes : List ℕ) (from to : ℕ) → to ≤ length bytes → length (part bytes from to) ≡ to - from
part_length bytes from to within = length-take-le (to - from) (drop from bytes) (omega (arith, length-drop from bytes))

-- an offset at which a byte stands
pub byte_within : (bytes : List ℕ) (offset b : ℕ) (rest : List ℕ) → drop offset bytes ≡ b ∷ rest → offset ≤ length bytes
byte_within bytes offset b rest stands = omega (arith, length-drop offset bytes, ap length stands)

-- Where something was read from a part, and the rest is left of it: it ends within the part.
pub record Cut (bytes : List ℕ) (from to : ℕ) (rest : List ℕ) : Type 0 where
  pub some : from < to - length rest
  pub short : length rest ≤ to
  pub all : (to - length rest) + length (rest ++ behind bytes from to) ≡ length bytes

pub cut_at : (bytes : List ℕ) (from to : ℕ) (rest : List ℕ) → to ≤ length bytes → length rest < length (part bytes from to) → Cut bytes from to rest
cut_at bytes from to rest within less =
    let wide = part_length bytes from to within in
    let rises : from ≤ to = omega (arith, wide, less) in
    let tail = behind_length bytes from to rises within in
    let sum = length-append rest (behind bytes from to) in
    record { some = omega (arith, wide, less); short = omega (arith, wide, less); all = omega (arith, wide, less, tail, sum) }

pub IsBytes-take : (n : ℕ) (bytes : List ℕ) → IsBytes bytes → IsBytes (take n bytes)
IsBytes-take zero bytes fits i = omega arith
IsBytes-take (suc n) [] fits i = fits i
IsBytes-take (suc n) (b ∷ bytes) fits zero = fits 0
IsBytes-take (suc n) (b ∷ bytes) fits (suc i) = IsBytes-take n bytes (IsBytes-rest b bytes fits) i
