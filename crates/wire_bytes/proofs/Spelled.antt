-- Spelling a number: the groups so far, and each step.
use Rattle.std.proofs.Common.{◌≡◌, ℕ, ◌+◌, ◌-◌, ◌*◌, ◌/◌, ◌%◌, ◌^◌, ◌<◌, ◌≤◌, List, [], ◌∷◌, ◌++◌, length, take, set, refl, subst, arith, append_assoc, inl, inr}
use Rattle.std.proofs.Math.Nat.{pow-le-pow_right, mul-le-mul_right}
use Rattle.std.proofs.lemmas.Bool.{cases_lt}
use Rattle.std.proofs.lemmas.Grind.{pow_more}
use Rattle.std.proofs.lemmas.List.{take_more_set}
use Rattle.wire_bytes.specs.Uvarint.{IsGroups, Uvarint}

-- len groups stand in the room, and what spells the rest may follow them
pub record SpelledSoFar (number rest len : ℕ) (room : List ℕ) : Type 0 where
  pub few : len ≤ 9
  pub weighs : rest * 128 ^ len ≤ number
  pub spells : (more : List ℕ) → IsGroups more rest → IsGroups (take len room ++ more) number

-- one more byte before a spelling
pub one_more : (b h : ℕ) (front : List ℕ) → 128 ≤ b → b < 256 → 0 < h → IsGroups front h → IsGroups (b ∷ front) (b - 128 + 128 * h)
one_more b h [] high byte some groups = elim groups [ ]
one_more b h (c ∷ front) high byte some groups = (high, byte, h, some, omega arith, groups)

pub begins : (number : ℕ) (room : List ℕ) → SpelledSoFar number number 0 room
begins number room = record { few = omega arith; weighs = omega arith; spells = λ more groups. groups }

-- a number of 64 bits has at most ten groups
pub fewer : (number rest len : ℕ) (room : List ℕ) → SpelledSoFar number rest len room → number < 2 ^ 64 → 128 ≤ rest → len < 9
fewer number rest len room so small more =
    elim (cases_lt len 9) [
      | inl lt ↦ lt
      | inr ge ↦
          let some : 0 < 128 = omega arith in
          let power : 128 ^ 9 ≤ 128 ^ len = pow-le-pow_right some ge in
          let least : 128 * 128 ^ len ≤ rest * 128 ^ len = mul-le-mul_right (128 ^ len) more in
          absurd (omega (arith, so.weighs))
    ]

pub goes_on : (number rest len : ℕ) (room : List ℕ) → SpelledSoFar number rest len room → number < 2 ^ 64 → 128 ≤ rest → length room ≡ 10
    → SpelledSoFar number (rest / 128) (len + 1) (set room len (rest % 128 + 128))
goes_on number rest len room so small more wide =
    let lt : len < 9 = fewer number rest len room so small more in
    let inside : len < length room = omega arith in
    let part : (rest / 128 * 128) * 128 ^ len ≤ rest * 128 ^ len = mul-le-mul_right (128 ^ len) (omega arith) in
    let power : 128 ^ (len + 1) ≡ 128 ^ len * 128 = pow_more 128 len in
    let value : rest % 128 + 128 - 128 + 128 * (rest / 128) ≡ rest = omega arith in
    record {
      few = omega arith;
      weighs = rw power (omega (arith, so.weighs));
      spells = λ after groups.
          let longer : IsGroups ((rest % 128 + 128) ∷ after) rest = subst (IsGroups ((rest % 128 + 128) ∷ after)) value (one_more (rest % 128 + 128) (rest / 128) after (omega arith) (omega arith) (omega arith) groups) in
          rw (take_more_set room len (rest % 128 + 128), append_assoc (take len room) ((rest % 128 + 128) ∷ []) after) (so.spells ((rest % 128 + 128) ∷ after) longer);
    }

pub ends : (number rest len : ℕ) (room : List ℕ) → SpelledSoFar number rest len room → number < 2 ^ 64 → rest < 128 → length room ≡ 10
    → Uvarint (take (len + 1) (set room len rest)) number
ends number rest len room so small low wide =
    let inside : len < length room = omega (arith, so.few) in
    record {
      groups = rw (take_more_set room len rest) (so.spells (rest ∷ []) (low, refl));
      bits = small;
    }
