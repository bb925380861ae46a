-- What a sink of bytes took, as an object that tells it shows it.
use Rattle.std.specs.Prelude.{◌≡◌, ℕ, ◌≤◌, List, ◌++◌, length, take, Option, None, Some}
use Rattle.outside.specs.Counts.{Rose}

-- what was written, where the sink tells that, and the count of its faults
pub record SinkState : Type 0 where
  pub written : Option (List ℕ)
  pub faults : ℕ

-- What was written before and after a call. A sink tells this at all times, or never.
abbrev pub IfBothWritten : Option (List ℕ) → Option (List ℕ) → (List ℕ → List ℕ → Type 0) → Type 0
IfBothWritten (Some before) (Some after) P = P before after
IfBothWritten None None P = Unit {0}
IfBothWritten (Some before) None P = ⊥
IfBothWritten None (Some after) P = ⊥

-- the first bytes of a piece were added, all of them or fewer
abbrev pub AddsPrefix : List ℕ → List ℕ → List ℕ → Type 0
AddsPrefix piece before after = (n : ℕ) × (n ≤ length piece) × (after ≡ before ++ take n piece)

-- the text was added, and no fault was met
pub record Wrote (before after : SinkState) (text : List ℕ) : Type 0 where
  pub added : IfBothWritten before.written after.written (λ b a. a ≡ b ++ text)
  pub sound : after.faults ≡ before.faults

-- the first bytes of the text were added, or none, and a fault was met
pub record WroteSome (before after : SinkState) (text : List ℕ) : Type 0 where
  pub added : IfBothWritten before.written after.written (AddsPrefix text)
  pub failed : Rose before.faults after.faults
