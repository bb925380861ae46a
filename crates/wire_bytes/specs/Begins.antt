-- Grammars: which bytes spell which value.
use Rattle.std.specs.Prelude.{◌≡◌, ℕ, List, [], ◌++◌}

-- the bytes begin with a spelling of the value, and the rest follows it
abbrev pub Begins : {X : Type 0} → (List ℕ → X → Type 0) → List ℕ → X → List ℕ → Type 0
Begins Spells bytes x rest = (front : List ℕ) × Spells front x × (bytes ≡ front ++ rest)

-- A value has one spelling at the most, and none is a proper beginning of another. So of what bytes begin with, and of
-- what follows it, there is no doubt, and what is written is read again.
pub record IsPrefixCode {X : Type 0} (Spells : List ℕ → X → Type 0) : Type 0 where
  pub one : (a b : List ℕ) (x : X) → Spells a x → Spells b x → a ≡ b
  pub prefix : (a b : List ℕ) (x y : X) → Spells a x → Spells (a ++ b) y → b ≡ []
  pub front : (bytes rest others : List ℕ) (x y : X) → Begins Spells bytes x rest → Begins Spells bytes y others
      → (x ≡ y) × (rest ≡ others)

-- a spelling of the value was added at the end
abbrev pub Appends : {X : Type 0} → (List ℕ → X → Type 0) → List ℕ → X → List ℕ → Type 0
Appends Spells old x new = (spelling : List ℕ) × Spells spelling x × (new ≡ old ++ spelling)
