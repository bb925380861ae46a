-- Texts that rise, bytewise.
use Rattle.std.specs.Prelude.{◌≡◌, ℕ, List, [], ◌∷◌, Option, Some, None, Bool, true}
use Rattle.std.specs.Cmp.Lexicographic.{slice_cmp}
use Rattle.std.specs.Ordering.{nat_cmp, is_lt}
use Rattle.std.specs.declared.cmp.Ordering.TheVariants.{Less}

abbrev pub IsBelow : List ℕ → List ℕ → Type 0
IsBelow a b = slice_cmp nat_cmp a b ≡ Less

-- texts that rise strictly, from above a first one on
abbrev pub RiseFrom : List ℕ → List (List ℕ) → Type 0
RiseFrom last [] = Unit {0}
RiseFrom last (t ∷ ts) = IsBelow last t × RiseFrom t ts

abbrev pub Rise : List (List ℕ) → Type 0
Rise [] = Unit {0}
Rise (t ∷ ts) = RiseFrom t ts

-- whether a text is above the one before it
abbrev pub rises : Option (List ℕ) → List ℕ → Bool
rises None text = true
rises (Some last) text = is_lt (slice_cmp nat_cmp last text)
