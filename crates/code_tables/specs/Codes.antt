-- Lists of codes, and of texts in order.
use Rattle.std.specs.Prelude.{ℕ, List, [], ◌∷◌, Bool, true, not, ◌&&◌, ◌==◌}
use Rattle.std.specs.List.{list_any}
use Rattle.std.specs.Ordering.{nat_cmp, is_lt}
use Rattle.std.specs.Cmp.Lexicographic.{slice_cmp}

-- the test that no code stands twice
abbrev pub all_distinct : List ℕ → Bool
all_distinct [] = true
all_distinct (code ∷ codes) = not (list_any (λ other. code == other) codes) && all_distinct codes

-- the test that each text is bytewise below the next one
abbrev pub rises : List (List ℕ) → Bool
rises [] = true
rises (text ∷ []) = true
rises (text ∷ next ∷ texts) = is_lt (slice_cmp nat_cmp text next) && rises (next ∷ texts)
