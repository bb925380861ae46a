-- Operators and punctuation (the language specification's section of this name), by their lengths.
use Rattle.std.specs.Prelude.{ℕ, Bool, ◌==◌, List, [], ◌∷◌, codes, nat_eq}
use Rattle.std.specs.List.{list_any}
use Rattle.std.specs.Cmp.Lexicographic.{pointwise}

abbrev pub single_marks : List ℕ
single_marks = codes "+-*/%&|^<>=!()[]{},;.:~"

abbrev pub pair_marks : List (List ℕ)
pair_marks =
    codes "<<" ∷ codes ">>" ∷ codes "&^" ∷ codes "+=" ∷ codes "-=" ∷ codes "*=" ∷ codes "/=" ∷ codes "%=" ∷ codes "&="
    ∷ codes "|=" ∷ codes "^="
    ∷ codes "&&" ∷ codes "||" ∷ codes "<-" ∷ codes "++" ∷ codes "--" ∷ codes "==" ∷ codes "!=" ∷ codes "<="
    ∷ codes ">=" ∷ codes ":=" ∷ []

abbrev pub triple_marks : List (List ℕ)
triple_marks = codes "<<=" ∷ codes ">>=" ∷ codes "&^=" ∷ codes "..." ∷ []

abbrev pub is_single : ℕ → Bool
is_single c = list_any (λ m. m == c) single_marks

abbrev pub is_pair : ℕ → ℕ → Bool
is_pair a b = list_any (λ (m : List ℕ). pointwise nat_eq m (a ∷ b ∷ [])) pair_marks

abbrev pub is_triple : ℕ → ℕ → ℕ → Bool
is_triple a b c = list_any (λ (m : List ℕ). pointwise nat_eq m (a ∷ b ∷ c ∷ [])) triple_marks
