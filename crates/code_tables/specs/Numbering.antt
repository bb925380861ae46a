-- Where a list has each value at its number, numbers are below the list's length, and no two values have
-- the same number.
use Rattle.std.specs.Prelude.{◌≡◌, ◌<◌, ℕ, List, length, Some, slice_get, unwrap_or}
use Rattle.std.proofs.Common.{sym, ◌∙◌, ap}
use Rattle.std.proofs.lemmas.Option.{slice_get_within}

pub below_count : {T : Type 0} (values : List T) (number : T → ℕ)
    → ((value : T) → slice_get values (number value) ≡ Some value)
    → (value : T) → number value < length values
below_count values number at value = slice_get_within values (number value) value (at value)

pub exact_numbers : {T : Type 0} (values : List T) (number : T → ℕ)
    → ((value : T) → slice_get values (number value) ≡ Some value)
    → (left right : T) → number left ≡ number right → left ≡ right
exact_numbers values number at left right same =
    ap (λ found. unwrap_or found left) (sym (at left) ∙ ap (slice_get values) same ∙ at right)
