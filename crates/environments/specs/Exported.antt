-- Exported names (the Go specification, Exported identifiers).
use Rattle.std.specs.Prelude.{◌≡◌, ℕ, List, [], ◌∷◌, Bool, true, false, take}
use Rattle.std.specs.Str.{chars}
use Rattle.std.specs.Str.Lossy.{utf8_valid_len}
use Rattle.unicode.specs.GeneralCategory.{general_category}
use Rattle.ucd_category.specs.declared.GeneralCategory.{GeneralCategory}
use Rattle.ucd_category.specs.declared.GeneralCategory.TheVariants.{UppercaseLetter}

-- the longest front that is UTF-8
abbrev pub valid_front : List ℕ → List ℕ
valid_front bytes = take (utf8_valid_len bytes) bytes

abbrev pub StartsUpper : List ℕ → Type 0
StartsUpper [] = ⊥
StartsUpper (c ∷ cs) = general_category c ≡ UppercaseLetter

-- the name begins with the UTF-8 spelling of an upper case letter
abbrev pub IsExported : List ℕ → Type 0
IsExported name = StartsUpper (chars (valid_front name))

-- The same as a test.
abbrev pub is_upper : GeneralCategory → Bool
is_upper UppercaseLetter = true
is_upper _ = false

abbrev pub starts_upper : List ℕ → Bool
starts_upper [] = false
starts_upper (c ∷ cs) = is_upper (general_category c)

abbrev pub exported : List ℕ → Bool
exported name = starts_upper (chars (valid_front name))
