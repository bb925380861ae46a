-- The test of exported names is true of exported names alone.
use Rattle.std.proofs.Common.{◌≡◌, ◌↔◌, ℕ, List, [], ◌∷◌, IsTrue, refl}
use Rattle.unicode.specs.GeneralCategory.{general_category}
use Rattle.ucd_category.specs.declared.GeneralCategory.{GeneralCategory}
use Rattle.ucd_category.specs.declared.GeneralCategory.TheVariants.{UppercaseLetter}
use Rattle.environments.specs.Exported.{StartsUpper, is_upper, starts_upper}

upper_is_tested : (c : GeneralCategory) → IsTrue (is_upper c) ↔ (c ≡ UppercaseLetter)
upper_is_tested UppercaseLetter = (λ h. refl, λ h. refl)
upper_is_tested _ = (λ h. (cc), λ h. (cc))

pub starting_is_tested : (cs : List ℕ) → IsTrue (starts_upper cs) ↔ StartsUpper cs
starting_is_tested [] = (λ h. (cc), λ h. absurd h)
starting_is_tested (c ∷ cs) = upper_is_tested (general_category c)
