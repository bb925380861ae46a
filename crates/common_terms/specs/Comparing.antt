-- The comparisons to which two lists of terms come as they meet, and what is needed for these. X are names that are
-- asked for, or types that are opened.
use Rattle.std.specs.Prelude.{◌≡◌, ◌⊎◌, List, [], ◌∷◌, Bool, false, Result, Ok, IsOkAnd, map}
use Rattle.type_terms.specs.declared.descriptors.Node.{Node}
use Rattle.type_terms.specs.declared.literals.Term.{Term as Code}
use Rattle.type_terms.specs.Denotation.{tree}
use Rattle.type_terms.specs.Trees.{Tree}
use Rattle.interface_opening.specs.Elements.{Term}
use Rattle.interface_opening.specs.Terms.{◌>>=◌, common, with_term, meet_one}

-- the terms that are meant, where an arena has these nodes
abbrev pub term_meant : List Node → Code → Term Tree
term_meant nodes x = record { tilde = x.tilde; type = tree nodes x.ty }

abbrev pub terms_meant : List Node → List Code → List (Term Tree)
terms_meant nodes xs = map (term_meant nodes) xs

module _ {T F : Type 0} (same_term : Term T → Term T → Bool) (covered : Term T → Term T → Result Bool F) where
  -- what two terms add to those that were found
  abbrev pub compared : Term T → Term T → List (Term T) → Result (List (Term T)) F
  compared x y found = common same_term covered x y >>= λ z. Ok (with_term same_term covered found z)

  module _ {X : Type 0} (needs : Term T → Term T → X → Type 0) where
    -- Two terms are compared one way, and the other way where the second doesn't cover the first.
    abbrev pub AtCommon : Term T → Term T → X → Type 0
    AtCommon x y a = needs x y a ⊎ ((covered x y ≡ Ok false) × needs y x a)

    -- a term is compared with those of a list, up to a fault
    abbrev pub AtOne : Term T → List (Term T) → List (Term T) → X → Type 0
    AtOne x [] found a = ⊥
    AtOne x (y ∷ ys) found a = AtCommon x y a ⊎ IsOkAnd (compared x y found) (λ more. AtOne x ys more a)

    -- and each term of a list
    abbrev pub AtLists : List (Term T) → List (Term T) → List (Term T) → X → Type 0
    AtLists [] ys found a = ⊥
    AtLists (x ∷ xs) ys found a =
        AtOne x ys found a ⊎ IsOkAnd (meet_one same_term covered x ys found) (λ more. AtLists xs ys more a)
