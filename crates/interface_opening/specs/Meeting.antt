-- What a term of two elements is, apart from how it is found.
use Rattle.std.specs.Prelude.{◌≡◌, ◌⊎◌, List, Bool, true, false, Result, Ok}
use Rattle.std.specs.List.{Contains}
use Rattle.interface_opening.specs.Elements.{Term}

module _ {T F : Type 0} (covered : Term T → Term T → Result Bool F) where
  -- the first, covered by the second, or else the second, covered by the first
  abbrev pub IsCommon : Term T → Term T → Term T → Type 0
  IsCommon x y z =
      ((covered x y ≡ Ok true) × (z ≡ x)) ⊎ ((covered x y ≡ Ok false) × (covered y x ≡ Ok true) × (z ≡ y))

  -- it is what a term of one element and one of the other have in common
  pub record IsMeeting (xs ys : List (Term T)) (z : Term T) : Type 0 where
    pub left : Term T
    pub right : Term T
    pub in_left : Contains xs left
    pub in_right : Contains ys right
    pub common : IsCommon left right z
