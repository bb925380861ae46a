-- What it means that pairs are alike: to a depth, by what they lead to. This knows no order of visits.
use Rattle.std.specs.Prelude.{◌≡◌, ℕ, zero, suc, ◌+◌, List, Result, Ok, Err, Option, Some, None}
use Rattle.std.specs.List.{Contains, AllByRecursion}
use Rattle.pair_walk.specs.Walk.{Visit}

module _ {P Q F : Type 0} (settle : P → Result Q F) (steps : Q → Result (Option (List P)) F) where
  -- the demands are met, and this holds of the pair of each part
  abbrev pub Leads : (P → Type 0) → Result (Option (List P)) F → Type 0
  Leads Holds (Err f) = ⊥
  Leads Holds (Ok None) = ⊥
  Leads Holds (Ok (Some parts)) = AllByRecursion Holds parts

  abbrev pub IsReady : (Q → Type 0) → Result Q F → Type 0
  IsReady Holds (Err f) = ⊥
  IsReady Holds (Ok q) = Holds q

  -- down to depth 0 every pair is alike
  abbrev pub Alike : ℕ → P → Type 0
  Alike zero p = Unit {0}
  Alike (suc n) p = IsReady (λ q. Leads (Alike n) (steps q)) (settle p)

  -- one of the pairs isn't alike down to a depth, counted with the steps that lead to the pair
  pub record Refuted (due : List (Visit P)) (depth : ℕ) : Type 0 where
    pub visit : Visit P
    pub below : ℕ
    pub is_due : Contains due visit
    pub is_at : depth ≡ visit.depth + below
    pub fails : Alike below visit.pair → ⊥
