-- Going on behind a counted list of numbers.
use Rattle.std.proofs.Common.{◌≡◌, ℕ, suc, ◌+◌, ◌-◌, ◌<◌, ◌≤◌, List, Option, Some, None, refl, sym, ◌∙◌, arith}
use Rattle.decl_spelling.specs.Heads.{find_number, pass_times}

pub goes_on : (count i : ℕ) (a : List ℕ) (n : ℕ) (b : List ℕ) (total : Option (List ℕ)) → i < count → find_number a ≡ Some (n, b) → pass_times (count - i) a ≡ total → pass_times (count - (i + 1)) b ≡ total
unfolding pass_times
goes_on count i a n b total lt found so_far =
    let left : count - i ≡ suc (count - (i + 1)) = omega arith in
    let step : pass_times (count - i) a ≡ pass_times (count - (i + 1)) b = rw (left, found) refl in
    sym step ∙ so_far

pub stops : (count i : ℕ) (a : List ℕ) (total : Option (List ℕ)) → i < count → find_number a ≡ None → pass_times (count - i) a ≡ total → total ≡ None
unfolding pass_times
stops count i a total lt found so_far =
    let left : count - i ≡ suc (count - (i + 1)) = omega arith in
    let step : pass_times (count - i) a ≡ None = rw (left, found) refl in
    sym so_far ∙ step

pub is_done : (count i : ℕ) (a : List ℕ) (total : Option (List ℕ)) → count ≤ i → pass_times (count - i) a ≡ total → total ≡ Some a
unfolding pass_times
is_done count i a total le so_far =
    let left : count - i ≡ 0 = omega arith in
    let step : pass_times (count - i) a ≡ Some a = rw left refl in
    sym so_far ∙ step
