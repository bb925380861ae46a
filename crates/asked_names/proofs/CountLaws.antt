-- How many distinct names there are is one number.
use Rattle.std.proofs.Common.{◌≡◌, ℕ, suc, ◌≤◌, List, [], ◌∷◌, length, Bool, true, false, Some, slice_get, refl, sym, ap, arith}
use Rattle.std.specs.List.{Contains, AllByRecursion, IsDistinct}
use Rattle.std.proofs.lemmas.Map.Made.{length-le_from_is_member}
use Rattle.std.proofs.lemmas.Map.Views.{Contains-from_any, list_any-from_Contains}
use Rattle.go_values.specs.declared.qualified.QName.{QName}
use Rattle.go_values.specs.Exact.{exact_qname}
use Rattle.go_values.specs.contracts.qualified.QNameEq.TheImpl.Laws.{laws-law}
use Rattle.asked_names.specs.Counting.{IsCount}
use Rattle.asked_names.proofs.CountingLemmas.{same}

abbrev IsOnce : List QName → Type 0
IsOnce xs = (i j : ℕ) (q : QName) → slice_get xs i ≡ Some q → slice_get xs j ≡ Some q → i ≡ j

all_apart : (x : QName) (xs : List QName) → ((i : ℕ) → slice_get xs i ≡ Some x → ⊥) → AllByRecursion (λ y. same x y ≡ false) xs
all_apart x [] none = tt
all_apart x (y ∷ ys) none = (apart (same x y) refl, all_apart x ys (λ i at. none (suc i) at))
  where
    apart : (b : Bool) → same x y ≡ b → b ≡ false
    apart true e = absurd (none 0 (ap Some (sym (exact_qname x y e))))
    apart false e = refl

distinct : (xs : List QName) → IsOnce xs → IsDistinct same xs
unfolding IsDistinct
distinct [] once = tt
distinct (x ∷ xs) once = (
  all_apart x xs (λ i at. let e : 0 ≡ suc i = once 0 (suc i) x refl at in omega (arith, e)),
  distinct xs (λ i j q a b. let e : suc i ≡ suc j = once (suc i) (suc j) q a b in omega (arith, e)),
)

no_more : (xs ys : List QName) → IsOnce xs → ((q : QName) → Contains xs q → Contains ys q) → length xs ≤ length ys
no_more xs ys once among =
    length-le_from_is_member laws-law xs ys (distinct xs once)
    (λ q has. list_any-from_Contains laws-law q ys (among q (Contains-from_any exact_qname q xs has)))

pub one_count : (names : List QName) (m n : ℕ) → IsCount names m → IsCount names n → m ≡ n
one_count names m n (xs, x, first) (ys, y, second) =
    let some = no_more xs ys x.once (λ q has. y.all q (x.from q has)) in
    let others = no_more ys xs y.once (λ q has. x.all q (y.from q has)) in
    omega (arith, some, others, first, second)
