-- Lists whose elements are looked at one by one.
use Rattle.std.proofs.Common.{◌≡◌, ℕ, ◌<◌, zero, suc, List, [], ◌∷◌, length, map, get_or, slice_get, Some, refl, ap, sym, subst, arith}
use Rattle.std.specs.List.{Contains, AllByRecursion}
use Rattle.std.proofs.lemmas.List.Elements.{Contains-append_right, Contains-get_or}

all_at : {X : Type 0} (P : X → Type 0) (xs : List X) (k : ℕ) (other : X) → AllByRecursion P xs → k < length xs → P (get_or xs k other)
all_at P [] k other all h = absurd (omega arith)
all_at P (x ∷ xs) zero other all h = all.0
all_at P (x ∷ xs) (suc k) other all h = all_at P xs k other all.1 (omega arith)

-- what holds of all holds of each, and back
pub all_of : {X : Type 0} (P : X → Type 0) (xs : List X) (x : X) → AllByRecursion P xs → Contains xs x → P x
all_of P xs x all (k, there, is) = subst P is (all_at P xs k x all there)

pub all_if : {X : Type 0} (P : X → Type 0) (xs : List X) → ((x : X) → Contains xs x → P x) → AllByRecursion P xs
all_if P [] each = tt
all_if P (x ∷ xs) each = (each x (Contains-get_or (x ∷ xs) 0 x (omega arith)), all_if P xs (λ other held. each other (Contains-append_right (x ∷ []) xs other held)))

pub all_mapped : {X Y : Type 0} (P : Y → Type 0) (f : X → Y) (xs : List X) → AllByRecursion (λ x. P (f x)) xs → AllByRecursion P (map f xs)
all_mapped P f [] all = tt
all_mapped P f (x ∷ xs) all = (all.0, all_mapped P f xs all.1)

pub all_weaker : {X : Type 0} (P Q : X → Type 0) → ((x : X) → P x → Q x) → (xs : List X) → AllByRecursion P xs → AllByRecursion Q xs
all_weaker P Q step [] all = tt
all_weaker P Q step (x ∷ xs) all = (step x all.0, all_weaker P Q step xs all.1)

pub contains_none : {X : Type 0} (x : X) → Contains [] x → ⊥
contains_none x (k, there, is) = omega arith

pub contains_one : {X : Type 0} (x y : X) → Contains (y ∷ []) x → x ≡ y
contains_one x y (zero, there, is) = sym is
contains_one x y (suc k, there, is) = absurd (omega arith)

pub place_held : {X : Type 0} (xs : List X) (i : ℕ) (x : X) → slice_get xs i ≡ Some x → Contains xs x
place_held [] i x h = absurd cc
place_held (y ∷ ys) zero x h = let e : y ≡ x = cc in subst (Contains (y ∷ ys)) e (Contains-get_or (y ∷ ys) 0 y (omega arith))
place_held (y ∷ ys) (suc i) x h = Contains-append_right (y ∷ []) ys x (place_held ys i x h)

-- what is in a list has a place there
pub place_of : {X : Type 0} (xs : List X) (x : X) → Contains xs x → (k : ℕ) × (slice_get xs k ≡ Some x) × (k < length xs)
place_of {X} xs x (k, there, is) = (k, by xs k there is, there)
  where
    by : (ys : List X) (i : ℕ) → i < length ys → get_or ys i x ≡ x → slice_get ys i ≡ Some x
    by [] i below e = absurd (omega arith)
    by (y ∷ ys) zero below e = ap Some e
    by (y ∷ ys) (suc i) below e = by ys i (omega arith) e

pub map_twice : {A B C : Type 0} (f : A → B) (g : B → C) (xs : List A) → map g (map f xs) ≡ map (λ x. g (f x)) xs
map_twice f g [] = refl
map_twice f g (x ∷ xs) = ap (λ rest. g (f x) ∷ rest) (map_twice f g xs)
