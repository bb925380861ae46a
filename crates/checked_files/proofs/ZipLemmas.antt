-- Lists whose items stand to each other, place by place.
use Rattle.std.proofs.Common.{◌≡◌, ℕ, zero, suc, ◌+◌, ◌≤◌, List, [], ◌∷◌, ◌++◌, ◌<◌, map, take, length, None, Some, Option, option_map, slice_get, refl, sym, ap, ◌∙◌, subst, arith}
use Rattle.std.specs.List.{AllZip, AllByRecursion}

pub zip_push : {A B : Type 0} (R : A → B → Type 0) (xs : List A) (ys : List B) (x : A) (y : B) → AllZip R xs ys → R x y → AllZip R (xs ++ x ∷ []) (ys ++ y ∷ [])
zip_push R [] [] x y all one = (one, tt)
zip_push R [] (z ∷ ys) x y all one = absurd all
zip_push R (z ∷ xs) [] x y all one = absurd all
zip_push R (z ∷ xs) (w ∷ ys) x y all one = (all.0, zip_push R xs ys x y all.1 one)

pub record Beside {A B : Type 0} (R : A → B → Type 0) (xs : List A) (i : ℕ) (y : B) : Type 0 where
  pub x : A
  pub there : slice_get xs i ≡ Some x
  pub is : R x y

-- what stands beside an item
pub zip_at : {A B : Type 0} (R : A → B → Type 0) (xs : List A) (ys : List B) (i : ℕ) (y : B) → AllZip R xs ys → slice_get ys i ≡ Some y → Beside R xs i y
zip_at R [] [] i y all at = absurd cc
zip_at R [] (w ∷ ys) i y all at = absurd all
zip_at R (x ∷ xs) [] i y all at = absurd all
zip_at R (x ∷ xs) (w ∷ ys) zero y all at = let same : w ≡ y = cc in record { x = x; there = refl; is = subst (R x) same all.0 }
zip_at R (x ∷ xs) (w ∷ ys) (suc i) y all at = let b = zip_at R xs ys i y all.1 at in record { x = b.x; there = b.there; is = b.is }

pub zip_wider : {A B : Type 0} (R S : A → B → Type 0) → ((x : A) (y : B) → R x y → S x y) → (xs : List A) (ys : List B) → AllZip R xs ys → AllZip S xs ys
zip_wider R S wider [] [] all = tt
zip_wider R S wider [] (y ∷ ys) all = absurd all
zip_wider R S wider (x ∷ xs) [] all = absurd all
zip_wider R S wider (x ∷ xs) (y ∷ ys) all = (wider x y all.0, zip_wider R S wider xs ys all.1)

-- what holds of each on the left
pub zip_left : {A B : Type 0} (R : A → B → Type 0) (P : A → Type 0) → ((x : A) (y : B) → R x y → P x) → (xs : List A) (ys : List B) → AllZip R xs ys → AllByRecursion P xs
zip_left R P each [] [] all = tt
zip_left R P each [] (y ∷ ys) all = absurd all
zip_left R P each (x ∷ xs) [] all = absurd all
zip_left R P each (x ∷ xs) (y ∷ ys) all = (each x y all.0, zip_left R P each xs ys all.1)

-- two such relations over one list, joined
pub zip_join : {A B C : Type 0} (R : A → B → Type 0) (S : A → C → Type 0) (T : C → B → Type 0) → ((x : A) (y : B) (z : C) → R x y → S x z → T z y) → (xs : List A) (ys : List B) (zs : List C)
    → AllZip R xs ys → AllZip S xs zs → AllZip T zs ys
zip_join R S T join [] [] [] r s = tt
zip_join R S T join [] [] (z ∷ zs) r s = absurd s
zip_join R S T join [] (y ∷ ys) zs r s = absurd r
zip_join R S T join (x ∷ xs) [] zs r s = absurd r
zip_join R S T join (x ∷ xs) (y ∷ ys) [] r s = absurd s
zip_join R S T join (x ∷ xs) (y ∷ ys) (z ∷ zs) r s = (join x y z r.0 s.0, zip_join R S T join xs ys zs r.1 s.1)

pub zip_map : {A B C : Type 0} (R : A → C → Type 0) (f : B → C) (xs : List A) (ys : List B) → AllZip (λ x y. R x (f y)) xs ys → AllZip R xs (map f ys)
zip_map R f [] [] all = tt
zip_map R f [] (y ∷ ys) all = absurd all
zip_map R f (x ∷ xs) [] all = absurd all
zip_map R f (x ∷ xs) (y ∷ ys) all = (all.0, zip_map R f xs ys all.1)

pub zip_unmap : {A B C : Type 0} (R : A → C → Type 0) (f : B → A) (xs : List B) (ys : List C) → AllZip R (map f xs) ys → AllZip (λ x y. R (f x) y) xs ys
zip_unmap R f [] [] all = tt
zip_unmap R f [] (y ∷ ys) all = absurd all
zip_unmap R f (x ∷ xs) [] all = absurd all
zip_unmap R f (x ∷ xs) (y ∷ ys) all = (all.0, zip_unmap R f xs ys all.1)

-- one more of the second list
pub take_next : {X : Type 0} (xs : List X) (i : ℕ) (x : X) → slice_get xs i ≡ Some x → take (i + 1) xs ≡ take i xs ++ x ∷ []
take_next {X} xs i x at = let n : i + 1 ≡ suc i = omega arith in ap (λ n. take n xs) n ∙ go xs i at
  where
    go : (xs : List X) (i : ℕ) → slice_get xs i ≡ Some x → take (suc i) xs ≡ take i xs ++ x ∷ []
    go [] i at = absurd cc
    go (y ∷ xs) zero at = let same : y ≡ x = cc in ap (λ y. y ∷ []) same
    go (y ∷ xs) (suc i) at = ap (λ ys. y ∷ ys) (go xs i at)

-- one more was looked at
pub zip_turn : {A B : Type 0} (R : A → B → Type 0) (xs : List A) (ys more : List B) (i : ℕ) (x : A) (y : B) → slice_get xs i ≡ Some x → AllZip R (take i xs) ys → R x y → more ≡ ys ++ y ∷ []
    → AllZip R (take (i + 1) xs) more
zip_turn R xs ys more i x y at all one pushed =
    subst (AllZip R (take (i + 1) xs)) (sym pushed) (subst (λ front. AllZip R front (ys ++ y ∷ [])) (sym (take_next xs i x at)) (zip_push R (take i xs) ys x y all one))

pub map_push : {A B : Type 0} (f : A → B) (xs : List A) (x : A) → map f (xs ++ x ∷ []) ≡ map f xs ++ f x ∷ []
map_push f [] x = refl
map_push f (y ∷ xs) x = ap (λ t. f y ∷ t) (map_push f xs x)

-- something stands below the length
pub not_none : {X : Type 0} (xs : List X) (i n : ℕ) → None ≡ slice_get xs i → n ≡ length xs → i < n → ⊥
not_none [] i n none counted below = absurd (omega (arith, counted))
not_none (x ∷ xs) zero n none counted below = absurd cc
not_none (x ∷ xs) (suc i) n none counted below = not_none xs i (length xs) none refl (omega (arith, counted, below))
