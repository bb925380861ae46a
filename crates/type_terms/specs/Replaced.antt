-- Lists whose elements have parts: a map that replaces the parts of each, and what follows of the parts of all.
use Rattle.std.proofs.Common.{◌≡◌, List, [], ◌∷◌, ◌++◌, map, refl, ap, sym, ◌∙◌}
use Rattle.std.specs.List.{flat_map, AllByRecursion}
use Rattle.std.proofs.lemmas.List.{map-append}

module _ {R : Type 0} (P : R → Type 0) where
  pub all_left : (xs ys : List R) → AllByRecursion P (xs ++ ys) → AllByRecursion P xs
  all_left [] ys all = tt
  all_left (x ∷ xs) ys all = (all.0, all_left xs ys all.1)

  pub all_right : (xs ys : List R) → AllByRecursion P (xs ++ ys) → AllByRecursion P ys
  all_right [] ys all = all
  all_right (x ∷ xs) ys all = all_right xs ys all.1

  pub all_append : (xs ys : List R) → AllByRecursion P xs → AllByRecursion P ys → AllByRecursion P (xs ++ ys)
  all_append [] ys left right = right
  all_append (x ∷ xs) ys left right = (left.0, all_append xs ys left.1 right)

-- the parts of what was replaced are the parts, replaced
module _ {A B R T : Type 0} (g : A → B) (f : R → T) (parts : A → List R) (parts' : B → List T) where
  pub parts_of_map : ((x : A) → parts' (g x) ≡ map f (parts x)) → (xs : List A)
      → flat_map parts' (map g xs) ≡ map f (flat_map parts xs)
  parts_of_map each [] = refl
  parts_of_map each (x ∷ xs) =
      ap (λ (front : List T). front ++ flat_map parts' (map g xs)) (each x)
      ∙ ap (λ (rest : List T). map f (parts x) ++ rest) (parts_of_map each xs)
      ∙ sym (map-append f (parts x) (flat_map parts xs))

-- two replacements that agree on the parts agree
module _ {A B R : Type 0} (g g' : A → B) (parts : A → List R) (P : R → Type 0) where
  pub map_agrees : ((x : A) → AllByRecursion P (parts x) → g x ≡ g' x) → (xs : List A)
      → AllByRecursion P (flat_map parts xs) → map g xs ≡ map g' xs
  map_agrees each [] all = refl
  map_agrees each (x ∷ xs) all =
      let head : g x ≡ g' x = each x (all_left P (parts x) (flat_map parts xs) all) in
      let tail : map g xs ≡ map g' xs = map_agrees each xs (all_right P (parts x) (flat_map parts xs) all) in
      (cc)

-- a replacement that tells parts apart tells lists apart
module _ {A B R : Type 0} (g : A → B) (parts : A → List R) (P Q : R → Type 0) where
  pub map_told : ((x y : A) → AllByRecursion P (parts x) → AllByRecursion Q (parts y) → g x ≡ g y → x ≡ y)
      → (xs ys : List A) → AllByRecursion P (flat_map parts xs) → AllByRecursion Q (flat_map parts ys)
      → map g xs ≡ map g ys → xs ≡ ys
  map_told each [] [] p q e = refl
  map_told each [] (y ∷ ys) p q e = (cc)
  map_told each (x ∷ xs) [] p q e = (cc)
  map_told each (x ∷ xs) (y ∷ ys) p q e =
      let heads : g x ≡ g y = (cc) in
      let tails : map g xs ≡ map g ys = (cc) in
      let head : x
      ≡ y = each x y (all_left P (parts x) (flat_map parts xs) p) (all_left Q (parts y) (flat_map parts ys) q)
      heads in
      let tail : xs
      ≡ ys = map_told each xs ys (all_right P (parts x) (flat_map parts xs) p)
      (all_right Q (parts y) (flat_map parts ys) q) tails in
      (cc)

pub singles : {R : Type 0} → (xs : List R) → flat_map (λ (x : R). x ∷ []) xs ≡ xs
singles [] = refl
singles (x ∷ xs) = ap (λ rest. x ∷ rest) (singles xs)
