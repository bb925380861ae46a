-- Two lists that are gone through in step.
use Rattle.std.proofs.Common.{◌≡◌, ◌≢◌, ◌≤◌, ℕ, zero, suc, ◌+◌, List, [], ◌∷◌, ◌++◌, map, length, drop, slice_get, ◌&&◌, Bool, true, false, Option, Some, refl, ap, sym, ◌∙◌, append_assoc, arith}
use Rattle.std.proofs.lemmas.List.{append-nil}
use Rattle.go_values.specs.declared.qualified.QName.{QName}
use Rattle.type_terms.specs.declared.literals.Field.{Field}
use Rattle.type_terms.specs.declared.literals.ParamNode.{ParamNode}
use Rattle.type_terms.specs.NodeShapes.{field_shape, param_shape}
use Rattle.type_terms.specs.Trees.{Text}
use Rattle.type_alike.specs.Demands.{in_step, same_field, same_fields, field_parts, param_parts}
use Rattle.type_demands.specs.declared.demands.Pair.{Pair}
use Rattle.type_demands.specs.NodeDemands.{node_pair}

drop_next : {X : Type 0} (xs : List X) (k : ℕ) (x : X) → slice_get xs k ≡ Some x → drop k xs ≡ x ∷ drop (suc k) xs
drop_next [] k x is = absurd cc
drop_next (y ∷ xs) zero x is = let same : y ≡ x = cc in ap (λ z. z ∷ xs) same
drop_next (y ∷ xs) (suc k) x is = drop_next xs k x is

pub drop_past : {X : Type 0} (xs : List X) (k : ℕ) → length xs ≤ k → drop k xs ≡ []
drop_past [] zero past = refl
drop_past [] (suc k) past = refl
drop_past (x ∷ xs) zero past = absurd (omega (arith, past))
drop_past (x ∷ xs) (suc k) past = drop_past xs k (omega (arith, past))

-- pairs that were pushed, and those that are left
module _ {X : Type 0} (type_of : X → ℕ) (generic : ℕ → Option QName) where
  next_pairs : (xs ys : List X) (k : ℕ) (x y : X) → slice_get xs k ≡ Some x → slice_get ys k ≡ Some y
      → in_step generic node_pair (map type_of (drop k xs)) (map type_of (drop k ys))
      ≡ node_pair (type_of x) (type_of y) ∷ in_step generic node_pair (map type_of (drop (suc k) xs)) (map type_of (drop (suc k) ys))
  next_pairs xs ys k x y left right =
      λ i. in_step generic node_pair (map type_of (drop_next xs k x left i)) (map type_of (drop_next ys k y right i))

  pub one_pushed : (into old : List Pair) (xs ys : List X) (k : ℕ) (x y : X) → slice_get xs k ≡ Some x → slice_get ys k ≡ Some y
      → into ++ in_step generic node_pair (map type_of (drop k xs)) (map type_of (drop k ys)) ≡ old
      → (into ++ node_pair (type_of x) (type_of y) ∷ []) ++ in_step generic node_pair (map type_of (drop (k + 1) xs)) (map type_of (drop (k + 1) ys)) ≡ old
  one_pushed into old xs ys k x y left right so_far =
      let on : k + 1 ≡ suc k = omega arith in
      ap (λ n. (into ++ node_pair (type_of x) (type_of y) ∷ []) ++ in_step generic node_pair (map type_of (drop n xs)) (map type_of (drop n ys))) on
      ∙ append_assoc into (node_pair (type_of x) (type_of y) ∷ []) (in_step generic node_pair (map type_of (drop (suc k) xs)) (map type_of (drop (suc k) ys)))
      ∙ ap (λ rest. into ++ rest) (sym (next_pairs xs ys k x y left right)) ∙ so_far

  pub all_pushed : (into old : List Pair) (xs ys : List X) (k : ℕ) → length xs ≤ k
      → into ++ in_step generic node_pair (map type_of (drop k xs)) (map type_of (drop k ys)) ≡ old → into ≡ old
  all_pushed into old xs ys k past so_far =
      sym (append-nil into)
      ∙ ap (λ rest. into ++ in_step generic node_pair (map type_of rest) (map type_of (drop k ys))) (sym (drop_past xs k past)) ∙ so_far

-- fields that were compared, and those that are left
module _ (home other : Text) where
  pub uneven : (xs ys : List Field) → length xs ≢ length ys → same_fields home other (map field_shape xs) (map field_shape ys) ≡ false
  uneven [] [] other_length = absurd (other_length refl)
  uneven [] (y ∷ ys) other_length = refl
  uneven (x ∷ xs) [] other_length = refl
  uneven (x ∷ xs) (y ∷ ys) other_length =
      by (same_field home other (field_shape x) (field_shape y)) (same_fields home other (map field_shape xs) (map field_shape ys)) (uneven xs ys (λ e. other_length (ap suc e)))
    where
      by : (a b : Bool) → b ≡ false → (a && b) ≡ false
      by true b e = e
      by false b e = refl

  next_fields : (xs ys : List Field) (k : ℕ) (x y : Field) → slice_get xs k ≡ Some x → slice_get ys k ≡ Some y
      → same_fields home other (map field_shape (drop k xs)) (map field_shape (drop k ys))
      ≡ (same_field home other (field_shape x) (field_shape y) && same_fields home other (map field_shape (drop (suc k) xs)) (map field_shape (drop (suc k) ys)))
  next_fields xs ys k x y left right =
      λ i. same_fields home other (map field_shape (drop_next xs k x left i)) (map field_shape (drop_next ys k y right i))

  pub one_same : (all : Bool) (xs ys : List Field) (k : ℕ) (x y : Field) → slice_get xs k ≡ Some x → slice_get ys k ≡ Some y
      → same_field home other (field_shape x) (field_shape y) ≡ true
      → same_fields home other (map field_shape (drop k xs)) (map field_shape (drop k ys)) ≡ all
      → same_fields home other (map field_shape (drop (k + 1) xs)) (map field_shape (drop (k + 1) ys)) ≡ all
  one_same all xs ys k x y left right same so_far =
      let on : k + 1 ≡ suc k = omega arith in
      let rest = same_fields home other (map field_shape (drop (suc k) xs)) (map field_shape (drop (suc k) ys)) in
      ap (λ n. same_fields home other (map field_shape (drop n xs)) (map field_shape (drop n ys))) on
      ∙ ap (λ b. b && rest) (sym same) ∙ sym (next_fields xs ys k x y left right) ∙ so_far

  pub one_other : (all : Bool) (xs ys : List Field) (k : ℕ) (x y : Field) → slice_get xs k ≡ Some x → slice_get ys k ≡ Some y
      → same_field home other (field_shape x) (field_shape y) ≡ false
      → same_fields home other (map field_shape (drop k xs)) (map field_shape (drop k ys)) ≡ all → false ≡ all
  one_other all xs ys k x y left right differs so_far =
      let rest = same_fields home other (map field_shape (drop (suc k) xs)) (map field_shape (drop (suc k) ys)) in
      ap (λ b. b && rest) (sym differs) ∙ sym (next_fields xs ys k x y left right) ∙ so_far

  pub none_left : (all : Bool) (xs ys : List Field) (k : ℕ) → length xs ≤ k → length ys ≤ k
      → same_fields home other (map field_shape (drop k xs)) (map field_shape (drop k ys)) ≡ all → true ≡ all
  none_left all xs ys k left right so_far =
      ap (λ rest. same_fields home other (map field_shape rest) []) (sym (drop_past xs k left))
      ∙ ap (λ rest. same_fields home other (map field_shape (drop k xs)) (map field_shape rest)) (sym (drop_past ys k right)) ∙ so_far

-- the types of fields and of parameters, shaped or not
pub field_types : (xs : List Field) → map (λ x. x.ty) xs ≡ field_parts (map field_shape xs)
field_types [] = refl
field_types (x ∷ xs) = ap (λ rest. x.ty ∷ rest) (field_types xs)

pub param_types : (xs : List ParamNode) → map (λ x. x.ty) xs ≡ param_parts (map param_shape xs)
param_types [] = refl
param_types (x ∷ xs) = ap (λ rest. x.ty ∷ rest) (param_types xs)
