-- Lists of what nodes hold, one by one or all at once.
use Rattle.std.proofs.Common.{◌≡◌, ℕ, suc, List, [], ◌∷◌, ◌++◌, length, map, refl, ap, ap₂}
use Rattle.std.specs.List.{flat_map}
use Rattle.type_terms.specs.declared.literals.ParamNode.{ParamNode}
use Rattle.type_terms.specs.declared.literals.Field.{Field}
use Rattle.type_terms.specs.declared.literals.IMethod.{IMethod}
use Rattle.type_terms.specs.declared.literals.Term.{Term}
use Rattle.type_terms.specs.declared.declarations.Method.{Method}
use Rattle.type_terms.specs.NodeShapes.{param_shape, field_shape, method_shape, term_shape}
use Rattle.type_terms.specs.Declarations.{receiver_shape, receiver_map}
use Rattle.type_terms.specs.Shapes.{param_map, field_map, method_map, term_map}
use Rattle.go_values.specs.declared.positions.Pos.{Pos}
use Rattle.type_terms.specs.Trees.{Text, Tree}
use Rattle.file_layout.specs.Items.{Item, a_number, list_items, param_items, field_items, method_items, term_items, receiver_items}
use Rattle.block_writer.specs.Adding.{param_over, params_over, field_over, fields_over, method_over, methods_over, term_over, terms_over, receiver_over, receivers_over}

module _ {A B C : Type 0} (items : C → List Item) (g : B → C) (f : A → B) where
  flat_fused : (xs : List A) → flat_map (λ (x : A). items (g (f x))) xs ≡ flat_map items (map g (map f xs))
  flat_fused [] = refl
  flat_fused (x ∷ xs) = ap (λ (rest : List Item). items (g (f x)) ++ rest) (flat_fused xs)

  size_fused : (xs : List A) → length xs ≡ length (map g (map f xs))
  size_fused [] = refl
  size_fused (x ∷ xs) = ap (λ (n : ℕ). suc n) (size_fused xs)

  fused : (xs : List A) → list_items (λ (x : A). items (g (f x))) xs ≡ list_items items (map g (map f xs))
  fused xs = ap₂ (λ (n : ℕ) (rest : List Item). a_number n ∷ rest) (size_fused xs) (flat_fused xs)

pub params_fused : (type : ℕ → Tree) (xs : List ParamNode) → list_items (λ x. param_items (param_over type x)) xs ≡ list_items param_items (params_over type xs)
params_fused type xs = fused param_items (param_map (λ (x : Pos). x) (λ (x : Text). x) (λ (x : Text). x) type) param_shape xs

pub fields_fused : (type : ℕ → Tree) (xs : List Field) → list_items (λ x. field_items (field_over type x)) xs ≡ list_items field_items (fields_over type xs)
fields_fused type xs = fused field_items (field_map (λ x. x) (λ x. x) (λ x. x) type) field_shape xs

pub methods_fused : (type : ℕ → Tree) (xs : List IMethod) → list_items (λ x. method_items (method_over type x)) xs ≡ list_items method_items (methods_over type xs)
methods_fused type xs = fused method_items (method_map (λ x. x) (λ x. x) (λ x. x) type) method_shape xs

pub terms_fused : (type : ℕ → Tree) (xs : List Term) → list_items (λ x. term_items (term_over type x)) xs ≡ list_items term_items (terms_over type xs)
terms_fused type xs = fused term_items (term_map (λ (x : Pos). x) (λ (x : Text). x) (λ (x : Text). x) type) term_shape xs

pub receivers_fused : (type : ℕ → Tree) (xs : List Method) → list_items (λ x. receiver_items (receiver_over type x)) xs ≡ list_items receiver_items (receivers_over type xs)
receivers_fused type xs = fused receiver_items (receiver_map (λ x. x) (λ x. x) type) receiver_shape xs
