-- The names of type parameters.
use Rattle.std.proofs.Common.{◌≡◌, ℕ, ◌+◌, zero, suc, List, [], ◌∷◌, ◌++◌, length, map, take, slice_get, Option, Some, None, refl, ap, ◌∙◌, arith}
use Rattle.std.specs.List.{All, AllByRecursion}
use Rattle.std.proofs.lemmas.List.{map-append}
use Rattle.std.proofs.lemmas.List.Elements.{recursion_from_All}
use Rattle.go_values.specs.declared.qualified.QName.{QName}
use Rattle.type_terms.specs.declared.descriptors.Node.{Node}
use Rattle.type_terms.specs.Denotation.{tree}
use Rattle.type_terms.specs.DeclarationRules.{IsTypeParameter}
use Rattle.type_terms.specs.Names.{parameter_name}
use Rattle.type_terms.specs.Trees.{Tree, parameter}
use Rattle.replacement.specs.Expansion.{parameter_names}

pub take_next : {X : Type 0} (xs : List X) (k : ℕ) (x : X) → slice_get xs k ≡ Some x → take (suc k) xs ≡ take k xs ++ x ∷ []
take_next [] k x is = absurd cc
take_next (y ∷ xs) zero x is = let e : y ≡ x = cc in ap (λ z. z ∷ []) e
take_next (y ∷ xs) (suc k) x is = ap (λ rest. y ∷ rest) (take_next xs k x is)

pub take_whole : {X : Type 0} (xs : List X) → take (length xs) xs ≡ xs
take_whole [] = refl
take_whole (x ∷ xs) = ap (λ ys. x ∷ ys) (take_whole xs)

-- the name of a type parameter, as a list
abbrev name_list : Option QName → List QName
name_list (Some q) = q ∷ []
name_list None = []

names_pushed : (xs : List Tree) (type : Tree) → parameter_names (xs ++ type ∷ []) ≡ parameter_names xs ++ name_list (parameter_name type)
names_pushed [] (parameter q) = refl
names_pushed [] _ = refl
names_pushed (parameter p ∷ xs) type = ap (λ rest. p ∷ rest) (names_pushed xs type)
names_pushed (_ ∷ xs) type = names_pushed xs type

-- the names of one type parameter more
pub names_next : (nodes : List Node) (ids : List ℕ) (k id : ℕ) (name : Option QName) → slice_get ids k ≡ Some id
    → parameter_name (tree nodes id) ≡ name
    → parameter_names (map (tree nodes) (take (k + 1) ids)) ≡ parameter_names (map (tree nodes) (take k ids)) ++ name_list name
names_next nodes ids k id name at is =
    let e : k + 1 ≡ suc k = omega arith in
    ap (λ n. parameter_names (map (tree nodes) (take n ids))) e
    ∙ ap (λ xs. parameter_names (map (tree nodes) xs)) (take_next ids k id at)
    ∙ ap parameter_names (map-append (tree nodes) (take k ids) (id ∷ []))
    ∙ names_pushed (map (tree nodes) (take k ids)) (tree nodes id)
    ∙ ap (λ o. parameter_names (map (tree nodes) (take k ids)) ++ name_list o) is

count_each : (types : List Tree) → AllByRecursion IsTypeParameter types → length (parameter_names types) ≡ length types
count_each [] all = refl
count_each (parameter q ∷ types) all = ap suc (count_each types all.1)
count_each (_ ∷ types) all = absurd all.0

pub names_many : (types : List Tree) → All IsTypeParameter types → length (parameter_names types) ≡ length types
names_many types all = count_each types (recursion_from_All IsTypeParameter types all)
