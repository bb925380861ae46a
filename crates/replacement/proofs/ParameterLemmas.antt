-- Type parameters and the sides of declarations that have them.
use Rattle.std.proofs.Common.{◌≡◌, ℕ, ◌+◌, ◌<◌, zero, suc, List, [], ◌∷◌, ◌++◌, length, map, take, slice_get, Option, Some, None, Ok, Err, cond, refl, ap, sym, subst, ◌∙◌, arith}
use Rattle.std.specs.Prelude.{Result}
use Rattle.std.specs.List.{All, AllByRecursion, flat_map}
use Rattle.std.proofs.lemmas.Bool.{eq-eqb}
use Rattle.std.proofs.lemmas.List.{map-append}
use Rattle.std.proofs.lemmas.List.Elements.{recursion_from_All}
use Rattle.go_values.specs.declared.qualified.QName.{QName}
use Rattle.go_values.specs.declared.positions.Pos.{Pos}
use Rattle.environments.specs.Environments.{Entry, declared, damaged}
use Rattle.type_terms.specs.declared.descriptors.Node.{Node}
use Rattle.type_terms.specs.declared.declarations.DeclNode.{DeclNode}
use Rattle.type_terms.specs.declared.declarations.DeclNode.TheVariants.{Alias, Defined}
use Rattle.type_terms.specs.declared.declarations.Method.{Method}
use Rattle.type_terms.specs.Arenas.{Contents, AllBelow, Extends}
use Rattle.type_terms.specs.Denotation.{tree}
use Rattle.type_terms.specs.Extensions.{extends_tree}
use Rattle.type_terms.specs.Declarations.{Decl, decl_of, decl_nodes, receiver_types, receiver_shape}
use Rattle.type_terms.specs.Replaced.{all_left, all_right}
use Rattle.type_terms.specs.DeclarationRules.{IsTypeParameter, IsProperDecl}
use Rattle.type_terms.specs.Trees.{Tree, parameter}
use Rattle.replacement.specs.declared.faults.SetFault.{SetFault}
use Rattle.replacement.specs.Expansion.{Entries, Applied, known, then, parameter_names, put_each, wrong_number}
use Rattle.replacement.specs.Substitution.{substituted}
use Rattle.replacement.specs.Calls.{applied}
use Rattle.type_terms.specs.Names.{parameter_name}

take_next : {X : Type 0} (xs : List X) (k : ℕ) (x : X) → slice_get xs k ≡ Some x → take (suc k) xs ≡ take k xs ++ x ∷ []
take_next [] k x is = absurd cc
take_next (y ∷ xs) zero x is = let e : y ≡ x = cc in ap (λ z. z ∷ []) e
take_next (y ∷ xs) (suc k) x is = ap (λ rest. y ∷ rest) (take_next xs k x is)

-- the name of a type parameter, as a list
abbrev name_list : Option QName → List QName
name_list (Some q) = q ∷ []
name_list None = []

names_pushed : (xs : List Tree) (type : Tree) → parameter_names (xs ++ type ∷ []) ≡ parameter_names xs ++ name_list (parameter_name type)
names_pushed [] (parameter q) = refl
names_pushed [] _ = refl
names_pushed (parameter p ∷ xs) type = ap (λ rest. p ∷ rest) (names_pushed xs type)
names_pushed (_ ∷ xs) type = names_pushed xs type

-- the names of one type parameter more
pub names_next : (nodes : List Node) (ids : List ℕ) (k id : ℕ) (name : Option QName) → slice_get ids k ≡ Some id
    → parameter_name (tree nodes id) ≡ name
    → parameter_names (map (tree nodes) (take (k + 1) ids)) ≡ parameter_names (map (tree nodes) (take k ids)) ++ name_list name
names_next nodes ids k id name at is =
    let e : k + 1 ≡ suc k = omega arith in
    ap (λ n. parameter_names (map (tree nodes) (take n ids))) e
    ∙ ap (λ xs. parameter_names (map (tree nodes) xs)) (take_next ids k id at)
    ∙ ap parameter_names (map-append (tree nodes) (take k ids) (id ∷ []))
    ∙ names_pushed (map (tree nodes) (take k ids)) (tree nodes id)
    ∙ ap (λ o. parameter_names (map (tree nodes) (take k ids)) ++ name_list o) is

count_each : (types : List Tree) → AllByRecursion IsTypeParameter types → length (parameter_names types) ≡ length types
count_each [] all = refl
count_each (parameter q ∷ types) all = ap suc (count_each types all.1)
count_each (_ ∷ types) all = absurd all.0

pub names_count : (types : List Tree) → All IsTypeParameter types → length (parameter_names types) ≡ length types
names_count types all = count_each types (recursion_from_All IsTypeParameter types all)

-- types keep their trees
pub trees_stay : (old new : Contents) → Extends old new → (ids : List ℕ) → AllBelow (length old.nodes) ids
    → map (tree new.nodes) ids ≡ map (tree old.nodes) ids
trees_stay old new grown [] below = refl
trees_stay old new grown (id ∷ ids) below =
    let one = extends_tree old new grown id below.0 in
    let rest = trees_stay old new grown ids below.1 in
    λ i. one i ∷ rest i

known_is : (entry : Option Entry) (q : QName) (decl : Decl) → known entry q ≡ Ok decl → entry ≡ Some (declared decl)
known_is (Some (declared own)) q decl is = let e : own ≡ decl = cc in ap (λ d. Some (declared d)) e
known_is (Some (damaged fault read)) q decl is = absurd cc
known_is None q decl is = absurd cc

-- A side with as many arguments as there are parameters, which are some.
pub put_is : (head : Applied) (tparams args : List Tree) (right : Tree) → length args ≡ length tparams → (length tparams ≡ 0 → ⊥)
    → put_each head tparams args right ≡ Ok (substituted (parameter_names tparams) args right)
put_is head [] args right same some = absurd (some refl)
put_is head (type ∷ types) [] right same some = absurd (omega (arith, same))
put_is head (type ∷ types) (arg ∷ args) right same some =
    ap (λ b. cond b (Ok (substituted (parameter_names (type ∷ types)) (arg ∷ args) right)) (Err (wrong_number head (type ∷ types))))
    (eq-eqb (length types) (length args) (omega (arith, same)))

-- what was found of a declaration that has type parameters and a right side
module _ (entries : Entries) (q : QName) (nodes : List Node) (decl : DeclNode) (tparams : List ℕ) (right : ℕ)
    (is : known (entries q) q ≡ Ok (decl_of nodes decl)) where
  proper_found : ((own : Decl) → entries q ≡ Some (declared own) → IsProperDecl own) → IsProperDecl (decl_of nodes decl)
  proper_found proper = proper (decl_of nodes decl) (known_is (entries q) q (decl_of nodes decl) is)

  -- the type parameters are some
  pub alias_parameters : (pos : Pos) → decl ≡ Alias pos tparams right → ((own : Decl) → entries q ≡ Some (declared own) → IsProperDecl own)
      → All IsTypeParameter (map (tree nodes) tparams)
  alias_parameters pos node proper = (subst (λ d. IsProperDecl (decl_of nodes d)) node (proper_found proper)).form.0

  pub defined_parameters : (pos : Pos) (own : List Method) → decl ≡ Defined pos tparams right own → ((own : Decl) → entries q ≡ Some (declared own) → IsProperDecl own)
      → All IsTypeParameter (map (tree nodes) tparams)
  defined_parameters pos own node proper = (subst (λ d. IsProperDecl (decl_of nodes d)) node (proper_found proper)).form.0

  -- the side is what the call puts together
  module _ (side : Applied → Decl → Result Tree SetFault)
      (puts : (head : Applied) → side head (decl_of nodes decl) ≡ put_each head (map (tree nodes) tparams) head.args (tree nodes right))
      (old now : Contents) (same : now.nodes ≡ nodes) (grown : Extends old now) (args : List ℕ) (below : AllBelow (length old.nodes) args) where
    pub side_is : put_each (applied nodes q args) (map (tree nodes) tparams) (map (tree nodes) args) (tree nodes right)
        ≡ then (known (entries q) q) (side (applied old.nodes q args))
    side_is =
        let stay : map (tree nodes) args ≡ map (tree old.nodes) args = ap (λ n. map (tree n) args) (sym same) ∙ trees_stay old now grown args below in
        ap (λ trees. put_each (record { name = q; args = trees }) (map (tree nodes) tparams) trees (tree nodes right)) stay
        ∙ sym (puts (applied old.nodes q args)) ∙ sym (ap (λ r. then r (side (applied old.nodes q args))) is)

-- the nodes of a defined type's declaration stand in the arena
pub defined_below : (bound : ℕ) (decl : DeclNode) (pos : Pos) (tparams : List ℕ) (right : ℕ) (own : List Method) → decl ≡ Defined pos tparams right own
    → AllBelow bound (decl_nodes decl) → AllBelow bound tparams × (right < bound)
defined_below bound decl pos tparams right own node below =
    let each = subst (λ d. AllBelow bound (decl_nodes d)) node below in
    let rest = right ∷ flat_map receiver_types (map receiver_shape own) in
    (all_left (λ n. n < bound) tparams rest each, (all_right (λ n. n < bound) tparams rest each).0)
