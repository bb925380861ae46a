-- A declaration means the same where its types do.
use Rattle.std.proofs.Common.{◌≡◌, ◌<◌, List, [], ◌∷◌, ◌++◌, map, length, refl, ap, sym, ◌∙◌}
use Rattle.std.proofs.lemmas.List.{map-append}
use Rattle.std.specs.List.{flat_map, AllByRecursion}
use Rattle.go_values.specs.declared.positions.Pos.{Pos}
use Rattle.type_terms.specs.declared.descriptors.Node.{Node}
use Rattle.type_terms.specs.declared.declarations.DeclNode.{DeclNode}
use Rattle.type_terms.specs.Shapes.{sig_types}
use Rattle.type_terms.specs.Trees.{Text}
use Rattle.type_terms.specs.Denotation.{tree}
use Rattle.type_terms.specs.Arenas.{AllBelow}
use Rattle.type_terms.specs.Declarations.{ReceiverOf, Form, var_of, function_of, constant_of, defined_of, renamed_of}
use Rattle.type_terms.specs.Declarations.{type_parameter_of, receiver_map, receiver_types, form_map, form_types}
use Rattle.type_terms.specs.Declarations.{decl_form, decl_nodes, decl_of}
use Rattle.type_terms.specs.Replaced.{all_left, all_right, map_agrees, parts_of_map}
use Rattle.type_terms.specs.ShapeLaws.{Agree, type_agrees, sig_agrees, sig_types_map}
use Rattle.type_terms.specs.Denoted.{tree_stays, all_weaker}

-- the types of a declaration whose types are replaced
module _ {R R' : Type 0} (f : R → R') (P S : Type 0) where
  receiver_types_map : (x : ReceiverOf P S R)
      → receiver_types (receiver_map (λ (x : P). x) (λ (x : S). x) f x) ≡ map f (receiver_types x)
  receiver_types_map x = ap (λ rest. f x.recv.type ∷ rest)
      (sig_types_map (λ (x : P). x) (λ (x : S). x) (λ (x : S). x) f x.sig)

  pub form_types_map : (form : Form P S R)
      → form_types (form_map (λ (x : P). x) (λ (x : S). x) f form) ≡ map f (form_types form)
  form_types_map (function_of pos tparams sig) =
      ap (λ rest. map f tparams ++ rest) (sig_types_map (λ (x : P). x) (λ (x : S). x) (λ (x : S). x) f sig)
      ∙ sym (map-append f tparams (sig_types sig))
  form_types_map (defined_of pos tparams underlying methods) =
      ap (λ rest. map f tparams ++ f underlying ∷ rest)
      (parts_of_map (receiver_map (λ (x : P). x) (λ (x : S). x) f) f receiver_types receiver_types receiver_types_map
      methods)
      ∙ sym (map-append f tparams (underlying ∷ flat_map receiver_types methods))
  form_types_map (renamed_of pos tparams type) = sym (map-append f tparams (type ∷ []))
  form_types_map _ = refl

-- Two replacements of the types that agree on those of a declaration give one declaration.
module _ {R R' : Type 0} (f g : R → R') (P S : Type 0) where
  receivers_agree : (xs : List (ReceiverOf P S R)) → AllByRecursion (Agree f g) (flat_map receiver_types xs)
      → map (receiver_map (λ x. x) (λ x. x) f) xs ≡ map (receiver_map (λ x. x) (λ x. x) g) xs
  receivers_agree = map_agrees (receiver_map (λ x. x) (λ x. x) f) (receiver_map (λ x. x) (λ x. x) g) receiver_types
      (Agree f g)
      (λ x all.
      let sig = sig_agrees f g P S S x.sig all.1 in
      λ i. record {
        pos = x.pos;
        name = x.name;
        recv = record { pos = x.recv.pos; name = x.recv.name; type = all.0 i };
        sig = sig i;
      })

  pub form_agrees : (form : Form P S R) → AllByRecursion (Agree f g) (form_types form)
      → form_map (λ x. x) (λ x. x) f form ≡ form_map (λ x. x) (λ x. x) g form
  form_agrees (var_of pos type) all = ap (var_of pos) all.0
  form_agrees (function_of pos tparams sig) all =
      let types = type_agrees f g tparams (all_left (Agree f g) tparams (sig_types sig) all) in
      let rest = sig_agrees f g P S S sig (all_right (Agree f g) tparams (sig_types sig) all) in
      λ i. function_of pos (types i) (rest i)
  form_agrees (constant_of pos type value) all = λ i. constant_of pos (all.0 i) value
  form_agrees (defined_of pos tparams underlying methods) all =
      let types = type_agrees f g tparams
      (all_left (Agree f g) tparams (underlying ∷ flat_map receiver_types methods) all) in
      let rest = all_right (Agree f g) tparams (underlying ∷ flat_map receiver_types methods) all in
      let receivers = receivers_agree methods rest.1 in
      λ i. defined_of pos (types i) (rest.0 i) (receivers i)
  form_agrees (renamed_of pos tparams type) all =
      let types = type_agrees f g tparams (all_left (Agree f g) tparams (type ∷ []) all) in
      let rest = all_right (Agree f g) tparams (type ∷ []) all in
      λ i. renamed_of pos (types i) (rest.0 i)
  form_agrees (type_parameter_of pos implicit constraint) all = ap (type_parameter_of pos implicit) all.0

-- a declaration means the same as nodes are added
pub decl_of-stays : (nodes more : List Node) (decl : DeclNode) → AllBelow (length nodes) (decl_nodes decl)
    → decl_of (nodes ++ more) decl ≡ decl_of nodes decl
decl_of-stays nodes more decl below =
    form_agrees (tree (nodes ++ more)) (tree nodes) Pos Text (decl_form decl)
    (all_weaker (λ n. n < length nodes) (Agree (tree (nodes ++ more)) (tree nodes)) (λ n h. tree_stays nodes more n h)
    (decl_nodes decl) below)
