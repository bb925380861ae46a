-- What holds of every shape, whatever stands in it.
use Rattle.std.proofs.Common.{◌≡◌, List, [], ◌∷◌, ◌++◌, map, refl, ap, sym, ◌∙◌}
use Rattle.std.specs.List.{flat_map, AllByRecursion}
use Rattle.std.proofs.lemmas.List.{map-append}
use Rattle.type_terms.specs.Shapes.{ParamOf, SigOf, FieldOf, MethodOf, TermOf, Shape, pointer_of, slice_of, array_of}
use Rattle.type_terms.specs.Shapes.{chan_of, map_of, func_of, struct_of, interface_of, instance_of, union_of, param_map}
use Rattle.type_terms.specs.Shapes.{sig_map, field_map, method_map, term_map, shape_map, param_types, sig_types}
use Rattle.type_terms.specs.Shapes.{field_types, method_types, term_types, shape_types, retype}
use Rattle.type_terms.specs.Replaced.{all_left, all_right, parts_of_map, map_agrees}

-- The types of a shape whose parts are replaced are its types, replaced.
module _ {P P' S S' Q Q' R R' : Type 0} (p : P → P') (s : S → S') (q : Q → Q') (r : R → R') where
  pub params_types_map : (xs : List (ParamOf P S R))
      → flat_map param_types (map (param_map p s q r) xs) ≡ map r (flat_map param_types xs)
  params_types_map = parts_of_map (param_map p s q r) r param_types param_types (λ x. refl)

  pub sig_types_map : (x : SigOf P S R) → sig_types (sig_map p s q r x) ≡ map r (sig_types x)
  sig_types_map x =
      ap (λ (front : List R'). front ++ flat_map param_types (map (param_map p s q r) x.results))
      (params_types_map x.params)
      ∙ ap (λ (rest : List R'). map r (flat_map param_types x.params) ++ rest) (params_types_map x.results)
      ∙ sym (map-append r (flat_map param_types x.params) (flat_map param_types x.results))

  pub fields_types_map : (xs : List (FieldOf P S Q R))
      → flat_map field_types (map (field_map p s q r) xs) ≡ map r (flat_map field_types xs)
  fields_types_map = parts_of_map (field_map p s q r) r field_types field_types (λ x. refl)

  pub methods_types_map : (xs : List (MethodOf P S Q R))
      → flat_map method_types (map (method_map p s q r) xs) ≡ map r (flat_map method_types xs)
  methods_types_map = parts_of_map (method_map p s q r) r method_types method_types (λ x. sig_types_map x.sig)

  pub terms_types_map : (xs : List (TermOf R))
      → flat_map term_types (map (term_map p s q r) xs) ≡ map r (flat_map term_types xs)
  terms_types_map = parts_of_map (term_map p s q r) r term_types term_types (λ x. refl)

  pub shape_types_map : (shape : Shape P S Q R) → shape_types (shape_map p s q r shape) ≡ map r (shape_types shape)
  shape_types_map (func_of home sig) = sig_types_map sig
  shape_types_map (struct_of home fields) = fields_types_map fields
  shape_types_map (interface_of home embedded methods) =
      ap (λ (rest : List R'). map r embedded ++ rest) (methods_types_map methods) ∙ sym
      (map-append r embedded (flat_map method_types methods))
  shape_types_map (instance_of base args) = sym (map-append r args (base ∷ []))
  shape_types_map (union_of terms) = terms_types_map terms
  shape_types_map _ = refl

-- Two replacements of the types that agree on the types of a shape give one shape.
abbrev pub Agree : {R R' : Type 0} (f g : R → R') → R → Type 0
Agree f g x = f x ≡ g x

pub type_agrees : {R R' : Type 0} (f g : R → R') (xs : List R) → AllByRecursion (Agree f g) xs → map f xs ≡ map g xs
type_agrees f g [] all = refl
type_agrees f g (x ∷ xs) all =
    let head : f x ≡ g x = all.0 in
    let tail : map f xs ≡ map g xs = type_agrees f g xs all.1 in
    (cc)

module _ {R R' : Type 0} (f g : R → R') (P S Q : Type 0) where
  pub params_agree : (xs : List (ParamOf P S R)) → AllByRecursion (Agree f g) (flat_map param_types xs)
      → map (param_map (λ (x : P). x) (λ (x : S). x) (λ (x : Q). x) f) xs
      ≡ map (param_map (λ (x : P). x) (λ (x : S). x) (λ (x : Q). x) g) xs
  params_agree = map_agrees (param_map (λ (x : P). x) (λ (x : S). x) (λ (x : Q). x) f)
      (param_map (λ (x : P). x) (λ (x : S). x) (λ (x : Q). x) g) param_types (Agree f g) (λ x all i.
      record { pos = x.pos; name = x.name; type = all.0 i })

  pub sig_agrees : (x : SigOf P S R) → AllByRecursion (Agree f g) (sig_types x)
      → sig_map (λ (x : P). x) (λ (x : S). x) (λ (x : Q). x) f x
      ≡ sig_map (λ (x : P). x) (λ (x : S). x) (λ (x : Q). x) g x
  sig_agrees x all =
      let params = params_agree x.params
      (all_left (Agree f g) (flat_map param_types x.params) (flat_map param_types x.results) all) in
      let results = params_agree x.results
      (all_right (Agree f g) (flat_map param_types x.params) (flat_map param_types x.results) all) in
      λ i. record { params = params i; results = results i; variadic = x.variadic }

  fields_agree : (xs : List (FieldOf P S Q R)) → AllByRecursion (Agree f g) (flat_map field_types xs)
      → map (field_map (λ x. x) (λ x. x) (λ x. x) f) xs ≡ map (field_map (λ x. x) (λ x. x) (λ x. x) g) xs
  fields_agree = map_agrees (field_map (λ x. x) (λ x. x) (λ x. x) f) (field_map (λ x. x) (λ x. x) (λ x. x) g)
      field_types (Agree f g) (λ x all i.
      record { origin = x.origin; pos = x.pos; name = x.name; type = all.0 i; embedded = x.embedded; tag = x.tag })

  methods_agree : (xs : List (MethodOf P S Q R)) → AllByRecursion (Agree f g) (flat_map method_types xs)
      → map (method_map (λ x. x) (λ x. x) (λ x. x) f) xs ≡ map (method_map (λ x. x) (λ x. x) (λ x. x) g) xs
  methods_agree = map_agrees (method_map (λ x. x) (λ x. x) (λ x. x) f) (method_map (λ x. x) (λ x. x) (λ x. x) g)
      method_types (Agree f g) (λ x all i.
      record { origin = x.origin; pos = x.pos; name = x.name; sig = sig_agrees x.sig all i })

  terms_agree : (xs : List (TermOf R)) → AllByRecursion (Agree f g) (flat_map term_types xs)
      → map (term_map (λ (x : P). x) (λ (x : S). x) (λ (x : Q). x) f) xs
      ≡ map (term_map (λ (x : P). x) (λ (x : S). x) (λ (x : Q). x) g) xs
  terms_agree = map_agrees (term_map (λ (x : P). x) (λ (x : S). x) (λ (x : Q). x) f)
      (term_map (λ (x : P). x) (λ (x : S). x) (λ (x : Q). x) g) term_types (Agree f g) (λ x all i.
      record { tilde = x.tilde; type = all.0 i })

  pub retype_agrees : (shape : Shape P S Q R) → AllByRecursion (λ x. f x ≡ g x) (shape_types shape)
      → retype f shape ≡ retype g shape
  retype_agrees (pointer_of type) all = ap pointer_of all.0
  retype_agrees (slice_of type) all = ap slice_of all.0
  retype_agrees (array_of size type) all = ap (array_of size) all.0
  retype_agrees (chan_of dir type) all = ap (chan_of dir) all.0
  retype_agrees (map_of key type) all = λ i. map_of (all.0 i) (all.1.0 i)
  retype_agrees (func_of home sig) all = ap (func_of home) (sig_agrees sig all)
  retype_agrees (struct_of home fields) all = ap (struct_of home) (fields_agree fields all)
  retype_agrees (interface_of home embedded methods) all =
      let types = type_agrees f g embedded (all_left (Agree f g) embedded (flat_map method_types methods) all) in
      let rest = methods_agree methods (all_right (Agree f g) embedded (flat_map method_types methods) all) in
      λ i. interface_of home (types i) (rest i)
  retype_agrees (instance_of base args) all =
      let types = type_agrees f g args (all_left (Agree f g) args (base ∷ []) all) in
      let type = (all_right (Agree f g) args (base ∷ []) all).0 in
      λ i. instance_of (type i) (types i)
  retype_agrees (union_of terms) all = ap union_of (terms_agree terms all)
  retype_agrees _ all = refl
