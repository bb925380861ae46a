-- What a type with its parameters replaced is identical to: what the type is, in which a parameter is what is put for it.
use Rattle.std.proofs.Common.{◌≡◌, Bool, false, List, [], ◌∷◌, ◌&&◌, cond, map, Ok, refl, ap, sym, ◌∙◌}
use Rattle.std.specs.Prelude.{Result}
use Rattle.go_values.specs.declared.qualified.QName.{QName}
use Rattle.type_terms.specs.Shapes.{FieldOf, TermOf}
use Rattle.go_values.specs.declared.positions.Pos.{Pos}
use Rattle.type_terms.specs.Trees.{Text, Tree, predeclared, named, parameter, alias, pointer, slice, array, chan, map_type, func, struct, interface, instance, union}
use Rattle.type_terms.specs.Trees.{Trees, no_types, types, Params, no_params, params, Fields, no_fields, fields, Methods, no_methods, methods, Terms, no_terms, terms, field_list, term_list}
use Rattle.type_terms.specs.TreeEquality.{same_flag}
use Rattle.replacement.specs.declared.faults.SetFault.{SetFault}
use Rattle.replacement.specs.Substitution.{replaced, types_replaced, params_replaced, fields_replaced, methods_replaced, terms_replaced}
use Rattle.type_sets.specs.Covering.{Answer, Test, settled, same_field, same_fields, same_tildes, all_pass, on_base, on_pointer, on_slice, on_array, on_chan, on_map, on_func, on_struct, on_union, on_instance, alike, types_alike, params_alike, fields_alike, terms_alike}
use Rattle.covering_aliases.specs.SoundTypes.{IsSoundBase, IsSound, AreSound, AreSoundParams, AreSoundFields, AreSoundTerms}

-- ---- a parameter that is put for itself

mutual
  pub type_stays : (type : Tree) → replaced parameter type ≡ type
  type_stays (parameter q) = refl
  type_stays (predeclared basic) = refl
  type_stays (named q) = refl
  type_stays (alias q) = refl
  type_stays (pointer type) = ap pointer (type_stays type)
  type_stays (slice type) = ap slice (type_stays type)
  type_stays (array size type) = ap (array size) (type_stays type)
  type_stays (chan dir type) = ap (chan dir) (type_stays type)
  type_stays (map_type key type) = λ i. map_type (type_stays key i) (type_stays type i)
  type_stays (func home ins outs variadic) = λ i. func home (params_stay ins i) (params_stay outs i) variadic
  type_stays (struct home inner) = ap (struct home) (fields_stay inner)
  type_stays (interface home embedded inner) = λ i. interface home (types_stay embedded i) (methods_stay inner i)
  type_stays (instance base args) = λ i. instance (type_stays base i) (types_stay args i)
  type_stays (union inner) = ap union (terms_stay inner)

  types_stay : (xs : Trees) → types_replaced parameter xs ≡ xs
  types_stay no_types = refl
  types_stay (types type rest) = λ i. types (type_stays type i) (types_stay rest i)

  params_stay : (xs : Params) → params_replaced parameter xs ≡ xs
  params_stay no_params = refl
  params_stay (params pos name type rest) = λ i. params pos name (type_stays type i) (params_stay rest i)

  fields_stay : (xs : Fields) → fields_replaced parameter xs ≡ xs
  fields_stay no_fields = refl
  fields_stay (fields origin pos name type embedded tag rest) = λ i. fields origin pos name (type_stays type i) embedded tag (fields_stay rest i)

  methods_stay : (xs : Methods) → methods_replaced parameter xs ≡ xs
  methods_stay no_methods = refl
  methods_stay (methods origin pos name ins outs variadic rest) = λ i. methods origin pos name (params_stay ins i) (params_stay outs i) variadic (methods_stay rest i)

  terms_stay : (xs : Terms) → terms_replaced parameter xs ≡ xs
  terms_stay no_terms = refl
  terms_stay (terms tilde type rest) = λ i. terms tilde (type_stays type i) (terms_stay rest i)

-- ---- what is compared of fields and terms beside their types

abbrev FieldTree : Type 0
FieldTree = FieldOf Pos Text Text Tree

module _ (put : QName → Tree) (home other : Text) where
  fields_same : (xs : Fields) (ys : List FieldTree) → same_fields home other (field_list (fields_replaced put xs)) ys ≡ same_fields home other (field_list xs) ys
  fields_same no_fields [] = refl
  fields_same no_fields (y ∷ ys) = refl
  fields_same (fields origin pos name type embedded tag rest) [] = refl
  fields_same (fields origin pos name type embedded tag rest) (y ∷ ys) =
      ap (λ b. same_field home other (record { origin = origin; pos = pos; name = name; type = type; embedded = embedded; tag = tag }) y && b) (fields_same rest ys)

tildes_same : (put : QName → Tree) (xs : Terms) (ys : List (TermOf Tree)) → same_tildes (term_list (terms_replaced put xs)) ys ≡ same_tildes (term_list xs) ys
tildes_same put no_terms [] = refl
tildes_same put no_terms (y ∷ ys) = refl
tildes_same put (terms tilde type rest) [] = refl
tildes_same put (terms tilde type rest) (y ∷ ys) =
    ap (λ b. same_flag tilde y.tilde && b) (tildes_same put rest ys)

module _ (put : QName → Tree) where
  struct_same : (home : Text) (inner : Fields) (tests : List Test) (x : Tree) → on_struct home (fields_replaced put inner) tests x ≡ on_struct home inner tests x
  struct_same home inner tests (struct other own) =
      ap (λ b. cond b (all_pass tests (map (λ x. x.type) (field_list own))) (Ok false)) (fields_same put home other inner (field_list own))
  struct_same home inner tests _ = refl

  union_same : (inner : Terms) (tests : List Test) (x : Tree) → on_union (terms_replaced put inner) tests x ≡ on_union inner tests x
  union_same inner tests (union own) =
      ap (λ b. cond b (all_pass tests (map (λ x. x.type) (term_list own))) (Ok false)) (tildes_same put inner (term_list own))
  union_same inner tests _ = refl

-- Two answers for aliases agree on those of a type.
module _ (settle : Tree → Result Tree SetFault) (free : Test) (IsOne : QName → Type 0) (expand other : QName → List Test → Test)
    (agree : (q : QName) → IsOne q → (tests : List Test) → expand q tests ≡ other q tests) (given : QName → Test) (put : QName → Tree) where
  abbrev f : Tree → Test
  f = alike settle free expand given

  abbrev g : Tree → Test
  g = alike settle free other (λ q. f (put q))

  bases : (base : Tree) → IsSoundBase IsOne base → (tests : List Test)
      → on_base settle free expand (replaced put base) tests ≡ on_base settle free other base tests
  bases (alias q) sound tests = agree q sound tests
  bases (named q) sound tests = refl
  bases _ sound tests = absurd sound

  mutual
    pub type_put : (type : Tree) → IsSound IsOne type → f (replaced put type) ≡ g type
    type_put (parameter q) sound = refl
    type_put (predeclared basic) sound = refl
    type_put (named q) sound = refl
    type_put (alias q) sound = agree q sound []
    type_put (pointer type) sound = ap (λ t. settled settle free (on_pointer t)) (type_put type sound)
    type_put (slice type) sound = ap (λ t. settled settle free (on_slice t)) (type_put type sound)
    type_put (array size type) sound = ap (λ t. settled settle free (on_array size t)) (type_put type sound)
    type_put (chan dir type) sound = ap (λ t. settled settle free (on_chan dir t)) (type_put type sound)
    type_put (map_type key type) sound = λ i. settled settle free (on_map (type_put key sound.0 i) (type_put type sound.1 i))
    type_put (func home ins outs variadic) sound = λ i. settled settle free (on_func (params_put ins sound.0 i) (params_put outs sound.1 i) variadic)
    type_put (struct home inner) sound =
        ap (λ ts. settled settle free (on_struct home (fields_replaced put inner) ts)) (fields_put inner sound)
        ∙ ap (settled settle free) (λ i x. struct_same put home inner (fields_alike settle free other (λ q. f (put q)) inner) x i)
    type_put (interface home no_types no_methods) sound = refl
    type_put (interface home no_types (methods origin pos name ins outs variadic rest)) sound = refl
    type_put (interface home (types type rest) own) sound = refl
    type_put (instance base args) sound =
        bases base sound.0 (types_alike settle free expand given (types_replaced put args))
        ∙ ap (on_base settle free other base) (types_put args sound.1)
    type_put (union inner) sound =
        ap (λ ts. settled settle free (on_union (terms_replaced put inner) ts)) (terms_put inner sound)
        ∙ ap (settled settle free) (λ i x. union_same put inner (terms_alike settle free other (λ q. f (put q)) inner) x i)

    types_put : (xs : Trees) → AreSound IsOne xs → types_alike settle free expand given (types_replaced put xs) ≡ types_alike settle free other (λ q. f (put q)) xs
    types_put no_types sound = refl
    types_put (types type rest) sound = λ i. type_put type sound.0 i ∷ types_put rest sound.1 i

    params_put : (xs : Params) → AreSoundParams IsOne xs → params_alike settle free expand given (params_replaced put xs) ≡ params_alike settle free other (λ q. f (put q)) xs
    params_put no_params sound = refl
    params_put (params pos name type rest) sound = λ i. type_put type sound.0 i ∷ params_put rest sound.1 i

    fields_put : (xs : Fields) → AreSoundFields IsOne xs → fields_alike settle free expand given (fields_replaced put xs) ≡ fields_alike settle free other (λ q. f (put q)) xs
    fields_put no_fields sound = refl
    fields_put (fields origin pos name type embedded tag rest) sound = λ i. type_put type sound.0 i ∷ fields_put rest sound.1 i

    terms_put : (xs : Terms) → AreSoundTerms IsOne xs → terms_alike settle free expand given (terms_replaced put xs) ≡ terms_alike settle free other (λ q. f (put q)) xs
    terms_put no_terms sound = refl
    terms_put (terms tilde type rest) sound = λ i. type_put type sound.0 i ∷ terms_put rest sound.1 i

-- The same of a type in which nothing is put.
pub type_agrees : (settle : Tree → Result Tree SetFault) (free : Test) (IsOne : QName → Type 0) (expand other : QName → List Test → Test)
    → ((q : QName) → IsOne q → (tests : List Test) → expand q tests ≡ other q tests) → (given : QName → Test) (type : Tree) → IsSound IsOne type
    → alike settle free expand given type ≡ alike settle free other given type
type_agrees settle free IsOne expand other agree given type sound =
    ap (alike settle free expand given) (sym (type_stays type)) ∙ type_put settle free IsOne expand other agree given parameter type sound
