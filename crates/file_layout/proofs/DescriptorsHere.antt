-- What stands where the items of a descriptor stand: a case a kind.
use Rattle.std.proofs.Common.{◌≡◌, ℕ, ◌<◌, Bool, true, false, List, [], ◌∷◌, ◌++◌, length, map, Option, Some, None, refl, sym, ap, subst, ◌∙◌, arith}
use Rattle.std.specs.Prelude.{IsTrue}
use Rattle.std.specs.List.{AllByRecursion, flat_map}
use Rattle.std.proofs.lemmas.List.{length-map}
use Rattle.std.proofs.lemmas.List.Elements.{recursion_from_All}
use Rattle.go_values.specs.declared.positions.Pos.{Pos}
use Rattle.go_values.specs.declared.positions.Pos.TheVariants.{Nowhere}
use Rattle.code_tables.specs.declared.descriptors.TypeTag.{TypeTag}
use Rattle.code_tables.specs.declared.descriptors.TypeTag.TheVariants.{Defined, Pointer, Slice, Array, Chan, Map, Signature, Struct, Interface, TypeParameter, Instance, Union, Alias}
use Rattle.code_tables.specs.TypeTag.{type_tag_code}
use Rattle.type_terms.specs.Shapes.{ParamOf, SigOf, FieldOf, MethodOf, TermOf, predeclared_of, named_of, parameter_of, alias_of, pointer_of, slice_of, array_of, chan_of, map_of, func_of, struct_of, interface_of, instance_of, union_of, param_map, sig_map, field_map, method_map, term_map, shape_map, retype}
use Rattle.type_terms.specs.Trees.{Text, Tree, Level}
use Rattle.type_terms.specs.DeclarationRules.{HasLast, IsProperLevel}
use Rattle.decl_spelling.specs.Sections.{Sections}
use Rattle.decl_spelling.specs.Codes.{type_tag_of}
use Rattle.decl_spelling.specs.Spelled.{SpelledText, SpelledPath, SpelledPos, SpelledType, SpelledShape, no_origin, pos_meant, text_meant, path_meant}
use Rattle.decl_spelling.specs.Descriptors.{Field, Method, Term}
use Rattle.decl_spelling.specs.Grammar.{Here, IsNumber, IsTruth, IsText, IsPath, IsType, InTurn, IsList, IsParam, IsVariadic, IsSig, IsField, IsMethod, IsEmbedded, IsTerm, IsQualified, IsParts, tag_of, IsDescriptor, dir_number}
use Rattle.decl_spelling.proofs.MapLemmas.{all_both}
use Rattle.file_layout.specs.Items.{Item, a_number, a_text, a_path, a_position, a_type, list_items, type_items, param_items, variadic_items, sig_items, field_items, method_items, embedded_items, term_items, tagged, level_items}
use Rattle.file_layout.specs.Conditions.{no_origin as bare_origin, HasNoOrigin}
use Rattle.file_layout.proofs.ItemsStand.{IsItem}

tag_known : (kind : TypeTag) → type_tag_of 2 (type_tag_code kind) ≡ Some kind
tag_known Defined = refl
tag_known Pointer = refl
tag_known Slice = refl
tag_known Array = refl
tag_known Chan = refl
tag_known Map = refl
tag_known Signature = refl
tag_known Struct = refl
tag_known Interface = refl
tag_known TypeParameter = refl
tag_known Instance = refl
tag_known Union = refl
tag_known Alias = refl

-- a type that is named in a block, with its position where it has one there
pub record TypeAt : Type 0 where
  pub tree : Tree
  pub pos : Option SpelledPos

abbrev pub bare : Tree → TypeAt
bare type = record { tree = type; pos = None }

abbrev pub param_tree : ParamOf SpelledPos SpelledText TypeAt → ParamOf Pos Text Tree
param_tree x = param_map pos_meant text_meant path_meant (λ (t : TypeAt). t.tree) x

abbrev pub sig_tree : SigOf SpelledPos SpelledText TypeAt → SigOf Pos Text Tree
sig_tree x = sig_map pos_meant text_meant path_meant (λ (t : TypeAt). t.tree) x

abbrev field_tree : FieldOf SpelledPos SpelledText SpelledPath TypeAt → FieldOf Pos Text Text Tree
field_tree x = field_map pos_meant text_meant path_meant (λ (t : TypeAt). t.tree) x

abbrev method_tree : MethodOf SpelledPos SpelledText SpelledPath TypeAt → MethodOf Pos Text Text Tree
method_tree x = method_map pos_meant text_meant path_meant (λ (t : TypeAt). t.tree) x

abbrev term_tree : TermOf TypeAt → TermOf Tree
term_tree x = term_map pos_meant text_meant path_meant (λ (t : TypeAt). t.tree) x

-- what a descriptor that is spelled with these parts means
abbrev pub shape_tree : SpelledShape TypeAt → Level
shape_tree x = shape_map pos_meant text_meant path_meant (λ (t : TypeAt). t.tree) x

module _ {X : Type 0} (Stands : Here → X → Here → Type 0) where
  pub record Split (xs ys : List X) (a b : Here) : Type 0 where
    pub middle : Here
    pub front : InTurn Stands a xs middle
    pub rest : InTurn Stands middle ys b

  pub split : (xs ys : List X) (a b : Here) → InTurn Stands a (xs ++ ys) b → Split xs ys a b
  split [] ys a b stands = record { middle = a; front = refl; rest = stands }
  split (x ∷ xs) ys a b stands =
      let later = split xs ys stands.0 b stands.2 in
      record { middle = later.middle; front = (stands.0, stands.1, later.front); rest = later.rest }

module _ (src : Sections) (number : Tree → ℕ) where
  abbrev pub Standing : Here → List Item → Here → Type 0
  Standing = InTurn (IsItem src number)

  abbrev pub Split' : List Item → List Item → Here → Here → Type 0
  Split' = Split (IsItem src number)

  pub cut : (xs ys : List Item) (a b : Here) → Standing a (xs ++ ys) b → Split' xs ys a b
  cut = split (IsItem src number)

  -- a type by its number, with its position where it has one
  abbrev pub spell : TypeAt → SpelledType
  spell t = record { number = number t.tree; pos = t.pos }

  -- things of a list, each by its items; Y is what X is spelled with
  each_there : {X Y Z : Type 0} (Stands : Here → Z → Here → Type 0) (items : X → List Item) (g : Y → Z) (m : Y → X) (P : X → Type 0)
      → ((x : X) (a b : Here) → P x → Standing a (items x) b → (y : Y) × (m y ≡ x) × Stands a (g y) b)
      → (xs : List X) (a b : Here) → AllByRecursion P xs → Standing a (flat_map items xs) b → (ys : List Y) × (map m ys ≡ xs) × InTurn Stands a (map g ys) b
  each_there Stands items g m P each [] a b all stands = ([], refl, stands)
  each_there Stands items g m P each (x ∷ xs) a b all stands =
      let parts = cut (items x) (flat_map items xs) a b stands in
      let first = each x a parts.middle all.0 parts.front in
      let rest = each_there Stands items g m P each xs parts.middle b all.1 parts.rest in
      (first.0 ∷ rest.0, (λ i. first.1 i ∷ rest.1 i), (parts.middle, first.2, rest.2))

  same_length : {X Y Z : Type 0} (g : Y → Z) (m : Y → X) (xs : List X) (ys : List Y) → map m ys ≡ xs → length xs ≡ length (map g ys)
  same_length {X} g m xs ys is = sym (ap (λ (zs : List X). length zs) is) ∙ length-map ys m ∙ sym (length-map ys g)

  pub list_there : {X Y Z : Type 0} (Stands : Here → Z → Here → Type 0) (items : X → List Item) (g : Y → Z) (m : Y → X) (P : X → Type 0)
      → ((x : X) (a b : Here) → P x → Standing a (items x) b → (y : Y) × (m y ≡ x) × Stands a (g y) b)
      → (xs : List X) (a b : Here) → AllByRecursion P xs → Standing a (list_items items xs) b → (ys : List Y) × (map m ys ≡ xs) × IsList Stands a (map g ys) b
  list_there Stands items g m P each xs a b all stands =
      let later = each_there Stands items g m P each xs stands.0 b all stands.2 in
      (later.0, later.1, (stands.0, subst (λ (n : ℕ). IsNumber a n stands.0) (same_length g m xs later.0 later.1) stands.1, later.2))

  -- every element, where nothing is asked of it
  pub nothing_asked : {X : Type 0} (xs : List X) → AllByRecursion (λ (x : X). Unit {0}) xs
  nothing_asked [] = tt
  nothing_asked (x ∷ xs) = (tt, nothing_asked xs)

  abbrev Asked : {X : Type 0} → X → Type 0
  Asked x = Unit {0}

  one_type : (type : Tree) (b : Here) (next : Here) → Standing next (a_type type ∷ []) b → IsType next (spell (bare type)) b
  one_type type b next stands = (subst (λ (h : Here). IsNumber next (number type) h) stands.2 stands.1, refl)

  type_there : (type : Tree) (a b : Here) → Asked type → Standing a (type_items type) b → (y : TypeAt) × (y.tree ≡ type) × IsType a (spell y) b
  type_there type a b asked stands = (bare type, refl, one_type type b a stands)

  pub types_there : (types : List Tree) (a b : Here) → Standing a (list_items type_items types) b → (ys : List TypeAt) × (map (λ (t : TypeAt). t.tree) ys ≡ types) × IsList IsType a (map spell ys) b
  types_there types a b stands = list_there IsType type_items spell (λ (t : TypeAt). t.tree) Asked type_there types a b (nothing_asked types) stands

  abbrev pub spelled_param : ParamOf SpelledPos SpelledText TypeAt → ParamOf SpelledPos SpelledText SpelledType
  spelled_param x = param_map (λ (p : SpelledPos). p) (λ (s : SpelledText). s) (λ (q : SpelledPath). q) spell x

  pub param_there : (x : ParamOf Pos Text Tree) (a b : Here) → Asked x → Standing a (param_items x) b → (y : ParamOf SpelledPos SpelledText TypeAt) × (param_tree y ≡ x) × IsParam src a (spelled_param y) b
  param_there x a b asked stands =
      let pos = stands.1 in
      let name = stands.2.1 in (
        record { pos = pos.0; name = name.0; type = bare x.type },
        (λ i. record { pos = pos.1 i; name = name.1 i; type = x.type }),
        record { at_name = stands.0; at_type = stands.2.0; pos = pos.2; name = name.2; type = one_type x.type b stands.2.0 stands.2.2 },
      )

  params_there : (xs : List (ParamOf Pos Text Tree)) (a b : Here) → Standing a (list_items param_items xs) b
      → (ys : List (ParamOf SpelledPos SpelledText TypeAt)) × (map param_tree ys ≡ xs) × IsList (IsParam src) a (map spelled_param ys) b
  params_there xs a b stands = list_there (IsParam src) param_items spelled_param param_tree Asked param_there xs a b (nothing_asked xs) stands

  variadic_there : (ys : List (ParamOf SpelledPos SpelledText TypeAt)) (params : List (ParamOf Pos Text Tree)) → map param_tree ys ≡ params → (variadic : Bool) (a b : Here)
      → (IsTrue variadic → 0 < length params) → Standing a (variadic_items params variadic) b → IsVariadic (map spelled_param ys) a variadic b
  variadic_there [] [] is true a b last stands = absurd (let none = last refl in omega (arith, none))
  variadic_there [] [] is false a b last stands = (refl, stands)
  variadic_there [] (param ∷ params) is variadic a b last stands = absurd (let no = ap (λ (xs : List (ParamOf Pos Text Tree)). length xs) is in omega (arith, no))
  variadic_there (y ∷ ys) [] is variadic a b last stands = absurd (let no = ap (λ (xs : List (ParamOf Pos Text Tree)). length xs) is in omega (arith, no))
  variadic_there (y ∷ ys) (param ∷ params) is variadic a b last stands = subst (λ (h : Here). IsTruth a variadic h) stands.2 stands.1

  abbrev pub spelled_sig : SigOf SpelledPos SpelledText TypeAt → SigOf SpelledPos SpelledText SpelledType
  spelled_sig x = sig_map (λ (p : SpelledPos). p) (λ (s : SpelledText). s) (λ (q : SpelledPath). q) spell x

  pub sig_there : (sig : SigOf Pos Text Tree) (a b : Here) → HasLast sig → Standing a (sig_items sig) b → (y : SigOf SpelledPos SpelledText TypeAt) × (sig_tree y ≡ sig) × IsSig src a (spelled_sig y) b
  sig_there sig a b last stands =
      let parts = cut (list_items param_items sig.params) (list_items param_items sig.results ++ variadic_items sig.params sig.variadic) a b stands in
      let rest = cut (list_items param_items sig.results) (variadic_items sig.params sig.variadic) parts.middle b parts.rest in
      let params = params_there sig.params a parts.middle parts.front in
      let results = params_there sig.results parts.middle rest.middle rest.front in (
        record { params = params.0; results = results.0; variadic = sig.variadic },
        (λ i. record { params = params.1 i; results = results.1 i; variadic = sig.variadic }),
        record {
          at_results = parts.middle;
          at_variadic = rest.middle;
          params = params.2;
          results = results.2;
          variadic = variadic_there params.0 sig.params params.1 sig.variadic rest.middle b last rest.rest;
        },
      )

  abbrev spelled_field : FieldOf SpelledPos SpelledText SpelledPath TypeAt → Field
  spelled_field x = field_map (λ (p : SpelledPos). p) (λ (s : SpelledText). s) (λ (q : SpelledPath). q) spell x

  field_there : (x : FieldOf Pos Text Text Tree) (a b : Here) → x.origin ≡ bare_origin → Standing a (field_items x) b → (y : FieldOf SpelledPos SpelledText SpelledPath TypeAt) × (field_tree y ≡ x) × IsField src a (spelled_field y) b
  field_there x a b origin stands =
      let pos = stands.1 in
      let name = stands.2.1 in
      let tag = stands.2.2.2.2.1 in (
        record { origin = no_origin; pos = pos.0; name = name.0; type = bare x.type; embedded = x.embedded; tag = tag.0 },
        (λ i. record { origin = sym origin i; pos = pos.1 i; name = name.1 i; type = x.type; embedded = x.embedded; tag = tag.1 i }),
        record {
          at_name = stands.0;
          at_type = stands.2.0;
          at_embedded = stands.2.2.0;
          at_tag = stands.2.2.2.0;
          origin = refl;
          pos = pos.2;
          name = name.2;
          type = (stands.2.2.1, refl);
          embedded = stands.2.2.2.1;
          tag = subst (λ (h : Here). IsText src stands.2.2.2.0 tag.0 h) stands.2.2.2.2.2 tag.2;
        },
      )

  abbrev spelled_method : MethodOf SpelledPos SpelledText SpelledPath TypeAt → Method
  spelled_method x = method_map (λ (p : SpelledPos). p) (λ (s : SpelledText). s) (λ (q : SpelledPath). q) spell x

  abbrev MethodAsked : MethodOf Pos Text Text Tree → Type 0
  MethodAsked x = (x.origin ≡ bare_origin) × HasLast x.sig

  method_there : (x : MethodOf Pos Text Text Tree) (a b : Here) → MethodAsked x → Standing a (method_items x) b → (y : MethodOf SpelledPos SpelledText SpelledPath TypeAt) × (method_tree y ≡ x) × IsMethod src a (spelled_method y) b
  method_there x a b asked stands =
      let pos = stands.1 in
      let name = stands.2.1 in
      let sig = sig_there x.sig stands.2.0 b asked.1 stands.2.2 in
      let origin = asked.0 in (
        record { origin = no_origin; pos = pos.0; name = name.0; sig = sig.0 },
        (λ i. record { origin = sym origin i; pos = pos.1 i; name = name.1 i; sig = sig.1 i }),
        record { at_name = stands.0; at_sig = stands.2.0; origin = refl; pos = pos.2; name = name.2; sig = sig.2 },
      )

  embedded_there : (type : Tree) (a b : Here) → Asked type → Standing a (embedded_items type) b → (y : TypeAt) × (y.tree ≡ type) × IsEmbedded src a (spell y) b
  embedded_there type a b asked stands =
      let pos = stands.1 in
      (record { tree = type; pos = Some pos.0 }, refl, (pos.0, refl, stands.0, pos.2, (one_type type b stands.0 stands.2).0))

  abbrev spelled_term : TermOf TypeAt → Term
  spelled_term x = term_map (λ (p : SpelledPos). p) (λ (s : SpelledText). s) (λ (q : SpelledPath). q) spell x

  term_there : (x : TermOf Tree) (a b : Here) → Asked x → Standing a (term_items x) b → (y : TermOf TypeAt) × (term_tree y ≡ x) × IsTerm a (spelled_term y) b
  term_there x a b asked stands = (record { tilde = x.tilde; type = bare x.type }, refl, (stands.0, stands.1, one_type x.type b stands.0 stands.2))

  -- ---- descriptors

  -- what a descriptor of a kind is spelled with, from its parts on
  abbrev SpelledAs : Level → TypeTag → Here → Here → Type 0
  SpelledAs level kind next b = (y : SpelledShape TypeAt) × (shape_tree y ≡ level) × (tag_of (retype spell y) ≡ Some kind) × IsParts src next (retype spell y) b

  abbrev pub DescriptorOf : Level → Here → Here → Type 0
  DescriptorOf level a b = (y : SpelledShape TypeAt) × (shape_tree y ≡ level) × IsDescriptor src a (retype spell y) b

  descriptor : (kind : TypeTag) (level : Level) (items : List Item) (a b : Here) → src.version ≡ 2 → ((next : Here) → Standing next items b → SpelledAs level kind next b) → Standing a (tagged kind items) b → DescriptorOf level a b
  descriptor kind level items a b version parts stands =
      let there = parts stands.0 stands.2 in (
        there.0,
        there.1,
        record {
          kind = kind;
          its_kind = there.2;
          at_parts = stands.0;
          number = stands.1;
          known = ap (λ (v : ℕ). type_tag_of v (type_tag_code kind)) version ∙ tag_known kind;
          parts = there.3;
        },
      )

  abbrev QualifiedAs : Text → Text → Here → Here → Type 0
  QualifiedAs name path next b = (n : SpelledText) × (p : SpelledPath) × (n.text ≡ name) × (p.path ≡ path) × IsQualified src next n p b

  qualified : (name path : Text) (b : Here) (next : Here) → Standing next (a_text name ∷ a_path path ∷ []) b → QualifiedAs name path next b
  qualified name path b next stands =
      let n = stands.1 in
      let p = stands.2.1 in
      (n.0, p.0, n.1, p.1, (stands.0, n.2, subst (λ (h : Here). IsPath src stands.0 p.0 h) stands.2.2 p.2))

  behind_number : (n : ℕ) (type : Tree) (b : Here) (next : Here) → Standing next (a_number n ∷ a_type type ∷ []) b → (middle : Here) × IsNumber next n middle × IsType middle (spell (bare type)) b
  behind_number n type b next stands = (stands.0, stands.1, one_type type b stands.0 stands.2)

  pub level_there : (level : Level) (a b : Here) → src.version ≡ 2 → IsProperLevel level → HasNoOrigin level → Standing a (level_items level) b → (level_items level ≡ [] → ⊥) → DescriptorOf level a b
  level_there (predeclared_of basic) a b version proper origin stands some = absurd (some refl)
  level_there (named_of name path) a b version proper origin stands some =
      descriptor Defined (named_of name path) (a_text name ∷ a_path path ∷ []) a b version
      (λ next rest. let q = qualified name path b next rest in (named_of q.0 q.1, (λ i. named_of (q.2 i) (q.3 i)), refl, q.4)) stands
  level_there (parameter_of name path) a b version proper origin stands some =
      descriptor TypeParameter (parameter_of name path) (a_text name ∷ a_path path ∷ []) a b version
      (λ next rest. let q = qualified name path b next rest in (parameter_of q.0 q.1, (λ i. parameter_of (q.2 i) (q.3 i)), refl, q.4)) stands
  level_there (alias_of name path) a b version proper origin stands some =
      descriptor Alias (alias_of name path) (a_text name ∷ a_path path ∷ []) a b version
      (λ next rest. let q = qualified name path b next rest in (alias_of q.0 q.1, (λ i. alias_of (q.2 i) (q.3 i)), refl, q.4)) stands
  level_there (pointer_of type) a b version proper origin stands some =
      descriptor Pointer (pointer_of type) (a_type type ∷ []) a b version (λ next rest. (pointer_of (bare type), refl, refl, one_type type b next rest)) stands
  level_there (slice_of type) a b version proper origin stands some =
      descriptor Slice (slice_of type) (a_type type ∷ []) a b version (λ next rest. (slice_of (bare type), refl, refl, one_type type b next rest)) stands
  level_there (array_of size type) a b version proper origin stands some =
      descriptor Array (array_of size type) (a_number size ∷ a_type type ∷ []) a b version
      (λ next rest. let parts = behind_number size type b next rest in (array_of size (bare type), refl, refl, (parts.0, parts.1, proper, parts.2))) stands
  level_there (chan_of dir type) a b version proper origin stands some =
      descriptor Chan (chan_of dir type) (a_number (dir_number dir) ∷ a_type type ∷ []) a b version
      (λ next rest. let parts = behind_number (dir_number dir) type b next rest in (chan_of dir (bare type), refl, refl, (parts.0, parts.1, parts.2))) stands
  level_there (map_of key type) a b version proper origin stands some =
      descriptor Map (map_of key type) (a_type key ∷ a_type type ∷ []) a b version (λ next rest. (map_of (bare key) (bare type), refl, refl, (rest.0, (rest.1, refl), one_type type b rest.0 rest.2))) stands
  level_there (func_of home sig) a b version proper origin stands some =
      descriptor Signature (func_of home sig) (a_path home ∷ sig_items sig) a b version (λ next rest.
      let path = rest.1 in
      let y = sig_there sig rest.0 b proper rest.2 in
      (func_of path.0 y.0, (λ i. func_of (path.1 i) (y.1 i)), refl, (rest.0, path.2, y.2))) stands
  level_there (struct_of home fields) a b version proper origin stands some =
      descriptor Struct (struct_of home fields) (a_path home ∷ list_items field_items fields) a b version (λ next rest.
      let path = rest.1 in
      let ys = list_there (IsField src) field_items spelled_field field_tree (λ x. x.origin ≡ bare_origin) field_there fields rest.0 b origin rest.2 in
      (struct_of path.0 ys.0, (λ i. struct_of (path.1 i) (ys.1 i)), refl, (rest.0, path.2, ys.2))) stands
  level_there (interface_of home embedded methods) a b version proper origin stands some =
      descriptor Interface (interface_of home embedded methods) (a_path home ∷ (list_items embedded_items embedded ++ list_items method_items methods)) a b version (λ next rest.
      let parts = cut (list_items embedded_items embedded) (list_items method_items methods) rest.0 b rest.2 in
      let path = rest.1 in
      let es = list_there (IsEmbedded src) embedded_items spell (λ (t : TypeAt). t.tree) Asked embedded_there embedded rest.0 parts.middle (nothing_asked embedded) parts.front in
      let ms = list_there (IsMethod src) method_items spelled_method method_tree MethodAsked method_there methods parts.middle b
      (all_both (λ m. m.origin ≡ bare_origin) (λ m. HasLast m.sig) MethodAsked (λ m one other. (one, other)) methods origin (recursion_from_All (λ m. HasLast m.sig) methods proper)) parts.rest in
      (interface_of path.0 es.0 ms.0, (λ i. interface_of (path.1 i) (es.1 i) (ms.1 i)), refl, (rest.0, parts.middle, path.2, es.2, ms.2))) stands
  level_there (instance_of base args) a b version proper origin stands some =
      descriptor Instance (instance_of base args) (a_position Nowhere ∷ (list_items type_items args ++ a_type base ∷ [])) a b version (λ next rest.
      let parts = cut (list_items type_items args) (a_type base ∷ []) rest.0 b rest.2 in
      let pos = rest.1 in
      let ys = types_there args rest.0 parts.middle parts.front in (
        instance_of (record { tree = base; pos = Some pos.0 }) ys.0,
        (λ i. instance_of base (ys.1 i)),
        refl,
        (pos.0, refl, rest.0, parts.middle, pos.2, ys.2, subst (λ (n : ℕ). 0 < n) (same_length spell (λ (t : TypeAt). t.tree) args ys.0 ys.1) proper.1, (one_type base b parts.middle parts.rest).0),
      )) stands
  level_there (union_of terms) a b version proper origin stands some =
      descriptor Union (union_of terms) (list_items term_items terms) a b version (λ next rest.
      let ys = list_there IsTerm term_items spelled_term term_tree Asked term_there terms next b (nothing_asked terms) rest in
      (union_of ys.0, (λ i. union_of (ys.1 i)), refl, (ys.2, subst (λ (n : ℕ). 0 < n) (same_length spelled_term term_tree terms ys.0 ys.1) proper))) stands
