-- What stands where the items of a declaration stand: a case a kind.
use Rattle.std.proofs.Common.{◌≡◌, ℕ, ◌*◌, ◌≤◌, Bool, true, false, List, [], ◌∷◌, map, length, Option, Some, None, refl, sym, ap, subst, ◌∙◌, arith, ◌⊎◌, inl, inr}
use Rattle.std.specs.Prelude.{IsTrue, nat_le, ◌==◌, ◌||◌}
use Rattle.std.specs.List.{AllByRecursion}
use Rattle.std.proofs.lemmas.Bool.{or_left, or_right, le-leb, eq-eqb}
use Rattle.std.proofs.lemmas.List.Elements.{recursion_from_All, All-from_recursion}
use Rattle.go_values.specs.declared.positions.Pos.{Pos}
use Rattle.go_values.specs.declared.constants.Const.{Const}
use Rattle.go_values.specs.declared.constants.Const.TheVariants.{Bool as truth, Int as whole, Str as chars}
use Rattle.code_tables.specs.declared.predeclared.Basic.{Basic}
use Rattle.code_tables.specs.declared.predeclared.Basic.TheVariants as basics
use Rattle.code_tables.specs.Basic.{basic_code}
use Rattle.wire_bytes.specs.Begins.{Begins}
use Rattle.wire_bytes.specs.Whole.{Whole}
use Rattle.type_terms.specs.Shapes.{SigOf, sig_map}
use Rattle.type_terms.specs.Trees.{Text, Tree, predeclared, named, parameter, alias, pointer, slice, array, chan, map_type, func, struct, interface, instance, union}
use Rattle.type_terms.specs.Declarations.{ReceiverOf, var_of, function_of, constant_of, defined_of, renamed_of, type_parameter_of, receiver_map, form_map, Decl}
use Rattle.type_terms.specs.DeclarationRules.{HasLast, IsTypeParameter, IsInterface, IsUnderlying, MayHaveMethods, IsProperForm}
use Rattle.decl_spelling.specs.Sections.{Sections, Basics}
use Rattle.decl_spelling.specs.Spelled.{SpelledText, SpelledPos, SpelledType, SpelledConst, SpelledForm, pos_meant, text_meant}
use Rattle.decl_spelling.specs.Constants.{Spelling, flag, offset, number, Kind, spelled, kind_of, kind_number, basic_type, value_alone, text_value}
use Rattle.decl_spelling.specs.Declarations.{Receiver, has_methods}
use Rattle.decl_spelling.specs.Descent.{is_parameter, is_interface, is_underlying, may_underlie}
use Rattle.decl_spelling.specs.Grammar.{Here, IsNumber, IsTruth, IsText, IsType, IsList, IsSig}
use Rattle.decl_spelling.specs.Spelling.{Known, KnownForm, numbers, number_of, numbered, numbered_receiver, same_pos, same_text, IsReceiver, IsMethods, IsSpelled, IsValue, IsGenericList, IsRightSide, IsForm}
use Rattle.decl_spelling.proofs.MapLemmas.{map_twice, all_map, all_unmap}
use Rattle.decl_spelling.proofs.RetypeLemmas.{sig_twice, receiver_twice}
use Rattle.file_layout.specs.Items.{Item, a_number, a_type, param_items, sig_items, generic_items, receiver_items, methods_items, constant_kind, spelled_items, value_items, decl_items}
use Rattle.file_layout.specs.Conditions.{IsValueFor, ConstantFits}
use Rattle.file_layout.proofs.DescriptorsHere.{TypeAt, bare, sig_tree, spell, Standing, cut, list_there, types_there, param_there, sig_there}

-- ---- what the rules of declarations say, as tests

parameter_is : (type : Tree) → IsTypeParameter type → IsTrue (is_parameter type)
parameter_is (parameter q) is = refl
parameter_is (predeclared basic) is = elim is [ ]
parameter_is (named q) is = elim is [ ]
parameter_is (alias q) is = elim is [ ]
parameter_is (pointer type) is = elim is [ ]
parameter_is (slice type) is = elim is [ ]
parameter_is (array size type) is = elim is [ ]
parameter_is (chan dir type) is = elim is [ ]
parameter_is (map_type key type) is = elim is [ ]
parameter_is (func home ins outs variadic) is = elim is [ ]
parameter_is (struct home inner) is = elim is [ ]
parameter_is (interface home embedded inner) is = elim is [ ]
parameter_is (instance base args) is = elim is [ ]
parameter_is (union inner) is = elim is [ ]

no_parameter : (type : Tree) → (IsTypeParameter type → ⊥) → is_parameter type ≡ false
no_parameter (parameter q) is = absurd (is tt)
no_parameter _ is = refl

interface_is : (type : Tree) → IsInterface type → IsTrue (is_interface type)
interface_is (interface home embedded inner) is = refl
interface_is (parameter q) is = elim is [ ]
interface_is (predeclared basic) is = elim is [ ]
interface_is (named q) is = elim is [ ]
interface_is (alias q) is = elim is [ ]
interface_is (pointer type) is = elim is [ ]
interface_is (slice type) is = elim is [ ]
interface_is (array size type) is = elim is [ ]
interface_is (chan dir type) is = elim is [ ]
interface_is (map_type key type) is = elim is [ ]
interface_is (func home ins outs variadic) is = elim is [ ]
interface_is (struct home inner) is = elim is [ ]
interface_is (instance base args) is = elim is [ ]
interface_is (union inner) is = elim is [ ]

may_be_under : (basic : Basic) → (basic_code basic ≤ 18) ⊎ ((basic_code basic ≡ 27) ⊎ (basic_code basic ≡ 31)) → may_underlie basic ≡ true
may_be_under basic (inl low) = or_left (nat_le (basic_code basic) 18) ((basic_code basic == 27) || (basic_code basic == 31)) (le-leb (basic_code basic) 18 low)
may_be_under basic (inr (inl is)) =
    or_right (nat_le (basic_code basic) 18) ((basic_code basic == 27) || (basic_code basic == 31)) (or_left (basic_code basic == 27) (basic_code basic == 31) (eq-eqb (basic_code basic) 27 is))
may_be_under basic (inr (inr is)) =
    or_right (nat_le (basic_code basic) 18) ((basic_code basic == 27) || (basic_code basic == 31)) (or_right (basic_code basic == 27) (basic_code basic == 31) (eq-eqb (basic_code basic) 31 is))

underlying_is : (type : Tree) → IsUnderlying type → IsTrue (is_underlying type)
underlying_is (predeclared basic) is = may_be_under basic is
underlying_is (named q) is = elim is [ ]
underlying_is (parameter q) is = elim is [ ]
underlying_is (alias q) is = elim is [ ]
underlying_is (instance base args) is = elim is [ ]
underlying_is (union inner) is = elim is [ ]
underlying_is _ is = refl

not_any : (basic : Basic) → (basic_code basic ≡ 31 → ⊥) → has_methods (predeclared basic) ≡ false → ⊥
not_any basics.Any may has = may refl
not_any _ may has = absurd cc

may_have_methods : (type : Tree) → MayHaveMethods type → has_methods type ≡ false → ⊥
may_have_methods (interface home embedded inner) may has = may
may_have_methods (predeclared basic) may has = not_any basic may has
may_have_methods _ may has = absurd cc

pub no_methods : (type : Tree) (ms : List (ReceiverOf Pos Text Tree)) → (ms ≡ []) ⊎ MayHaveMethods type → has_methods type ≡ false → ms ≡ []
no_methods type ms (inl none) has = none
no_methods type ms (inr may) has = absurd (may_have_methods type may has)

-- what a declaration that is spelled with these parts means
abbrev pub form_tree : SpelledForm TypeAt → Decl
form_tree x = form_map pos_meant text_meant (λ (t : TypeAt). t.tree) x

abbrev receiver_tree : ReceiverOf SpelledPos SpelledText TypeAt → ReceiverOf Pos Text Tree
receiver_tree x = receiver_map pos_meant text_meant (λ (t : TypeAt). t.tree) x

abbrev pub tree_at : TypeAt → Tree
tree_at t = t.tree

module _ (src : Sections) (number' : Tree → ℕ) where
  -- the numbers are those of the types
  abbrev pub known : TypeAt → Known
  known type = record { number = number' type.tree; pos = type.pos; tree = type.tree }

  abbrev pub known_form : SpelledForm TypeAt → KnownForm
  known_form form = form_map same_pos same_text known form

  abbrev Stood : Here → List Item → Here → Type 0
  Stood = Standing src number'

  abbrev spell' : TypeAt → SpelledType
  spell' = spell src number'

  numbers_are : (types : List TypeAt) → map spell' types ≡ numbers (map known types)
  numbers_are types = sym (map_twice known number_of spell' (λ x. refl) types)

  abbrev GenericAs : List Tree → Here → Here → Type 0
  GenericAs tparams a b = (ys : List TypeAt) × (map tree_at ys ≡ tparams) × IsGenericList a (map known ys) b

  generic_there : (tparams : List Tree) (a b : Here) → AllByRecursion IsTypeParameter tparams → Stood a (generic_items tparams) b → GenericAs tparams a b
  generic_there [] a b all stands = ([], refl, stands)
  generic_there (t ∷ ts) a b all stands = by (types_there src number' (t ∷ ts) a b stands).0 (types_there src number' (t ∷ ts) a b stands).1 (types_there src number' (t ∷ ts) a b stands).2
    where
      params : (types : List Tree) → AllByRecursion IsTypeParameter types → AllByRecursion (λ t. IsTrue (is_parameter t)) types
      params [] all = tt
      params (x ∷ xs) all = (parameter_is x all.0, params xs all.1)

      by : (ys : List TypeAt) → map tree_at ys ≡ t ∷ ts → IsList IsType a (map spell' ys) b → GenericAs (t ∷ ts) a b
      by [] is list = absurd (let no = ap (λ (xs : List Tree). length xs) is in omega (arith, no))
      by (y ∷ ys) is list =
          let trees : AllByRecursion (λ t. IsTrue (is_parameter t)) (map tree_at (y ∷ ys)) = subst (AllByRecursion (λ t. IsTrue (is_parameter t))) (sym is) (params (t ∷ ts) all) in (
            y ∷ ys,
            is,
            (
              subst (λ (ns : List SpelledType). IsList IsType a ns b) (numbers_are (y ∷ ys)) list,
              (
                omega arith,
                All-from_recursion (λ (x : Known). IsTrue (is_parameter x.tree)) (map known (y ∷ ys))
                    (all_map (λ (x : Known). IsTrue (is_parameter x.tree)) known (y ∷ ys) (all_unmap (λ t. IsTrue (is_parameter t)) tree_at (y ∷ ys) trees)),
              ),
            ),
          )

  abbrev known_sig : SigOf SpelledPos SpelledText TypeAt → SigOf SpelledPos SpelledText Known
  known_sig sig = sig_map same_pos same_text same_text known sig

  sig_known : (sig : SigOf Pos Text Tree) (a b : Here) → HasLast sig → Stood a (sig_items sig) b → (y : SigOf SpelledPos SpelledText TypeAt) × (sig_tree y ≡ sig) × IsSig src a (numbered (known_sig y)) b
  sig_known sig a b last stands =
      let y = sig_there src number' sig a b last stands in
      (y.0, y.1, subst (λ s. IsSig src a s b) (sym (sig_twice known number_of SpelledPos SpelledText SpelledText y.0)) y.2)

  abbrev spelled_receiver : ReceiverOf SpelledPos SpelledText TypeAt → Receiver
  spelled_receiver x = receiver_map same_pos same_text spell' x

  receiver_there : (x : ReceiverOf Pos Text Tree) (a b : Here) → HasLast x.sig → Stood a (receiver_items x) b → (y : ReceiverOf SpelledPos SpelledText TypeAt) × (receiver_tree y ≡ x) × IsReceiver src a (spelled_receiver y) b
  receiver_there x a b last stands =
      let parts = cut src number' (param_items x.recv) (sig_items x.sig) stands.2.0 b stands.2.2 in
      let pos = stands.1 in
      let name = stands.2.1 in
      let recv = param_there src number' x.recv stands.2.0 parts.middle tt parts.front in
      let sig = sig_there src number' x.sig parts.middle b last parts.rest in (
        record { pos = pos.0; name = name.0; recv = recv.0; sig = sig.0 },
        (λ i. record { pos = pos.1 i; name = name.1 i; recv = recv.1 i; sig = sig.1 i }),
        record { at_name = stands.0; at_recv = stands.2.0; at_sig = parts.middle; pos = pos.2; name = name.2; recv = recv.2; sig = sig.2 },
      )

  abbrev MethodsAs : Bool → List (ReceiverOf Pos Text Tree) → Here → Here → Type 0
  MethodsAs has methods a b = (ys : List (ReceiverOf SpelledPos SpelledText TypeAt)) × (map receiver_tree ys ≡ methods) × IsMethods src has a (map numbered_receiver (map (receiver_map same_pos same_text known) ys)) b

  methods_there : (has : Bool) (methods : List (ReceiverOf Pos Text Tree)) (a b : Here) → AllByRecursion (λ m. HasLast m.sig) methods → (has ≡ false → methods ≡ []) → Stood a (methods_items has methods) b → MethodsAs has methods a b
  methods_there true methods a b last none stands =
      let ys = list_there src number' (IsReceiver src) receiver_items spelled_receiver receiver_tree (λ m. HasLast m.sig) receiver_there methods a b last stands in
      let same : map numbered_receiver (map (receiver_map same_pos same_text known) ys.0) ≡ map spelled_receiver ys.0 = map_twice (receiver_map same_pos same_text known) numbered_receiver spelled_receiver (receiver_twice known number_of SpelledPos SpelledText) ys.0 in
      (ys.0, ys.1, subst (λ (ms : List Receiver). IsList (IsReceiver src) a ms b) (sym same) ys.2)
  methods_there false methods a b last none stands = ([], sym (none refl), (refl, stands))

  -- ---- values

  abbrev SpelledAs : Spelling → Const → Here → Here → Type 0
  SpelledAs spelling value a b = (v : SpelledConst) × (v.value ≡ value) × IsSpelled src spelling a v b

  spelled_there : (spelling : Spelling) (value : Const) (a b : Here) → IsValueFor spelling value → Stood a (spelled_items spelling value) b → SpelledAs spelling value a b
  spelled_there flag (truth x) a b fits stands = (value_alone (truth x), refl, (x, refl, subst (λ (h : Here). IsTruth a x h) stands.2 stands.1))
  spelled_there flag (whole x) a b fits stands = elim fits [ ]
  spelled_there flag (chars x) a b fits stands = elim fits [ ]
  spelled_there offset (chars x) a b fits stands =
      let text = stands.1 in
      (text_value text.0, ap chars text.1, (text.0, refl, subst (λ (h : Here). IsText src a text.0 h) stands.2 text.2))
  spelled_there offset (truth x) a b fits stands = elim fits [ ]
  spelled_there offset (whole x) a b fits stands = elim fits [ ]
  spelled_there (number signed max) (whole x) a b fits stands =
      let there : Begins (Whole signed max) a.left x b.left × (b.before ≡ a.before) = subst (λ (h : Here). Begins (Whole signed max) a.left x h.left × (h.before ≡ a.before)) stands.2 stands.1 in
      (value_alone (whole x), refl, (x, refl, there.0, there.1))
  spelled_there (number signed max) (truth x) a b fits stands = elim fits [ ]
  spelled_there (number signed max) (chars x) a b fits stands = elim fits [ ]

  value_there : (basics : Basics) (type : Tree) (value : Const) (a b : Here) → src.version ≡ 2 → (basic : Basic) (spelling : Spelling) → basic_type basics type ≡ Some basic → kind_of basic ≡ spelled spelling
      → IsValueFor spelling value → Stood a (value_items (constant_kind (basic_type basics type)) value) b → (v : SpelledConst) × (v.value ≡ value) × IsValue src basics type a v b
  value_there basics type value a b version basic spelling is its fits stands =
      let kind : constant_kind (basic_type basics type) ≡ spelled spelling = ap constant_kind is ∙ its in
      let there : Stood a (a_number (2 * kind_number spelling) ∷ spelled_items spelling value) b = subst (λ (k : Kind). Stood a (value_items k value) b) kind stands in
      let v = spelled_there spelling value there.0 b fits there.2 in (
        v.0,
        v.1,
        record {
          basic = basic;
          spelling = spelling;
          at_value = there.0;
          its_basic = is;
          its_spelling = its;
          kind = inr (λ one. let two : 2 ≡ 1 = sym version ∙ one in omega (arith, two), there.1);
          spelled_value = v.2;
        },
      )

  -- ---- declarations

  right_side : (ys : List TypeAt) (tparams : List Tree) → map tree_at ys ≡ tparams → (type : Tree) → (tparams ≡ []) ⊎ (IsTypeParameter type → ⊥) → IsRightSide (map known ys) type
  right_side [] tparams is type proper = tt
  right_side (y ∷ ys) tparams is type (inl none) = absurd (let no = ap (λ (xs : List Tree). length xs) (is ∙ none) in omega (arith, no))
  right_side (y ∷ ys) tparams is type (inr other) = no_parameter type other

  last_type : (type : Tree) (a b : Here) → Stood a (a_type type ∷ []) b → IsType a (number_of (known (bare type))) b
  last_type type a b stands = (subst (λ (h : Here). IsNumber a (number' type) h) stands.2 stands.1, refl)

  abbrev pub FormAs : Basics → Decl → Here → Here → Type 0
  FormAs basics decl a b = (y : SpelledForm TypeAt) × (at : Option ℕ) × (form_tree y ≡ decl) × IsForm src basics a (known_form y) at b

  pub form_there : (basics : Basics) (decl : Decl) (a b : Here) → src.version ≡ 2 → IsProperForm decl → ConstantFits basics decl → Stood a (decl_items basics decl) b → FormAs basics decl a b
  form_there basics (var_of pos type) a b version proper fits stands =
      let p = stands.1 in
      (var_of p.0 (bare type), None, (λ i. var_of (p.1 i) type), (stands.0, p.2, last_type type stands.0 b stands.2, refl))
  form_there basics (function_of pos tparams sig) a b version proper fits stands =
      let parts = cut src number' (generic_items tparams) (sig_items sig) stands.0 b stands.2 in
      let p = stands.1 in
      let ts = generic_there tparams stands.0 parts.middle (recursion_from_All IsTypeParameter tparams proper.0) parts.front in
      let s = sig_known sig parts.middle b proper.1 parts.rest in
      (function_of p.0 ts.0 s.0, None, (λ i. function_of (p.1 i) (ts.1 i) (s.1 i)), (stands.0, parts.middle, p.2, ts.2, s.2, refl))
  form_there basics (constant_of pos type value) a b version proper fits stands =
      let p = stands.1 in
      let v = value_there basics type value stands.2.0 b version fits.0 fits.1 fits.2 fits.3 fits.4 stands.2.2 in
      (constant_of p.0 (bare type) (v.0).value, (v.0).offset, (λ i. constant_of (p.1 i) type (v.1 i)), (stands.0, stands.2.0, p.2, (stands.2.1, refl), v.2))
  form_there basics (defined_of pos tparams underlying methods) a b version proper fits stands =
      let parts = cut src number' (generic_items tparams) (a_type underlying ∷ methods_items (has_methods underlying) methods) stands.0 b stands.2 in
      let p = stands.1 in
      let ts = generic_there tparams stands.0 parts.middle (recursion_from_All IsTypeParameter tparams proper.0) parts.front in
      let ms = methods_there (has_methods underlying) methods parts.rest.0 b (recursion_from_All (λ m. HasLast m.sig) methods proper.3) (no_methods underlying methods proper.2) parts.rest.2 in (
        defined_of p.0 ts.0 (bare underlying) ms.0,
        None,
        (λ i. defined_of (p.1 i) (ts.1 i) underlying (ms.1 i)),
        (stands.0, parts.middle, parts.rest.0, p.2, ts.2, (parts.rest.1, refl), underlying_is underlying proper.1, ms.2, refl),
      )
  form_there basics (renamed_of pos tparams type) a b version proper fits stands =
      let parts = cut src number' (generic_items tparams) (a_type type ∷ []) stands.0 b stands.2 in
      let p = stands.1 in
      let ts = generic_there tparams stands.0 parts.middle (recursion_from_All IsTypeParameter tparams proper.0) parts.front in (
        renamed_of p.0 ts.0 (bare type),
        None,
        (λ i. renamed_of (p.1 i) (ts.1 i) type),
        (stands.0, parts.middle, p.2, ts.2, last_type type parts.middle b parts.rest, right_side ts.0 tparams ts.1 type proper.1, refl),
      )
  form_there basics (type_parameter_of pos implicit constraint) a b version proper fits stands =
      let p = stands.1 in (
        type_parameter_of p.0 implicit (bare constraint),
        None,
        (λ i. type_parameter_of (p.1 i) implicit constraint),
        (stands.0, stands.2.0, p.2, stands.2.1, last_type constraint stands.2.0 b stands.2.2, λ is. interface_is constraint (proper is), refl),
      )
