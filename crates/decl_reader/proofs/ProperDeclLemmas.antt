-- What is spelled keeps the rules of declarations that environments give.
use Rattle.std.proofs.Common.{◌≡◌, ℕ, zero, suc, ◌<◌, ◌≤◌, ◌⊎◌, inl, inr, Bool, true, false, List, [], ◌∷◌, map, length, All, Contains, Result, Ok, Err, Option, refl, sym, ap, subst, ◌∙◌, arith}
use Rattle.std.specs.Prelude.{IfOk, IsTrue, nat_le, ◌||◌, ◌==◌}
use Rattle.std.specs.List.{AllByRecursion}
use Rattle.std.proofs.lemmas.Bool.Decides.{nat_tests}
use Rattle.std.proofs.lemmas.List.{length-map}
use Rattle.std.proofs.lemmas.List.Elements.{All-nil, All-map, All-weaker, All-contains, All-from_recursion}
use Rattle.go_values.specs.declared.positions.Pos.{Pos}
use Rattle.code_tables.specs.declared.predeclared.Basic.{Basic}
use Rattle.code_tables.specs.declared.predeclared.Basic.TheVariants.{Any as any_type}
use Rattle.code_tables.specs.Basic.{basic_code}
use Rattle.type_terms.specs.declared.descriptors.Node.{Node}
use Rattle.type_terms.specs.declared.declarations.DeclNode.{DeclNode}
use Rattle.type_terms.specs.Shapes.{ParamOf, SigOf, MethodOf, TermOf, predeclared_of, array_of, func_of, interface_of, instance_of, union_of, param_map, sig_map, method_map, term_map, retype, shape_types}
use Rattle.type_terms.specs.ShapeLaws.{shape_types_map}
use Rattle.type_terms.specs.Trees.{Text, Tree, predeclared, named, parameter, alias, interface, instance, union, Level, level_of, tree_of}
use Rattle.type_terms.specs.TreeLevels.{level_of-tree_of}
use Rattle.type_terms.specs.Parts.{Within, itself, inside, parts}
use Rattle.type_terms.specs.Declarations.{ReceiverOf, var_of, function_of, constant_of, defined_of, renamed_of, type_parameter_of, receiver_map, form_map, form_types, Decl}
use Rattle.type_terms.specs.DeclarationRules.{HasLast, IsProperLevel, IsProper, IsTypeParameter, IsInterface, IsUnderlying, MayHaveMethods, IsProperForm, IsProperDecl}
use Rattle.type_terms.specs.Declarations.{decl_of}
use Rattle.decl_spelling.specs.Sections.{Sections, Basics}
use Rattle.decl_spelling.specs.Spelled.{SpelledText, SpelledPath, SpelledPos, SpelledShape, pos_meant, text_meant, path_meant, meant, form_meant}
use Rattle.decl_spelling.specs.Descriptors.{Param}
use Rattle.decl_spelling.specs.Descent.{is_parameter, is_interface, is_underlying}
use Rattle.decl_spelling.specs.Declarations.{has_methods}
use Rattle.decl_spelling.specs.Grammar.{Here, InTurn, IsVariadic, IsSig, IsMethod, IsParts}
use Rattle.decl_spelling.specs.Spelling.{Block, Known, Names, IsInstanceOf, Sound, KnownForm, number_of, same_pos, same_text, numbered, numbered_receiver, IsReceiver, IsMethods, IsGenericList, IsRightSide, IsForm, SpellsDecl}
use Rattle.decl_spelling.proofs.NewBlocks.{block_some}
use Rattle.decl_spelling.proofs.Forms.{form_types_map, form_meant_types}
use Rattle.decl_spelling.proofs.LeavingReach.{meant_types}
use Rattle.decl_spelling.proofs.MapLemmas.{map_same}
use Rattle.decl_reader.specs.declared.fault.DeclFault.{DeclFault}
use Rattle.decl_reader.proofs.GenericFlatLemmas.{generic_by_name}

abbrev tree_of_known : Known → Tree
tree_of_known x = x.tree

-- ---- signatures

variadic_last : (params : List Param) (a b : Here) (variadic : Bool) → IsVariadic params a variadic b → IsTrue variadic → 0 < length params
variadic_last [] a b variadic is given = absurd (let none : variadic ≡ false = is.0 in cc)
variadic_last (p ∷ ps) a b variadic is given = omega arith

abbrev with_trees : SigOf SpelledPos SpelledText Known → SigOf Pos Text Tree
with_trees sig = sig_map pos_meant text_meant text_meant (λ (t : Tree). t) (sig_map same_pos same_text same_text tree_of_known sig)

sig_last : (src : Sections) (sig : SigOf SpelledPos SpelledText Known) (a b : Here) → IsSig src a (numbered sig) b → HasLast (with_trees sig)
sig_last src sig a b is given =
    let some : 0 < length (map (param_map same_pos same_text same_text number_of) sig.params) = variadic_last (map (param_map same_pos same_text same_text number_of) sig.params) is.at_variadic b sig.variadic is.variadic given in
    let typed : List (ParamOf SpelledPos SpelledText Tree) = map (param_map same_pos same_text same_text tree_of_known) sig.params in
    omega (
      arith,
      some,
      length-map sig.params (param_map same_pos same_text same_text number_of),
      length-map sig.params (param_map same_pos same_text same_text tree_of_known),
      length-map typed (param_map pos_meant text_meant text_meant (λ (t : Tree). t)),
    )

abbrev same_path : SpelledPath → SpelledPath
same_path path = path

abbrev methods_meant : List (MethodOf SpelledPos SpelledText SpelledPath Known) → List (MethodOf Pos Text Text Tree)
methods_meant ms = map (method_map pos_meant text_meant path_meant (λ (t : Tree). t)) (map (method_map same_pos same_text same_path tree_of_known) ms)

abbrev receivers_meant : List (ReceiverOf SpelledPos SpelledText Known) → List (ReceiverOf Pos Text Tree)
receivers_meant ms = map (receiver_map pos_meant text_meant (λ (t : Tree). t)) (map (receiver_map same_pos same_text tree_of_known) ms)

abbrev types_meant : List Known → List Tree
types_meant xs = map (λ (t : Tree). t) (map tree_of_known xs)

methods_last : (src : Sections) (ms : List (MethodOf SpelledPos SpelledText SpelledPath Known)) (a b : Here) → InTurn (IsMethod src) a (map (method_map same_pos same_text same_path number_of) ms) b
    → AllByRecursion (λ m. HasLast m.sig) (methods_meant ms)
methods_last src [] a b turn = tt
methods_last src (m ∷ ms) a b turn = (sig_last src m.sig (turn.1).at_sig turn.0 (turn.1).sig, methods_last src ms turn.0 b turn.2)

receivers_last : (src : Sections) (ms : List (ReceiverOf SpelledPos SpelledText Known)) (a b : Here) → InTurn (IsReceiver src) a (map numbered_receiver ms) b
    → AllByRecursion (λ m. HasLast m.sig) (receivers_meant ms)
receivers_last src [] a b turn = tt
receivers_last src (m ∷ ms) a b turn = (sig_last src m.sig (turn.1).at_sig turn.0 (turn.1).sig, receivers_last src ms turn.0 b turn.2)

-- ---- a type at its one level

level_proper : (src : Sections) (x : SpelledShape Known) (a b : Here) → IsParts src a (retype number_of x) b → IsInstanceOf x → IsProperLevel (meant (retype tree_of_known x))
level_proper src (array_of size type) a b is generic = is.2
level_proper src (func_of home sig) a b is generic = sig_last src sig is.0 b is.2
level_proper src (interface_of home embedded methods) a b is generic =
    All-from_recursion (λ m. HasLast m.sig) (methods_meant methods) (methods_last src methods (is.4).0 b (is.4).2)
level_proper src (instance_of base args) a b is generic = (generic_by_name base.tree generic, omega (arith, is.6, length-map args number_of, length-map args tree_of_known, length-map (map tree_of_known args) (λ (t : Tree). t)))
level_proper src (union_of terms) a b is generic =
    let typed : List (TermOf Tree) = map (term_map same_pos same_text same_path tree_of_known) terms in
    omega (
      arith,
      is.1,
      length-map terms (term_map same_pos same_text same_path number_of),
      length-map terms (term_map same_pos same_text same_path tree_of_known),
      length-map typed (term_map pos_meant text_meant path_meant (λ (t : Tree). t)),
    )
level_proper src _ a b is generic = tt

within_proper : (level : Level) → All IsProper (shape_types level) → IsProperLevel level → (type part : Tree) → type ≡ tree_of level → Within type part → IsProperLevel (level_of part)
within_proper level children own _ _ e (itself type) = subst IsProperLevel (sym (ap level_of e ∙ level_of-tree_of level)) own
within_proper level children own _ _ e (inside type part below held rest) =
    let same : parts type ≡ shape_types level = ap shape_types (ap level_of e ∙ level_of-tree_of level) in
    All-contains IsProper (shape_types level) part children (subst (λ ts. Contains ts part) same held) below rest

basic_proper : (basic : Basic) → IsProper (predeclared basic)
basic_proper basic part within = within_proper (predeclared_of basic) (All-nil IsProper) tt (predeclared basic) part refl within

-- ---- the types of blocks

module _ (src : Sections) (blocks : List Block) (sound : Sound src blocks) where
  named_proper : (holder : ℕ) → ((b : Block) → Contains blocks b → b.end ≤ holder → IsProper b.tree) → (x : Known) → Names src blocks holder x → IsProper x.tree
  named_proper holder below x (inl small) = subst IsProper (sym small.3) (basic_proper small.1)
  named_proper holder below x (inr large) = subst IsProper (sym large.4) (below large.0 large.1 large.3)

  all_proper : (holder : ℕ) → ((b : Block) → Contains blocks b → b.end ≤ holder → IsProper b.tree) → (xs : List Known) → All (Names src blocks holder) xs → All IsProper (map tree_of_known xs)
  all_proper holder below xs names = All-map IsProper tree_of_known xs (All-weaker (Names src blocks holder) (λ x. IsProper x.tree) (named_proper holder below) xs names)

  block_proper : (n : ℕ) (b : Block) → Contains blocks b → b.end ≤ n → IsProper b.tree
  block_proper zero b has ends part within = absurd (omega (arith, ends, block_some src blocks b (sound.each b has)))
  block_proper (suc n) b has ends part within =
      let says = sound.each b has in
      let some = block_some src blocks b says in
      let below : (c : Block) → Contains blocks c → c.end ≤ b.start → IsProper c.tree = λ c has_c ends_c. block_proper n c has_c (omega (arith, ends, some, ends_c)) in
      let children : All IsProper (shape_types (meant (retype tree_of_known says.parts))) =
      subst (All IsProper) (sym (meant_types (retype tree_of_known says.parts) ∙ shape_types_map same_pos same_text same_path tree_of_known says.parts)) (all_proper b.start below (shape_types says.parts) says.named) in
      within_proper (meant (retype tree_of_known says.parts)) children (level_proper src says.parts says.stands.at_parts says.after says.stands.parts says.generic) b.tree part says.type within

-- ---- a declaration's own parts

is_type_parameter : (type : Tree) → IsTrue (is_parameter type) → IsTypeParameter type
is_type_parameter (parameter q) given = tt
is_type_parameter _ given = absurd cc

no_type_parameter : (type : Tree) → is_parameter type ≡ false → IsTypeParameter type → ⊥
no_type_parameter (parameter q) other is = absurd cc
no_type_parameter _ other is = is

is_an_interface : (type : Tree) → IsTrue (is_interface type) → IsInterface type
is_an_interface (interface home embedded own) given = tt
is_an_interface _ given = absurd cc

one_of : (x y z : Bool) → IsTrue (x || (y || z)) → IsTrue x ⊎ (IsTrue y ⊎ IsTrue z)
one_of true y z given = inl refl
one_of false true z given = inr (inl refl)
one_of false false true given = inr (inr refl)
one_of false false false given = absurd cc

may_underlie_code : (code : ℕ) → IsTrue (nat_le code 18 || ((code == 27) || (code == 31))) → (code ≤ 18) ⊎ ((code ≡ 27) ⊎ (code ≡ 31))
may_underlie_code code given =
    elim (one_of (nat_le code 18) (code == 27) (code == 31) given) [
      | inl small ↦ inl (grind (arith, nat_tests, small))
      | inr (inl pointer) ↦ inr (inl (grind (arith, nat_tests, pointer)))
      | inr (inr any) ↦ inr (inr (grind (arith, nat_tests, any)))
    ]

may_underlie_type : (type : Tree) → IsTrue (is_underlying type) → IsUnderlying type
may_underlie_type (predeclared basic) given = may_underlie_code (basic_code basic) given
may_underlie_type (named q) given = absurd cc
may_underlie_type (parameter q) given = absurd cc
may_underlie_type (alias q) given = absurd cc
may_underlie_type (instance base args) given = absurd cc
may_underlie_type (union members) given = absurd cc
may_underlie_type _ given = tt

not_any : (basic : Basic) → has_methods (predeclared basic) ≡ true → basic_code basic ≡ 31 → ⊥
not_any any_type given code = absurd cc
not_any _ given code = absurd (omega (arith, code))

may_have_methods : (type : Tree) → has_methods type ≡ true → MayHaveMethods type
may_have_methods (interface home embedded own) given = absurd cc
may_have_methods (predeclared basic) given = not_any basic given
may_have_methods _ given = tt

no_methods : (ms : List (ReceiverOf SpelledPos SpelledText Known)) → map numbered_receiver ms ≡ [] → receivers_meant ms ≡ []
no_methods [] none = refl
no_methods (m ∷ ms) none = absurd cc

methods_proper : (src : Sections) (type : Tree) (own : Bool) (ms : List (ReceiverOf SpelledPos SpelledText Known)) (a b : Here) → has_methods type ≡ own → IsMethods src own a (map numbered_receiver ms) b
    → ((receivers_meant ms ≡ []) ⊎ MayHaveMethods type) × All (λ m. HasLast m.sig) (receivers_meant ms)
methods_proper src type true ms a b is stands =
    (inr (may_have_methods type is), All-from_recursion (λ m. HasLast m.sig) (receivers_meant ms) (receivers_last src ms stands.0 b stands.2))
methods_proper src type false ms a b is stands =
    let none = no_methods ms stands.0 in
    (inl none, subst (All (λ m. HasLast m.sig)) (sym none) (All-nil (λ m. HasLast m.sig)))

tparams_proper : (tparams : List Known) (a b : Here) → IsGenericList a tparams b → All IsTypeParameter (types_meant tparams)
tparams_proper [] a b stands = All-nil IsTypeParameter
tparams_proper (t ∷ ts) a b stands =
    subst (All IsTypeParameter) (sym (map_same (λ (t : Tree). t) (λ t. refl) (map tree_of_known (t ∷ ts)))) (All-map IsTypeParameter tree_of_known (t ∷ ts) (All-weaker (λ x. IsTrue (is_parameter x.tree)) (λ x. IsTypeParameter x.tree) (λ x given. is_type_parameter x.tree given) (t ∷ ts) (stands.1).1))

right_side : (tparams : List Known) (type : Tree) → IsRightSide tparams type → (types_meant tparams ≡ []) ⊎ (IsTypeParameter type → ⊥)
right_side [] type is = inl refl
right_side (t ∷ ts) type is = inr (no_type_parameter type is)

form_proper : (src : Sections) (basics : Basics) (a : Here) (x : KnownForm) (at : Option ℕ) (b : Here) → IsForm src basics a x at b → IsProperForm (form_meant (form_map same_pos same_text tree_of_known x))
form_proper src basics a (var_of pos type) at b stands = tt
form_proper src basics a (function_of pos tparams sig) at b stands = (tparams_proper tparams stands.0 stands.1 stands.3, sig_last src sig stands.1 b stands.4)
form_proper src basics a (constant_of pos type value) at b stands = tt
form_proper src basics a (defined_of pos tparams underlying methods) at b stands =
    let own = methods_proper src underlying.tree (has_methods underlying.tree) methods stands.2 b refl stands.7 in
    (tparams_proper tparams stands.0 stands.1 stands.4, may_underlie_type underlying.tree stands.6, own.0, own.1)
form_proper src basics a (renamed_of pos tparams type) at b stands = (tparams_proper tparams stands.0 stands.1 stands.3, right_side tparams type.tree stands.5)
form_proper src basics a (type_parameter_of pos implicit constraint) at b stands = λ given. is_an_interface constraint.tree (stands.5 given)

pub decl_proper : (src : Sections) (basics : Basics) (offset : ℕ) (decl : Decl) → SpellsDecl src basics offset decl → IsProperDecl decl
decl_proper src basics offset decl spells =
    let below : (b : Block) → Contains spells.blocks b → b.end ≤ offset → IsProper b.tree = λ b has ends. block_proper src spells.blocks spells.sound b.end b has (omega arith) in
    subst IsProperDecl (sym spells.meant) (record {
      form = form_proper src basics _ spells.parts spells.value spells.after spells.stands;
      types = subst (All IsProper) (sym (form_meant_types (form_map same_pos same_text tree_of_known spells.parts) ∙ form_types_map same_pos same_text tree_of_known spells.parts)) (all_proper src spells.blocks spells.sound offset below (form_types spells.parts) spells.named);
    })

pub read_proper : (src : Sections) (basics : Basics) (offset : ℕ) (nodes : List Node) (r : Result DeclNode DeclFault) → IfOk r (λ node. SpellsDecl src basics offset (decl_of nodes node)) → IfOk r (λ node. IsProperDecl (decl_of nodes node))
read_proper src basics offset nodes (Ok node) spells = decl_proper src basics offset (decl_of nodes node) spells
read_proper src basics offset nodes (Err e) spells = tt
