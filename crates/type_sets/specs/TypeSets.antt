-- The type set of a type, over an environment's entries, and the pairs of equally named methods.
use Rattle.std.specs.Prelude.{◌≡◌, ℕ, List, [], ◌∷◌, ◌++◌, ◌&&◌, Bool, true, false, cond, map}
use Rattle.std.specs.Prelude.{Option, Some, None, Result, Ok, option_map}
use Rattle.std.specs.List.{AllByRecursion}
use Rattle.std.specs.Cmp.Lexicographic.{slice_cmp}
use Rattle.std.specs.Ordering.{nat_cmp, ordering_then}
use Rattle.std.specs.declared.cmp.Ordering.{Ordering}
use Rattle.std.specs.declared.cmp.Ordering.TheVariants.{Less, Equal, Greater}
use Rattle.go_values.specs.declared.qualified.QName.{QName}
use Rattle.go_values.specs.declared.positions.Pos.{Pos}
use Rattle.type_terms.specs.Shapes.{SigOf}
use Rattle.type_terms.specs.Trees.{Text, Tree, union}
use Rattle.type_terms.specs.TreeEquality.{same_tree, same_name, same_flag}
use Rattle.interface_opening.specs.Elements.{Term, Opened, Looks}
use Rattle.interface_opening.specs.Opening.{Item, term, several_terms, opening, none_opened}
use Rattle.interface_opening.specs.Terms.{Choice, terms_of}
use Rattle.replacement.specs.declared.faults.SetFault.{SetFault}
use Rattle.replacement.specs.declared.faults.SetFault.TheVariants.{EmbedCycle, UnionMethods, TooMany}
use Rattle.replacement.specs.Expansion.{Entries, then, defined_use, beneath, expanded, underlying}
use Rattle.type_sets.specs.TermTests.{no_cycle, holds_none, both}
use Rattle.type_sets.specs.Interfaces.{SetMethod, same_key, union_terms, interface_of}
use Rattle.type_sets.specs.Covering.{Answer, covered}

-- at most so many distinct interfaces are opened
unfoldable pub set_limit : ℕ
set_limit = 65536

-- Where methods of one name were met the first counts. No terms are all types.
pub record TypeSet : Type 0 where
  pub methods : List SetMethod
  pub flag : Bool
  pub terms : Choice Tree

abbrev pub same_term : Term Tree → Term Tree → Bool
same_term x y = same_flag x.tilde y.tilde && same_tree x.type y.type

-- the order of methods: bytewise by name and then by home
abbrev pub method_order : SetMethod → SetMethod → Ordering
method_order x y = ordering_then (slice_cmp nat_cmp x.name y.name) (slice_cmp nat_cmp x.home y.home)

-- a method comes in before greater ones, unless there is one of its key
abbrev pub put_before : Ordering → SetMethod → SetMethod → List SetMethod → List SetMethod → List SetMethod
put_before Less method other rest later = method ∷ other ∷ rest
put_before Equal method other rest later = other ∷ rest
put_before Greater method other rest later = other ∷ later

abbrev pub with_method : SetMethod → List SetMethod → List SetMethod
with_method method [] = method ∷ []
with_method method (other ∷ rest) =
    put_before (method_order method other) method other rest (with_method method rest)

abbrev pub with_methods : List SetMethod → List SetMethod → List SetMethod
with_methods [] found = found
with_methods (method ∷ rest) found = with_methods rest (with_method method found)

-- each stands before all that follow it
abbrev pub Ascend : List SetMethod → Type 0
Ascend [] = Unit {0}
Ascend (method ∷ rest) = AllByRecursion (λ other. method_order method other ≡ Less) rest × Ascend rest

-- the first method of the key
abbrev pub first_of_key : SetMethod → List SetMethod → Option SetMethod
first_of_key method [] = None
first_of_key method (other ∷ rest) = cond (same_key method other) (Some other) (first_of_key method rest)

abbrev pub Pair : Type 0
Pair = SigOf Pos Text Tree × SigOf Pos Text Tree

abbrev pub paired : SetMethod → Option SetMethod → List Pair
paired method None = []
paired method (Some first) = (method.sig, first.sig) ∷ []

-- each signature that isn't the first of its key, with that first one
abbrev pub pairs_among : List SetMethod → List SetMethod → List Pair
pairs_among before [] = []
pairs_among before (method ∷ rest) =
    paired method (first_of_key method before) ++ pairs_among (before ++ method ∷ []) rest

module _ (entries : Entries) (names : List QName) where
  abbrev pub name_of : Tree → Option QName
  name_of type = option_map (λ head. head.name) (defined_use type)

  -- what is asked of types as interfaces are opened
  abbrev pub looks : Looks Tree QName SetMethod SetFault
  looks = record {
    same = same_tree;
    same_name = same_name;
    settle = expanded entries names;
    name_of = name_of;
    beneath = λ type. then (beneath entries type (defined_use type)) (λ under. Ok (interface_of (name_of type) under));
    no_cycle = no_cycle entries names;
    whole = λ type. both (no_cycle entries names type) (holds_none entries names type);
    embed_cycle = EmbedCycle;
    union_methods = UnionMethods;
    too_many = TooMany;
  }

  -- what a type is as a term of itself: the terms of a union, or one without a tilde
  abbrev pub top_items : Tree → List (Item Tree QName)
  top_items (union inner) = map (term (union inner) (several_terms looks (union_terms inner))) (union_terms inner)
  top_items type = term type false (record { tilde = false; type = type }) ∷ []

  -- what is opened for a type that has no alias at its head
  abbrev pub opened : Tree → Result (Opened Tree SetMethod) SetFault
  opened type = opening looks set_limit (top_items type) none_opened

  abbrev pub has_nothing : List SetMethod → Bool → Choice Tree → Bool
  has_nothing [] false None = true
  has_nothing _ _ _ = false

  -- An interface has no methods, no flag and all types. No terms are compared for that.
  abbrev pub free : Tree → Answer
  free type = then (opened type) (λ s.
      then (terms_of same_tree same_term (λ x y. Ok false) s.events type)
      (λ terms. Ok (has_nothing s.methods s.flag terms)))

  abbrev pub covers : Term Tree → Term Tree → Answer
  covers x y = covered (expanded entries names) free entries names (underlying entries names) x y

  abbrev pub set_from : Tree → Opened Tree SetMethod → Result TypeSet SetFault
  set_from type s = then (terms_of same_tree same_term covers s.events type) (λ terms.
      Ok (record { methods = with_methods s.methods []; flag = s.flag; terms = terms }))

  -- the type set of a type, or the first breach
  abbrev pub type_set : Tree → Result TypeSet SetFault
  type_set type = then (expanded entries names type) (λ found. then (opened found) (set_from found))

  -- the pairs of methods of one key, or the first breach of the opening
  abbrev pub method_pairs : Tree → Result (List Pair) SetFault
  method_pairs type =
      then (expanded entries names type) (λ found. then (opened found) (λ s. Ok (pairs_among [] s.methods)))
