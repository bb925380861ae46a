-- Which terms cover others: comparison with a type that holds no interface but the empty one.
use Rattle.std.specs.Prelude.{ℕ, zero, suc, List, [], ◌∷◌, ◌&&◌, ◌||◌, ◌==◌, nat_eq, Bool, true, false, cond}
use Rattle.std.specs.Prelude.{map, length, Result, Ok, Err}
use Rattle.go_values.specs.declared.qualified.QName.{QName}
use Rattle.go_values.specs.declared.positions.Pos.{Pos}
use Rattle.code_tables.specs.declared.predeclared.Basic.{Basic}
use Rattle.code_tables.specs.declared.predeclared.Basic.TheVariants.{Any, Byte, Rune, Uint8, Int32}
use Rattle.type_terms.specs.declared.literals.Dir.{Dir}
use Rattle.type_terms.specs.Shapes.{FieldOf, TermOf}
use Rattle.type_terms.specs.Trees.{Text, Tree, predeclared, named, parameter, alias, pointer, slice, array, chan}
use Rattle.type_terms.specs.Trees.{map_type, func, struct, interface, instance, union, Trees, no_types, types, Params}
use Rattle.type_terms.specs.Trees.{no_params, params, Fields, no_fields, fields, no_methods, Terms, no_terms}
use Rattle.type_terms.specs.Trees.{terms, type_list, param_list, field_list, term_list}
use Rattle.type_terms.specs.TreeEquality.{same_text, same_basic, same_name, same_flag, same_dir}
use Rattle.environments.specs.Exported.{exported}
use Rattle.interface_opening.specs.Elements.{Term}
use Rattle.replacement.specs.declared.faults.SetFault.{SetFault}
use Rattle.replacement.specs.declared.faults.SetFault.TheVariants.{AliasCycle}
use Rattle.replacement.specs.Expansion.{Entries, then, known}
use Rattle.type_sets.specs.RightSides.{by_right}

-- what a comparison answers
abbrev pub Answer : Type 0
Answer = Result Bool SetFault

-- whether a type is identical to a certain one
abbrev pub Test : Type 0
Test = Tree → Answer

-- The first that isn't so, or can't be told, ends a comparison.
abbrev pub and_then : Answer → Answer → Answer
and_then (Ok true) later = later
and_then first later = first

abbrev pub all_pass : List Test → List Tree → Answer
all_pass [] [] = Ok true
all_pass (test ∷ tests) (type ∷ rest) = and_then (test type) (all_pass tests rest)
all_pass _ _ = Ok false

-- as many types, and each passes its test
abbrev pub each_passes : List Test → List Tree → Answer
each_passes tests all = cond (length tests == length all) (all_pass tests all) (Ok false)

-- byte is uint8, and rune is int32
abbrev pub aliased : Basic → Basic
aliased Byte = Uint8
aliased Rune = Int32
aliased basic = basic

abbrev pub same_length : {X Y : Type 0} → List X → List Y → Bool
same_length xs ys = length xs == length ys

-- the name, the embedding and the tag, and for a name that isn't exported the home
abbrev pub same_field : Text → Text → FieldOf Pos Text Text Tree → FieldOf Pos Text Text Tree → Bool
same_field home other x y =
    same_text x.name y.name && (same_flag x.embedded y.embedded && (same_text x.tag y.tag
    && (exported x.name || same_text home other)))

abbrev pub same_fields : Text → Text → List (FieldOf Pos Text Text Tree) → List (FieldOf Pos Text Text Tree) → Bool
same_fields home other [] [] = true
same_fields home other (x ∷ xs) (y ∷ ys) = same_field home other x y && same_fields home other xs ys
same_fields home other _ _ = false

abbrev pub same_tildes : List (TermOf Tree) → List (TermOf Tree) → Bool
same_tildes [] [] = true
same_tildes (x ∷ xs) (y ∷ ys) = same_flag x.tilde y.tilde && same_tildes xs ys
same_tildes _ _ = false

-- What a type has to be at its head, and what its parts have to pass.
abbrev pub on_basic : Basic → Test
on_basic basic (predeclared other) = Ok (same_basic (aliased basic) (aliased other))
on_basic basic _ = Ok false

abbrev pub on_named : QName → Test
on_named q (named p) = Ok (same_name q p)
on_named q _ = Ok false

abbrev pub on_parameter : QName → Test
on_parameter q (parameter p) = Ok (same_name q p)
on_parameter q _ = Ok false

abbrev pub on_pointer : Test → Test
on_pointer test (pointer type) = test type
on_pointer test _ = Ok false

abbrev pub on_slice : Test → Test
on_slice test (slice type) = test type
on_slice test _ = Ok false

abbrev pub on_array : ℕ → Test → Test
on_array size test (array other type) = cond (nat_eq size other) (test type) (Ok false)
on_array size test _ = Ok false

abbrev pub on_chan : Dir → Test → Test
on_chan dir test (chan other type) = cond (same_dir dir other) (test type) (Ok false)
on_chan dir test _ = Ok false

abbrev pub on_map : Test → Test → Test
on_map key test (map_type other type) = and_then (key other) (test type)
on_map key test _ = Ok false

-- names of parameters don't count
abbrev pub on_func : List Test → List Test → Bool → Test
on_func ins outs variadic (func home own results flag) =
    cond (same_flag variadic flag && (same_length ins (param_list own) && same_length outs (param_list results)))
    (and_then (all_pass ins (map (λ x. x.type) (param_list own)))
    (all_pass outs (map (λ x. x.type) (param_list results)))) (Ok false)
on_func ins outs variadic _ = Ok false

abbrev pub on_struct : Text → Fields → List Test → Test
on_struct home inner tests (struct other own) = cond (same_fields home other (field_list inner) (field_list own))
    (all_pass tests (map (λ x. x.type) (field_list own))) (Ok false)
on_struct home inner tests _ = Ok false

abbrev pub on_instance : QName → List Test → Test
on_instance q tests (instance (named p) args) = cond (same_name q p) (each_passes tests (type_list args)) (Ok false)
on_instance q tests _ = Ok false

-- A union that stands inside of a type is compared as it is written.
abbrev pub on_union : Terms → List Test → Test
on_union inner tests (union own) = cond (same_tildes (term_list inner) (term_list own))
    (all_pass tests (map (λ x. x.type) (term_list own))) (Ok false)
on_union inner tests _ = Ok false

-- `settle` replaces the alias at a head; `free` tells whether an interface has no methods, no flag and all types.
module _ (settle : Tree → Result Tree SetFault) (free : Tree → Answer) where
  abbrev pub on_empty : Test
  on_empty (interface home embedded own) = free (interface home embedded own)
  on_empty (predeclared basic) = Ok (same_basic Any basic)
  on_empty _ = Ok false

  abbrev pub on_predeclared : Basic → Test
  on_predeclared basic type = cond (same_basic Any basic) (on_empty type) (on_basic basic type)

  abbrev pub settled : Test → Test
  settled test type = then (settle type) test

  -- an instance of an alias is what the alias is
  abbrev pub on_base : (QName → List Test → Test) → Tree → List Test → Test
  on_base expand (alias q) tests = expand q tests
  on_base expand (named q) tests = settled (on_instance q tests)
  on_base expand _ tests = λ type. Ok false

  -- Whether a type is identical to this one, which holds no interface but the empty one. An alias is what its right
  -- side is, in which a parameter is what its argument is.
  module _ (expand : QName → List Test → Test) (given : QName → Test) where
    abbrev mutual
      pub alike : Tree → Test
      alike (parameter q) = given q
      alike (alias q) = expand q []
      alike (instance base args) = on_base expand base (types_alike args)
      alike (interface home no_types no_methods) = settled on_empty
      alike (interface home embedded own) = λ type. Ok false
      alike (predeclared basic) = settled (on_predeclared basic)
      alike (named q) = settled (on_named q)
      alike (pointer type) = settled (on_pointer (alike type))
      alike (slice type) = settled (on_slice (alike type))
      alike (array size type) = settled (on_array size (alike type))
      alike (chan dir type) = settled (on_chan dir (alike type))
      alike (map_type key type) = settled (on_map (alike key) (alike type))
      alike (func home ins outs variadic) = settled (on_func (params_alike ins) (params_alike outs) variadic)
      alike (struct home inner) = settled (on_struct home inner (fields_alike inner))
      alike (union inner) = settled (on_union inner (terms_alike inner))

      pub types_alike : Trees → List Test
      types_alike no_types = []
      types_alike (types type rest) = alike type ∷ types_alike rest

      pub params_alike : Params → List Test
      params_alike no_params = []
      params_alike (params pos name type rest) = alike type ∷ params_alike rest

      pub fields_alike : Fields → List Test
      fields_alike no_fields = []
      fields_alike (fields origin pos name type embedded tag rest) = alike type ∷ fields_alike rest

      pub terms_alike : Terms → List Test
      terms_alike no_terms = []
      terms_alike (terms tilde type rest) = alike type ∷ terms_alike rest

  abbrev pub itself : QName → Test
  itself q = settled (on_parameter q)

  module _ (entries : Entries) where
    -- where at most n right sides stand in one another
    unfoldable pub alias_alike : ℕ → QName → List Test → Test
    alias_alike zero q tests = λ type. Err (AliasCycle q)
    alias_alike (suc n) q tests =
        by_right (λ fault type. Err fault) itself (λ right given. alike (alias_alike n) given right) q tests
        (known (entries q) q)

    abbrev pub identical_to : List QName → Tree → Test
    identical_to names type = alike (alias_alike (length names)) itself type

    -- A term covers another one whose type is identical, unless that alone has a tilde, and with a tilde one without a
    -- tilde whose underlying type is identical.
    abbrev pub covered_by : List QName → (Tree → Result Tree SetFault) → Bool → Bool → Tree → Tree → Answer
    covered_by names under true false x y = Ok false
    covered_by names under false true x y =
        then (identical_to names y x) (λ same. cond same (Ok true) (then (under x) (identical_to names y)))
    covered_by names under _ _ x y = identical_to names y x

    abbrev pub covered : List QName → (Tree → Result Tree SetFault) → Term Tree → Term Tree → Answer
    covered names under x y = covered_by names under x.tilde y.tilde x.type y.type
