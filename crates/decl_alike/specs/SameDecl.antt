-- The declarations that two environments have for one name, compared.
use Rattle.std.specs.Prelude.{List, [], ◌∷◌, ◌++◌, ◌&&◌, Bool, true, false, cond, Result, Ok, Err}
use Rattle.std.specs.Cmp.Lexicographic.{slice_cmp}
use Rattle.std.specs.Ordering.{nat_cmp}
use Rattle.std.specs.declared.cmp.Ordering.{Ordering}
use Rattle.std.specs.declared.cmp.Ordering.TheVariants.{Greater}
use Rattle.go_values.specs.declared.qualified.QName.{QName}
use Rattle.go_values.specs.declared.positions.Pos.{Pos}
use Rattle.go_values.specs.contracts.constants.ConstPartialEq.TheImpl as const_eq
use Rattle.pair_walk.specs.Walk.{End, apart, broken}
use Rattle.replacement.specs.declared.faults.SetFault.{SetFault}
use Rattle.replacement.specs.Expansion.{known, parameter_names}
use Rattle.replacement.specs.Substitution.{substituted}
use Rattle.type_terms.specs.Declarations.{ReceiverOf, Decl, var_of, function_of, constant_of, defined_of, renamed_of}
use Rattle.type_terms.specs.Declarations.{type_parameter_of}
use Rattle.type_terms.specs.Trees.{Text, Tree}
use Rattle.type_terms.specs.TreeEquality.{same_text}
use Rattle.type_sets.specs.Covering.{same_length}
use Rattle.type_alike.specs.Sides.{Sides, Pair, pair}
use Rattle.type_alike.specs.Sets.{signature}
use Rattle.type_alike.specs.Comparing.{compared}

abbrev pub Methods : Type 0
Methods = List (ReceiverOf Pos Text Tree)

-- Methods in the bytewise order of their names. Those of one name stay in the order in which they stand.
abbrev pub before_later : Ordering → Methods → Methods → Methods
before_later Greater first later = later
before_later _ first later = first

abbrev pub with_method : ReceiverOf Pos Text Tree → Methods → Methods
with_method method [] = method ∷ []
with_method method (other ∷ rest) = before_later (slice_cmp nat_cmp method.name other.name) (method ∷ other ∷ rest)
    (other ∷ with_method method rest)

abbrev pub by_name : Methods → Methods
by_name [] = []
by_name (method ∷ rest) = with_method method (by_name rest)

abbrev pub same_names : Methods → Methods → Bool
same_names [] [] = true
same_names (x ∷ xs) (y ∷ ys) = same_text x.name y.name && same_names xs ys
same_names _ _ = false

-- What is compared before any types: the kind, a constant's value, the number of type parameters and the names of
-- methods. Positions aren't compared.
abbrev pub same_head : Decl → Decl → Bool
same_head (var_of pos type) (var_of pos' type') = true
same_head (function_of pos tparams sig) (function_of pos' tparams' sig') = same_length tparams tparams'
same_head (constant_of pos type value) (constant_of pos' type' value') = const_eq.ghosts.eq value value'
same_head (defined_of pos tparams under own) (defined_of pos' tparams' under' own') =
    same_length tparams tparams' && same_names (by_name own) (by_name own')
same_head (renamed_of pos tparams type) (renamed_of pos' tparams' type') = same_length tparams tparams'
same_head (type_parameter_of pos implicit type) (type_parameter_of pos' implicit' type') = true
same_head _ _ = false

-- A type of the right declaration, with its type parameters replaced by those of the left at the same place. Those of a
-- method's receiver have other names, and stand as they are.
abbrev pub moved : List Tree → List Tree → Tree → Tree
moved tparams tparams' type = substituted (parameter_names tparams') tparams type

module _ (move : Tree → Tree) where
  abbrev pub type_pairs : List Tree → List Tree → List Pair
  type_pairs [] _ = []
  type_pairs (x ∷ xs) [] = []
  type_pairs (x ∷ xs) (y ∷ ys) = pair x (move y) ∷ type_pairs xs ys

  -- a receiver before its signature
  abbrev pub method_pairs : Methods → Methods → List Pair
  method_pairs [] _ = []
  method_pairs (x ∷ xs) [] = []
  method_pairs (x ∷ xs) (y ∷ ys) = pair x.recv.type (move y.recv.type) ∷ pair (signature x.sig) (move (signature y.sig))
      ∷ method_pairs xs ys

-- the pairs of types that are compared, in reading order, with the methods in the order of their names
abbrev pub decl_pairs : Decl → Decl → List Pair
decl_pairs (var_of pos type) (var_of pos' type') = pair type type' ∷ []
decl_pairs (function_of pos tparams sig) (function_of pos' tparams' sig') =
    type_pairs (moved tparams tparams') tparams tparams'
    ++ pair (signature sig) (moved tparams tparams' (signature sig')) ∷ []
decl_pairs (constant_of pos type value) (constant_of pos' type' value') = pair type type' ∷ []
decl_pairs (defined_of pos tparams under own) (defined_of pos' tparams' under' own') =
    type_pairs (moved tparams tparams') tparams tparams'
    ++ pair under (moved tparams tparams' under') ∷ method_pairs (moved tparams tparams') (by_name own) (by_name own')
decl_pairs (renamed_of pos tparams type) (renamed_of pos' tparams' type') =
    type_pairs (moved tparams tparams') tparams tparams' ++ pair type (moved tparams tparams' type') ∷ []
decl_pairs (type_parameter_of pos implicit type) (type_parameter_of pos' implicit' type') = pair type type' ∷ []
decl_pairs _ _ = []

-- how comparing two declarations ends: where their heads differ, apart at depth 0
abbrev pub decls_compared : Sides → Decl → Decl → End SetFault
decls_compared sides x y = cond (same_head x y) (compared sides (decl_pairs x y)).end (apart 0)

-- what comes of a declaration, or its fault
abbrev pub and_then : Result Decl SetFault → (Decl → End SetFault) → End SetFault
and_then (Ok decl) next = next decl
and_then (Err fault) next = broken fault

-- The declarations of a name on both sides, the left one asked for first.
abbrev pub name_compared : Sides → QName → End SetFault
name_compared sides q = and_then (known (sides.left.entries q) q) (λ x.
    and_then (known (sides.right.entries q) q) (decls_compared sides x))
