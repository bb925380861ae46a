-- What a type that covers wants of another one at one level, where neither has an alias at its head.
use Rattle.std.specs.Prelude.{List, [], ◌∷◌, cond, map, true, false, Ok}
use Rattle.code_tables.specs.declared.predeclared.Basic.TheVariants.{Any}
use Rattle.type_terms.specs.Trees.{Tree, predeclared, named, parameter, alias}
use Rattle.type_terms.specs.Trees.{interface, instance, union, no_types, no_methods, Terms, term_list}
use Rattle.type_terms.specs.TreeEquality.{same_basic}
use Rattle.type_terms.specs.Names.{defined_name}
use Rattle.type_sets.specs.Covering.{Answer, Test, and_then, same_tildes}
use Rattle.type_alike.specs.Sides.{Pair, pair}
use Rattle.type_alike.specs.Demands.{Demand, differ, parts, sets, in_step}
use Rattle.type_alike.specs.Comparing.{tree_demand}

-- The types aren't identical; or they are where these pairs of parts are, in order; or they are where the second one,
-- an interface, has no methods, no flag and all types.
pub data Step : Type 0 where
  no : Step
  where_parts : List Pair → Step
  where_free : Step

abbrev pub by_demand : Demand Pair → Step
by_demand differ = no
by_demand (parts pairs) = where_parts pairs
by_demand sets = no

-- against the empty interface
abbrev pub empty_step : Tree → Step
empty_step (interface home embedded own) = where_free
empty_step (predeclared basic) = cond (same_basic Any basic) (where_parts []) no
empty_step _ = no

-- against a union, which is compared as it is written
abbrev pub union_step : Terms → Tree → Step
union_step inner (union own) = cond (same_tildes (term_list inner) (term_list own))
    (where_parts (in_step defined_name pair (map (λ x. x.type) (term_list inner))
    (map (λ x. x.type) (term_list own)))) no
union_step inner _ = no

-- An interface that isn't empty covers nothing. All other types want what identical types demand of each other.
abbrev pub step : Tree → Tree → Step
step (interface home no_types no_methods) x = empty_step x
step (interface home embedded own) x = no
step (predeclared basic) x =
    cond (same_basic Any basic) (empty_step x) (by_demand (tree_demand (pair (predeclared basic) x)))
step (union inner) x = union_step inner x
step type x = by_demand (tree_demand (pair type x))

-- a type that is compared once what it is compared with has no alias at its head
abbrev pub IsSettling : Tree → Type 0
IsSettling (parameter q) = ⊥
IsSettling (alias q) = ⊥
IsSettling (instance (named q) args) = Unit {0}
IsSettling (instance base args) = ⊥
IsSettling (interface home no_types no_methods) = Unit {0}
IsSettling (interface home embedded own) = ⊥
IsSettling _ = Unit {0}

module _ (test : Tree → Test) (free : Test) where
  -- each pair passes, up to the first that doesn't
  abbrev pub each_passes : List Pair → Answer
  each_passes [] = Ok true
  each_passes (x ∷ xs) = and_then (test x.left x.right) (each_passes xs)

  abbrev pub answered : Tree → Step → Answer
  answered x no = Ok false
  answered x (where_parts pairs) = each_passes pairs
  answered x where_free = free x
