-- What two nodes demand is of nodes that stand in them.
use Rattle.std.proofs.Common.{◌≡◌, ◌<◌, ℕ, List, [], ◌∷◌, ◌++◌, Bool, true, false, Option, sym, subst}
use Rattle.std.specs.List.{flat_map}
use Rattle.go_values.specs.declared.qualified.QName.{QName}
use Rattle.go_values.specs.declared.positions.Pos.{Pos}
use Rattle.code_tables.specs.declared.predeclared.Basic.TheVariants.{Any}
use Rattle.type_terms.specs.Arenas.{AllBelow}
use Rattle.type_terms.specs.Replaced.{all_left, all_right, all_append}
use Rattle.type_terms.specs.Shapes.{ParamOf, SigOf, FieldOf, Shape, predeclared_of, named_of, parameter_of, pointer_of, slice_of, array_of, chan_of, map_of, func_of, struct_of, interface_of, instance_of, union_of, param_types, field_types, shape_types}
use Rattle.type_terms.specs.Trees.{Text}
use Rattle.type_terms.specs.TreeEquality.{same_basic, same_name, same_dir}
use Rattle.std.specs.Prelude.{nat_eq, ◌&&◌}
use Rattle.type_sets.specs.Covering.{aliased, same_length}
use Rattle.type_alike.specs.Demands.{Demand as DemandOf, differ, parts, sets, parts_where, sets_where, qualified, same_generic, param_parts, field_parts, same_fields, same_form, in_step, sig_pairs, demand}
use Rattle.type_demands.specs.declared.demands.Pair.{Pair}
use Rattle.type_demands.specs.declared.demands.Demand.{Demand}
use Rattle.type_demands.specs.declared.demands.Demand.TheVariants.{Differ, Parts, Sets}
use Rattle.type_demands.specs.NodeDemands.{node_pair, meant, IsInside, AreInside, demand_pairs}

module _ (n : ℕ) (generic : ℕ → Option QName) where
  abbrev Within : DemandOf Pair → Type 0
  Within (parts pairs) = AreInside n pairs
  Within differ = Unit {0}
  Within sets = Unit {0}

  step_inside : (xs ys : List ℕ) → AllBelow n xs → AllBelow n ys → AreInside n (in_step generic node_pair xs ys)
  step_inside [] ys left right = tt
  step_inside (x ∷ xs) [] left right = tt
  step_inside (x ∷ xs) (y ∷ ys) left right = ((left.0, right.0), step_inside xs ys left.1 right.1)

  params_below : (xs : List (ParamOf Pos Text ℕ)) → AllBelow n (flat_map param_types xs) → AllBelow n (param_parts xs)
  params_below [] below = tt
  params_below (x ∷ xs) below = (below.0, params_below xs below.1)

  fields_below : (xs : List (FieldOf Pos Text Text ℕ)) → AllBelow n (flat_map field_types xs) → AllBelow n (field_parts xs)
  fields_below [] below = tt
  fields_below (x ∷ xs) below = (below.0, fields_below xs below.1)

  abbrev Below : ℕ → Type 0
  Below number = number < n

  sig_inside : (x y : SigOf Pos Text ℕ) → AllBelow n (flat_map param_types x.params ++ flat_map param_types x.results)
      → AllBelow n (flat_map param_types y.params ++ flat_map param_types y.results) → AreInside n (sig_pairs generic node_pair x y)
  sig_inside x y left right =
      all_append (IsInside n) (in_step generic node_pair (param_parts x.params) (param_parts y.params)) (in_step generic node_pair (param_parts x.results) (param_parts y.results))
      (step_inside (param_parts x.params) (param_parts y.params)
      (params_below x.params (all_left Below (flat_map param_types x.params) (flat_map param_types x.results) left))
      (params_below y.params (all_left Below (flat_map param_types y.params) (flat_map param_types y.results) right)))
      (step_inside (param_parts x.results) (param_parts y.results)
      (params_below x.results (all_right Below (flat_map param_types x.params) (flat_map param_types x.results) left))
      (params_below y.results (all_right Below (flat_map param_types y.params) (flat_map param_types y.results) right)))

  where_inside : (b : Bool) (ps : List Pair) → AreInside n ps → Within (parts_where b ps)
  where_inside true ps inside = inside
  where_inside false ps inside = tt

  sets_inside : (b : Bool) → Within (sets_where b)
  sets_inside true = tt
  sets_inside false = tt

  demand_inside : (x y : Shape Pos Text Text ℕ) → AllBelow n (shape_types x) → AllBelow n (shape_types y) → Within (demand generic node_pair x y)
  demand_inside (predeclared_of x) (predeclared_of y) left right = where_inside (same_basic (aliased x) (aliased y)) [] tt
  demand_inside (predeclared_of x) (interface_of home embedded own) left right = sets_inside (same_basic Any x)
  demand_inside (interface_of home embedded own) (predeclared_of y) left right = sets_inside (same_basic Any y)
  demand_inside (named_of m p) (named_of k q) left right = where_inside (same_name (qualified m p) (qualified k q)) [] tt
  demand_inside (parameter_of m p) (parameter_of k q) left right = where_inside (same_name (qualified m p) (qualified k q)) [] tt
  demand_inside (pointer_of x) (pointer_of y) left right = ((left.0, right.0), tt)
  demand_inside (slice_of x) (slice_of y) left right = ((left.0, right.0), tt)
  demand_inside (array_of m x) (array_of k y) left right = where_inside (nat_eq m k) (node_pair x y ∷ []) ((left.0, right.0), tt)
  demand_inside (chan_of d x) (chan_of e y) left right = where_inside (same_dir d e) (node_pair x y ∷ []) ((left.0, right.0), tt)
  demand_inside (map_of k x) (map_of l y) left right = ((left.0, right.0), ((left.1.0, right.1.0), tt))
  demand_inside (func_of home x) (func_of other y) left right = where_inside (same_form x y) (sig_pairs generic node_pair x y) (sig_inside x y left right)
  demand_inside (struct_of home xs) (struct_of other ys) left right =
      where_inside (same_fields home other xs ys) (in_step generic node_pair (field_parts xs) (field_parts ys))
      (step_inside (field_parts xs) (field_parts ys) (fields_below xs left) (fields_below ys right))
  demand_inside (instance_of base xs) (instance_of other ys) left right =
      where_inside (same_generic (generic base) (generic other) && same_length xs ys) (in_step generic node_pair xs ys)
      (step_inside xs ys (all_left Below xs (base ∷ []) left) (all_left Below ys (other ∷ []) right))
  demand_inside (interface_of home embedded own) (interface_of home' embedded' own') left right = tt
  demand_inside (union_of xs) (union_of ys) left right = tt
  demand_inside _ _ left right = tt

  pairs_within : (found : Demand) → Within (meant found) → AreInside n (demand_pairs found)
  pairs_within Differ within = tt
  pairs_within (Parts pairs) within = within
  pairs_within Sets within = tt

  pub found_inside : (x y : Shape Pos Text Text ℕ) → AllBelow n (shape_types x) → AllBelow n (shape_types y) → (found : Demand)
      → meant found ≡ demand generic node_pair x y → AreInside n (demand_pairs found)
  found_inside x y left right found is = pairs_within found (subst Within (sym is) (demand_inside x y left right))
