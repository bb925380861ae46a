-- What two types demand of each other at one level, whatever stands for the types in them: R. P is what a pair of these
-- is, and `generic` tells the defined type that a type is, as which instances of it have it.
use Rattle.std.specs.Prelude.{List, [], ◌∷◌, ◌++◌, ◌&&◌, ◌||◌, nat_eq, Bool, true, false, map}
use Rattle.std.specs.Prelude.{Option, Some}
use Rattle.go_values.specs.declared.qualified.QName.{QName}
use Rattle.go_values.specs.declared.positions.Pos.{Pos}
use Rattle.code_tables.specs.declared.predeclared.Basic.TheVariants.{Any}
use Rattle.type_terms.specs.Shapes.{ParamOf, SigOf, FieldOf, Shape, predeclared_of, named_of, parameter_of, pointer_of}
use Rattle.type_terms.specs.Shapes.{slice_of, array_of, chan_of, map_of, func_of, struct_of, interface_of, instance_of}
use Rattle.type_terms.specs.Shapes.{union_of}
use Rattle.type_terms.specs.Trees.{Text}
use Rattle.type_terms.specs.TreeEquality.{same_text, same_basic, same_name, same_flag, same_dir}
use Rattle.environments.specs.Exported.{exported}
use Rattle.type_sets.specs.Covering.{aliased, same_length}

-- The types differ here; or they are alike where these pairs of parts are; or their type sets have to be looked at.
pub data Demand (P : Type 0) : Type 0 where
  differ : Demand P
  parts : List P → Demand P
  sets : Demand P

abbrev pub parts_where : {P : Type 0} → Bool → List P → Demand P
parts_where true pairs = parts pairs
parts_where false pairs = differ

abbrev pub sets_where : {P : Type 0} → Bool → Demand P
sets_where true = sets
sets_where false = differ

abbrev pub qualified : Text → Text → QName
qualified name path = record { path = path; name = name }

-- instances are of one defined type
abbrev pub same_generic : Option QName → Option QName → Bool
same_generic (Some p) (Some q) = same_name p q
same_generic _ _ = false

module _ {R : Type 0} where
  abbrev pub param_parts : List (ParamOf Pos Text R) → List R
  param_parts xs = map (λ x. x.type) xs

  abbrev pub field_parts : List (FieldOf Pos Text Text R) → List R
  field_parts xs = map (λ x. x.type) xs

  -- the name, the embedding and the tag, and for a name that isn't exported the home
  abbrev pub same_field : Text → Text → FieldOf Pos Text Text R → FieldOf Pos Text Text R → Bool
  same_field home other x y = same_text x.name y.name && (same_flag x.embedded y.embedded && (same_text x.tag y.tag
      && (exported x.name || same_text home other)))

  abbrev pub same_fields : Text → Text → List (FieldOf Pos Text Text R) → List (FieldOf Pos Text Text R) → Bool
  same_fields home other [] [] = true
  same_fields home other (x ∷ xs) (y ∷ ys) = same_field home other x y && same_fields home other xs ys
  same_fields home other _ _ = false

  -- as many parameters and results, both variadic or neither; names don't count
  abbrev pub same_form : SigOf Pos Text R → SigOf Pos Text R → Bool
  same_form x y = same_flag x.variadic y.variadic && (same_length x.params y.params && same_length x.results y.results)

module _ {R P : Type 0} (generic : R → Option QName) (pair : R → R → P) where
  -- the pairs in the order of the lists, as far as both go
  abbrev pub in_step : List R → List R → List P
  in_step [] _ = []
  in_step (x ∷ xs) [] = []
  in_step (x ∷ xs) (y ∷ ys) = pair x y ∷ in_step xs ys

  abbrev pub sig_pairs : SigOf Pos Text R → SigOf Pos Text R → List P
  sig_pairs x y =
      in_step (param_parts x.params) (param_parts y.params) ++ in_step (param_parts x.results) (param_parts y.results)

  -- byte is uint8, and rune is int32
  abbrev pub demand : Shape Pos Text Text R → Shape Pos Text Text R → Demand P
  demand (predeclared_of x) (predeclared_of y) = parts_where (same_basic (aliased x) (aliased y)) []
  demand (predeclared_of x) (interface_of home embedded own) = sets_where (same_basic Any x)
  demand (interface_of home embedded own) (predeclared_of y) = sets_where (same_basic Any y)
  demand (interface_of home embedded own) (interface_of other embedded' own') = sets
  demand (named_of n p) (named_of m q) = parts_where (same_name (qualified n p) (qualified m q)) []
  demand (parameter_of n p) (parameter_of m q) = parts_where (same_name (qualified n p) (qualified m q)) []
  demand (pointer_of x) (pointer_of y) = parts (pair x y ∷ [])
  demand (slice_of x) (slice_of y) = parts (pair x y ∷ [])
  demand (array_of n x) (array_of m y) = parts_where (nat_eq n m) (pair x y ∷ [])
  demand (chan_of d x) (chan_of e y) = parts_where (same_dir d e) (pair x y ∷ [])
  demand (map_of k x) (map_of l y) = parts (pair k l ∷ pair x y ∷ [])
  demand (func_of home x) (func_of other y) = parts_where (same_form x y) (sig_pairs x y)
  demand (struct_of home xs) (struct_of other ys) =
      parts_where (same_fields home other xs ys) (in_step (field_parts xs) (field_parts ys))
  demand (instance_of base xs) (instance_of other ys) =
      parts_where (same_generic (generic base) (generic other) && same_length xs ys) (in_step xs ys)
  demand (union_of xs) (union_of ys) = sets
  demand _ _ = differ
