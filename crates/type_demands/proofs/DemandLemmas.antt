-- Demands between nodes are those between their types.
use Rattle.std.proofs.Common.{◌≡◌, ℕ, suc, List, [], ◌∷◌, ◌++◌, map, length, ◌&&◌, ◌==◌, nat_eq, Bool, true, false, Option, Result, Ok, Err, refl, ap, sym, ◌∙◌}
use Rattle.std.specs.Prelude.{IfOk}
use Rattle.std.proofs.lemmas.List.{map-append}
use Rattle.go_values.specs.declared.qualified.QName.{QName}
use Rattle.go_values.specs.declared.positions.Pos.{Pos}
use Rattle.code_tables.specs.declared.predeclared.Basic.TheVariants.{Any}
use Rattle.type_terms.specs.declared.descriptors.Node.{Node}
use Rattle.type_terms.specs.declared.literals.Sig.{Sig}
use Rattle.type_terms.specs.declared.literals.ParamNode.{ParamNode}
use Rattle.type_terms.specs.declared.literals.Field.{Field}
use Rattle.type_terms.specs.Denotation.{tree}
use Rattle.type_terms.specs.Names.{defined_name}
use Rattle.type_terms.specs.NodeShapes.{node_shape, sig_shape, field_shape, param_shape}
use Rattle.type_terms.specs.Shapes.{ParamOf, SigOf, FieldOf, Shape, predeclared_of, named_of, parameter_of, pointer_of, slice_of, array_of, chan_of, map_of, func_of, struct_of, interface_of, instance_of, union_of, retype, param_map, sig_map, field_map}
use Rattle.type_terms.specs.Trees.{Text, Tree, tree_of, level_of}
use Rattle.type_terms.specs.TreeLevels.{level_of-tree_of}
use Rattle.type_terms.specs.TreeEquality.{same_basic, same_name, same_dir, same_flag}
use Rattle.type_sets.specs.Covering.{aliased, same_length}
use Rattle.type_alike.specs.Sides.{Pair as TreePair, pair}
use Rattle.type_alike.specs.Demands.{parts, parts_where, sets_where, qualified, same_generic, param_parts, field_parts, same_field, same_fields, same_form, in_step, sig_pairs, demand}
use Rattle.type_alike.specs.Comparing.{tree_demand}
use Rattle.type_demands.specs.declared.demands.Pair.{Pair}
use Rattle.type_demands.specs.NodeDemands.{node_pair, pair_tree, demand_map, generic_at, node_demand}
use Rattle.type_demands.proofs.ListLemmas.{param_types, field_types}

-- A signature, and a struct.

pub sig_done : (generic : ℕ → Option QName) (x y : Sig) (begun one two : List Pair) (ins ins' outs outs' : List ParamNode)
    → same_form (sig_shape x) (sig_shape y) ≡ true → begun ≡ []
    → ins ≡ x.params → ins' ≡ y.params → outs ≡ x.results → outs' ≡ y.results
    → one ≡ begun ++ in_step generic node_pair (map (λ p. p.ty) ins) (map (λ p. p.ty) ins')
    → two ≡ one ++ in_step generic node_pair (map (λ p. p.ty) outs) (map (λ p. p.ty) outs')
    → parts two ≡ parts_where (same_form (sig_shape x) (sig_shape y)) (sig_pairs generic node_pair (sig_shape x) (sig_shape y))
sig_done generic x y begun one two ins ins' outs outs' same new a b c d first second =
    let front : one ≡ in_step generic node_pair (param_parts (map param_shape x.params)) (param_parts (map param_shape y.params))
    = first ∙ (λ i. new i ++ in_step generic node_pair (map (λ p. p.ty) (a i)) (map (λ p. p.ty) (b i)))
    ∙ (λ i. in_step generic node_pair (param_types x.params i) (param_types y.params i)) in
    let all : two ≡ sig_pairs generic node_pair (sig_shape x) (sig_shape y)
    = second ∙ (λ i. front i ++ in_step generic node_pair (map (λ p. p.ty) (c i)) (map (λ p. p.ty) (d i)))
    ∙ (λ i. in_step generic node_pair (param_parts (map param_shape x.params)) (param_parts (map param_shape y.params))
    ++ in_step generic node_pair (param_types x.results i) (param_types y.results i)) in
    λ i. parts_where (sym same i) (all i)

pub struct_done : (generic : ℕ → Option QName) (home other : Text) (xs ys : List Field) (begun all : List Pair)
    → same_fields home other (map field_shape xs) (map field_shape ys) ≡ true → begun ≡ []
    → all ≡ begun ++ in_step generic node_pair (map (λ x. x.ty) xs) (map (λ x. x.ty) ys)
    → parts all ≡ parts_where (same_fields home other (map field_shape xs) (map field_shape ys))
    (in_step generic node_pair (field_parts (map field_shape xs)) (field_parts (map field_shape ys)))
struct_done generic home other xs ys begun all same new pushed =
    let is : all ≡ in_step generic node_pair (field_parts (map field_shape xs)) (field_parts (map field_shape ys))
    = pushed ∙ (λ i. new i ++ in_step generic node_pair (field_types xs i) (field_types ys i)) in
    λ i. parts_where (sym same i) (is i)

ids_themselves : (ids : List ℕ) → map (λ (id : ℕ). id) ids ≡ ids
ids_themselves [] = refl
ids_themselves (id ∷ ids) = ap (λ rest. id ∷ rest) (ids_themselves ids)

pub instance_done : (nodes : List Node) (base other : ℕ) (xs ys : List ℕ) (begun all : List Pair)
    → same_generic (generic_at nodes base) (generic_at nodes other) ≡ true → length xs ≡ length ys → same_length xs ys ≡ true → begun ≡ []
    → all ≡ begun ++ in_step (generic_at nodes) node_pair (map (λ id. id) xs) (map (λ id. id) ys)
    → parts all ≡ parts_where (same_generic (generic_at nodes base) (generic_at nodes other) && same_length xs ys) (in_step (generic_at nodes) node_pair xs ys)
instance_done nodes base other xs ys begun all same count counted new pushed =
    let is : all ≡ in_step (generic_at nodes) node_pair xs ys
    = pushed ∙ (λ i. new i ++ in_step (generic_at nodes) node_pair (ids_themselves xs i) (ids_themselves ys i)) in
    λ i. parts_where (sym same i && sym counted i) (is i)

-- The same demands over the types of the nodes.
module _ (nodes : List Node) where
  abbrev f : ℕ → Tree
  f = tree nodes

  abbrev g : Pair → TreePair
  g = pair_tree nodes

  in_step_mapped : (xs ys : List ℕ) → map g (in_step (generic_at nodes) node_pair xs ys) ≡ in_step defined_name pair (map f xs) (map f ys)
  in_step_mapped [] ys = refl
  in_step_mapped (x ∷ xs) [] = refl
  in_step_mapped (x ∷ xs) (y ∷ ys) = ap (λ rest. pair (f x) (f y) ∷ rest) (in_step_mapped xs ys)

  abbrev f_param : ParamOf Pos Text ℕ → ParamOf Pos Text Tree
  f_param = param_map (λ (x : Pos). x) (λ (x : Text). x) (λ (x : Text). x) f

  abbrev f_sig : SigOf Pos Text ℕ → SigOf Pos Text Tree
  f_sig = sig_map (λ (x : Pos). x) (λ (x : Text). x) (λ (x : Text). x) f

  abbrev f_field : FieldOf Pos Text Text ℕ → FieldOf Pos Text Text Tree
  f_field = field_map (λ (x : Pos). x) (λ (x : Text). x) (λ (x : Text). x) f

  params_mapped : (xs : List (ParamOf Pos Text ℕ)) → map f (param_parts xs) ≡ param_parts (map f_param xs)
  params_mapped [] = refl
  params_mapped (x ∷ xs) = ap (λ rest. f x.type ∷ rest) (params_mapped xs)

  fields_mapped : (xs : List (FieldOf Pos Text Text ℕ)) → map f (field_parts xs) ≡ field_parts (map f_field xs)
  fields_mapped [] = refl
  fields_mapped (x ∷ xs) = ap (λ rest. f x.type ∷ rest) (fields_mapped xs)

  sig_mapped : (x y : SigOf Pos Text ℕ) → map g (sig_pairs (generic_at nodes) node_pair x y) ≡ sig_pairs defined_name pair (f_sig x) (f_sig y)
  sig_mapped x y =
      map-append g (in_step (generic_at nodes) node_pair (param_parts x.params) (param_parts y.params)) (in_step (generic_at nodes) node_pair (param_parts x.results) (param_parts y.results))
      ∙ (λ i. in_step_mapped (param_parts x.params) (param_parts y.params) i ++ in_step_mapped (param_parts x.results) (param_parts y.results) i)
      ∙ (λ i. in_step defined_name pair (params_mapped x.params i) (params_mapped y.params i) ++ in_step defined_name pair (params_mapped x.results i) (params_mapped y.results i))

  length_mapped : {X Y : Type 0} (h : X → Y) (xs : List X) → length xs ≡ length (map h xs)
  length_mapped h [] = refl
  length_mapped h (x ∷ xs) = ap suc (length_mapped h xs)

  form_mapped : (x y : SigOf Pos Text ℕ) → same_form x y ≡ same_form (f_sig x) (f_sig y)
  form_mapped x y = λ i. same_flag x.variadic y.variadic
      && ((length_mapped f_param x.params i == length_mapped f_param y.params i) && (length_mapped f_param x.results i == length_mapped f_param y.results i))

  same_fields_mapped : (home other : Text) (xs ys : List (FieldOf Pos Text Text ℕ)) → same_fields home other xs ys ≡ same_fields home other (map f_field xs) (map f_field ys)
  same_fields_mapped home other [] [] = refl
  same_fields_mapped home other [] (y ∷ ys) = refl
  same_fields_mapped home other (x ∷ xs) [] = refl
  same_fields_mapped home other (x ∷ xs) (y ∷ ys) = ap (λ rest. same_field home other x y && rest) (same_fields_mapped home other xs ys)

  where_mapped : (b : Bool) (ps : List Pair) → demand_map g (parts_where b ps) ≡ parts_where b (map g ps)
  where_mapped true ps = refl
  where_mapped false ps = refl

  sets_mapped : (b : Bool) → demand_map g (sets_where b) ≡ sets_where b
  sets_mapped true = refl
  sets_mapped false = refl

  pub demand_mapped : (x y : Shape Pos Text Text ℕ) → demand_map g (demand (generic_at nodes) node_pair x y) ≡ demand defined_name pair (retype f x) (retype f y)
  demand_mapped (predeclared_of x) (predeclared_of y) = where_mapped (same_basic (aliased x) (aliased y)) []
  demand_mapped (predeclared_of x) (interface_of home embedded own) = sets_mapped (same_basic Any x)
  demand_mapped (interface_of home embedded own) (predeclared_of y) = sets_mapped (same_basic Any y)
  demand_mapped (named_of n p) (named_of m q) = where_mapped (same_name (qualified n p) (qualified m q)) []
  demand_mapped (parameter_of n p) (parameter_of m q) = where_mapped (same_name (qualified n p) (qualified m q)) []
  demand_mapped (array_of n x) (array_of m y) = where_mapped (nat_eq n m) (node_pair x y ∷ [])
  demand_mapped (chan_of d x) (chan_of e y) = where_mapped (same_dir d e) (node_pair x y ∷ [])
  demand_mapped (func_of home x) (func_of other y) =
      where_mapped (same_form x y) (sig_pairs (generic_at nodes) node_pair x y) ∙ (λ i. parts_where (form_mapped x y i) (sig_mapped x y i))
  demand_mapped (struct_of home xs) (struct_of other ys) =
      where_mapped (same_fields home other xs ys) (in_step (generic_at nodes) node_pair (field_parts xs) (field_parts ys))
      ∙ (λ i. parts_where (same_fields_mapped home other xs ys i) (in_step_mapped (field_parts xs) (field_parts ys) i))
      ∙ (λ i. parts_where (same_fields home other (map f_field xs) (map f_field ys)) (in_step defined_name pair (fields_mapped xs i) (fields_mapped ys i)))
  demand_mapped (instance_of base xs) (instance_of other ys) =
      where_mapped (same_generic (generic_at nodes base) (generic_at nodes other) && same_length xs ys) (in_step (generic_at nodes) node_pair xs ys)
      ∙ (λ i. parts_where (same_generic (generic_at nodes base) (generic_at nodes other) && (length_mapped f xs i == length_mapped f ys i)) (in_step_mapped xs ys i))
  demand_mapped (pointer_of x) (pointer_of y) = refl
  demand_mapped (slice_of x) (slice_of y) = refl
  demand_mapped (map_of k x) (map_of l y) = refl
  demand_mapped (interface_of home embedded own) (interface_of home' embedded' own') = refl
  demand_mapped (union_of xs) (union_of ys) = refl
  demand_mapped _ _ = refl

  pub denoted : (l r : ℕ) (left right : Node) → tree nodes l ≡ tree_of (retype (tree nodes) (node_shape left))
      → tree nodes r ≡ tree_of (retype (tree nodes) (node_shape right))
      → demand_map g (node_demand nodes left right) ≡ tree_demand (pair_tree nodes (node_pair l r))
  denoted l r left right at_left at_right =
      let a : level_of (tree nodes l) ≡ retype f (node_shape left) = ap level_of at_left ∙ level_of-tree_of (retype f (node_shape left)) in
      let b : level_of (tree nodes r) ≡ retype f (node_shape right) = ap level_of at_right ∙ level_of-tree_of (retype f (node_shape right)) in
      demand_mapped (node_shape left) (node_shape right) ∙ (λ i. demand defined_name pair (sym a i) (sym b i))

pub if_ok : {X E : Type 0} (P Q : X → Type 0) (r : Result X E) → ((x : X) → P x → Q x) → IfOk r P → IfOk r Q
if_ok P Q (Ok x) each holds = each x holds
if_ok P Q (Err e) each holds = tt
