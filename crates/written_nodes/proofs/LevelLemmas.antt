-- A node over nodes that were made for its types denotes what is written of its type.
use Rattle.std.proofs.Common.{◌≡◌, ℕ, zero, suc, ◌<◌, Bool, true, false, List, [], ◌∷◌, ◌++◌, length, map, Some, refl, ap, ap₂, sym, subst, ◌∙◌, arith}
use Rattle.std.specs.List.{AllByRecursion, flat_map}
use Rattle.std.proofs.lemmas.List.{length-map}
use Rattle.go_values.specs.declared.positions.Pos.{Pos}
use Rattle.type_terms.specs.declared.literals.ParamNode.{ParamNode}
use Rattle.type_terms.specs.declared.literals.Field.{Field}
use Rattle.type_terms.specs.declared.literals.IMethod.{IMethod}
use Rattle.type_terms.specs.declared.literals.Term.{Term}
use Rattle.type_terms.specs.declared.descriptors.Node.{Node}
use Rattle.type_terms.specs.declared.descriptors.Node.TheVariants.{Predeclared, Named, Param, AliasName, Pointer, Slice, Array, Chan, MapOf, FuncOf, StructOf, Iface, Instance, Union}
use Rattle.type_terms.specs.Arenas.{IsNode, AllBelow, IsArena}
use Rattle.type_terms.specs.Denotation.{tree}
use Rattle.type_terms.specs.Denoted.{tree_unfolds}
use Rattle.type_terms.specs.NodeShapes.{node_shape, param_shape, field_shape, method_shape, term_shape, children}
use Rattle.type_terms.specs.Parts.{IsGeneric, MeetsBase}
use Rattle.type_terms.specs.Replaced.{all_left, all_right}
use Rattle.type_terms.specs.Shapes.{union_of, param_map, field_map, method_map, term_map, param_types, field_types, method_types, term_types, retype}
use Rattle.type_terms.specs.Trees.{Text, Tree, named, alias, pointer, slice, array, chan, map_type, func, struct, interface, instance, union, types, Params, params, fields, Terms, no_terms, terms, tree_of, types_of, params_of, fields_of, methods_of, terms_of, param_list, method_list}
use Rattle.written_types.specs.ByName.{Method, by_name}
use Rattle.written_types.specs.Written.{full, position_written, element, written, types_written, elements_written, params_written, fields_written, methods_written, terms_written}
use Rattle.written_nodes.specs.Making.{param_made, field_made, method_made, term_made}
use Rattle.written_nodes.specs.Nodes.{without_tilde, only_term, element_by, element_in, MakesNode}
use Rattle.written_nodes.proofs.ListLemmas.{map_twice}

-- a method over nodes, with the types of numbers
abbrev method_over : (ℕ → Tree) → IMethod → Method
method_over type x = method_map (λ (x : Pos). x) (λ (x : Text). x) (λ (x : Text). x) type (method_shape x)

-- ---- embedded elements

module _ (type : ℕ → Tree) where
  stays : (id : ℕ) (t : Tree) → type id ≡ t → element t ≡ t → type id ≡ element (type id)
  stays id t e own = e ∙ sym own ∙ sym (ap element e)

  one_term : (tilde : Bool) (ty id : ℕ) → type id ≡ union (terms tilde (type ty) no_terms) → type (without_tilde tilde ty id) ≡ element (type id)
  one_term false ty id e = sym (ap element e)
  one_term true ty id e = stays id (union (terms true (type ty) no_terms)) e refl

  more_terms : (tilde : Bool) (t u : Tree) (also : Bool) (rest : Terms) → element (union (terms tilde t (terms also u rest))) ≡ union (terms tilde t (terms also u rest))
  more_terms false t u also rest = refl
  more_terms true t u also rest = refl

  union_element : (xs : List Term) (id : ℕ) → type id ≡ tree_of (union_of (map (term_map (λ (x : Pos). x) (λ (x : Text). x) (λ (x : Text). x) type) (map term_shape xs))) → type (only_term xs id) ≡ element (type id)
  union_element [] id e = stays id (union no_terms) e refl
  union_element (x ∷ []) id e = one_term x.tilde x.ty id e
  union_element (x ∷ y ∷ rest) id e = stays id _ e (more_terms x.tilde (type x.ty) (type y.ty) y.tilde _)

  node_element : (node : Node) (id : ℕ) → type id ≡ tree_of (retype type (node_shape node)) → type (element_by (Some node) id) ≡ element (type id)
  node_element (Predeclared basic) id e = stays id _ e refl
  node_element (Named q) id e = stays id _ e refl
  node_element (Param q) id e = stays id _ e refl
  node_element (AliasName q) id e = stays id _ e refl
  node_element (Pointer ty) id e = stays id _ e refl
  node_element (Slice ty) id e = stays id _ e refl
  node_element (Array size ty) id e = stays id _ e refl
  node_element (Chan dir ty) id e = stays id _ e refl
  node_element (MapOf key ty) id e = stays id _ e refl
  node_element (FuncOf home sig) id e = stays id _ e refl
  node_element (StructOf home inner) id e = stays id _ e refl
  node_element (Iface home embedded inner) id e = stays id _ e refl
  node_element (Instance base args) id e = stays id _ e refl
  node_element (Union inner) id e = union_element inner id e

there_is : (nodes : List Node) (n : ℕ) → n < length nodes → (node : Node) × IsNode nodes n node
there_is [] n h = absurd (omega arith)
there_is (x ∷ xs) zero h = (x, refl)
there_is (x ∷ xs) (suc n) h = there_is xs n (omega arith)

pub element_is : (nodes : List Node) → IsArena nodes → (id : ℕ) → id < length nodes → tree nodes (element_in nodes id) ≡ element (tree nodes id)
element_is nodes arena id there =
    let own = there_is nodes id there in
    ap (λ o. tree nodes (element_by o id)) own.1
    ∙ node_element (tree nodes) own.0 id (tree_unfolds nodes id own.0 own.1 (arena.falls id own.0 own.1))

-- ---- lists

-- The types of one arena's numbers, those of another's, and the number of what was made for each.
module _ (from to : ℕ → Tree) (number : ℕ → ℕ) where
  abbrev pub IsMadeRight : ℕ → Type 0
  IsMadeRight c = to (number c) ≡ written full (from c)

  types_tree : (xs : List ℕ) → AllByRecursion IsMadeRight xs → types_of (map to (map number xs)) ≡ types_written full (types_of (map from xs))
  types_tree [] all = refl
  types_tree (x ∷ xs) all = ap₂ types all.0 (types_tree xs all.1)

  params_tree : (xs : List ParamNode) → AllByRecursion IsMadeRight (flat_map param_types (map param_shape xs)) → params_of (map (param_map (λ (x : Pos). x) (λ (x : Text). x) (λ (x : Text). x) to) (map param_shape (map (param_made number) xs))) ≡ params_written full (params_of (map (param_map (λ (x : Pos). x) (λ (x : Text). x) (λ (x : Text). x) from) (map param_shape xs)))
  params_tree [] all = refl
  params_tree (x ∷ xs) all = ap₂ (params (position_written x.pos) x.name) all.0 (params_tree xs all.1)

  params_list : (xs : List ParamNode) → AllByRecursion IsMadeRight (flat_map param_types (map param_shape xs)) → map (param_map (λ (x : Pos). x) (λ (x : Text). x) (λ (x : Text). x) to) (map param_shape (map (param_made number) xs)) ≡ param_list (params_written full (params_of (map (param_map (λ (x : Pos). x) (λ (x : Text). x) (λ (x : Text). x) from) (map param_shape xs))))
  params_list [] all = refl
  params_list (x ∷ xs) all = λ i. record { pos = position_written x.pos; name = x.name; type = all.0 i } ∷ params_list xs all.1 i

  fields_tree : (xs : List Field) → AllByRecursion IsMadeRight (flat_map field_types (map field_shape xs)) → fields_of (map (field_map (λ (x : Pos). x) (λ (x : Text). x) (λ (x : Text). x) to) (map field_shape (map (field_made number) xs))) ≡ fields_written full (fields_of (map (field_map (λ (x : Pos). x) (λ (x : Text). x) (λ (x : Text). x) from) (map field_shape xs)))
  fields_tree [] all = refl
  fields_tree (x ∷ xs) all = λ i. fields (record { text = []; path = [] }) (position_written x.pos) x.name (all.0 i) x.embedded x.tag (fields_tree xs all.1 i)

  methods_list : (xs : List IMethod) → AllByRecursion IsMadeRight (flat_map method_types (map method_shape xs)) → map (method_over to) (map (method_made number) xs) ≡ method_list (methods_written full (methods_of (map (method_map (λ (x : Pos). x) (λ (x : Text). x) (λ (x : Text). x) from) (map method_shape xs))))
  methods_list [] all = refl
  methods_list (x ∷ xs) all =
      let own = method_types (method_shape x) in
      let others = flat_map method_types (map method_shape xs) in
      let sig = all_left IsMadeRight own others all in
      let ins = flat_map param_types (map param_shape x.sig.params) in
      let outs = flat_map param_types (map param_shape x.sig.results) in
      let first = params_list x.sig.params (all_left IsMadeRight ins outs sig) in
      let second = params_list x.sig.results (all_right IsMadeRight ins outs sig) in
      let rest = methods_list xs (all_right IsMadeRight own others all) in
      λ i. record { origin = record { text = []; path = [] }; pos = position_written x.pos; name = x.name; sig = record { params = first i; results = second i; variadic = x.sig.variadic } } ∷ rest i

  terms_tree : (xs : List Term) → AllByRecursion IsMadeRight (flat_map term_types (map term_shape xs)) → terms_of (map (term_map (λ (x : Pos). x) (λ (x : Text). x) (λ (x : Text). x) to) (map term_shape (map (term_made number) xs))) ≡ terms_written full (terms_of (map (term_map (λ (x : Pos). x) (λ (x : Text). x) (λ (x : Text). x) from) (map term_shape xs)))
  terms_tree [] all = refl
  terms_tree (x ∷ xs) all = ap₂ (terms x.tilde) all.0 (terms_tree xs all.1)

-- a defined type or an alias is written as it is
generic_stays : (type : Tree) → IsGeneric type → IsGeneric (written full type)
generic_stays (named q) g = tt
generic_stays (alias q) g = tt
generic_stays _ g = absurd g

generic_itself : (type : Tree) → IsGeneric type → written full type ≡ type
generic_itself (named q) g = refl
generic_itself (alias q) g = refl
generic_itself _ g = absurd g

module _ (from nodes : List Node) (number : ℕ → ℕ) where
  abbrev pub Right : ℕ → Type 0
  Right = IsMadeRight (tree from) (tree nodes) number

  elements_tree : IsArena nodes → (xs : List ℕ) → AllByRecursion Right xs → AllBelow (length nodes) (map number xs) → types_of (map (tree nodes) (map (element_in nodes) (map number xs))) ≡ elements_written full (types_of (map (tree from) xs))
  elements_tree arena [] all below = refl
  elements_tree arena (x ∷ xs) all below = ap₂ types (element_is nodes arena (number x) below.0 ∙ ap element all.0) (elements_tree arena xs all.1 below.1)

  below_left : (xs ys : List ℕ) → AllBelow (length nodes) (map number (xs ++ ys)) → AllBelow (length nodes) (map number xs)
  below_left [] ys all = tt
  below_left (x ∷ xs) ys all = (all.0, below_left xs ys all.1)

  abbrev made_type : Node → Tree
  made_type own = tree_of (retype (tree nodes) (node_shape own))

  -- what is made denotes what is written
  pub made_tree : IsArena nodes → (node own : Node) → MakesNode nodes number node own → AllByRecursion Right (children node)
      → AllBelow (length nodes) (map number (children node)) → MeetsBase (retype (tree from) (node_shape node))
      → tree_of (retype (tree nodes) (node_shape own)) ≡ written full (tree_of (retype (tree from) (node_shape node)))
  made_tree arena (Predeclared basic) own is all below meets = ap made_type is
  made_tree arena (Named q) own is all below meets = ap made_type is
  made_tree arena (Param q) own is all below meets = ap made_type is
  made_tree arena (AliasName q) own is all below meets = ap made_type is
  made_tree arena (Pointer id) own is all below meets = ap made_type is ∙ ap pointer all.0
  made_tree arena (Slice id) own is all below meets = ap made_type is ∙ ap slice all.0
  made_tree arena (Array size id) own is all below meets = ap made_type is ∙ ap (array size) all.0
  made_tree arena (Chan dir id) own is all below meets = ap made_type is ∙ ap (chan dir) all.0
  made_tree arena (MapOf key id) own is all below meets = ap made_type is ∙ ap₂ map_type all.0 all.1.0
  made_tree arena (FuncOf home sig) own is all below meets =
      let ins = flat_map param_types (map param_shape sig.params) in
      let outs = flat_map param_types (map param_shape sig.results) in
      ap made_type is
      ∙ ap₂ (λ (ps rs : Params). func home ps rs sig.variadic) (params_tree (tree from) (tree nodes) number sig.params (all_left Right ins outs all))
      (params_tree (tree from) (tree nodes) number sig.results (all_right Right ins outs all))
  made_tree arena (StructOf home inner) own is all below meets = ap made_type is ∙ ap (struct home) (fields_tree (tree from) (tree nodes) number inner all)
  made_tree arena (Instance base args) own is all below meets =
      let first : tree nodes (number base) ≡ tree from base = (all_right Right args (base ∷ []) all).0 ∙ generic_itself (tree from base) meets.0 in
      ap made_type is ∙ ap₂ instance first (types_tree (tree from) (tree nodes) number args (all_left Right args (base ∷ []) all))
  made_tree arena (Union inner) own is all below meets = ap made_type is ∙ ap union (terms_tree (tree from) (tree nodes) number inner all)
  made_tree arena (Iface home embedded inner) own is all below meets =
      let methods = flat_map method_types (map method_shape inner) in
      let listed : map (method_map (λ (x : Pos). x) (λ (x : Text). x) (λ (x : Text). x) (tree nodes)) (map method_shape is.sorted) ≡ map (method_over (tree nodes)) is.sorted = map_twice method_shape (method_map (λ (x : Pos). x) (λ (x : Text). x) (λ (x : Text). x) (tree nodes)) is.sorted in
      let sorted : map (method_over (tree nodes)) is.sorted ≡ by_name (map (method_over (tree nodes)) (map (method_made number) inner)) = is.order.by_name (method_over (tree nodes)) (λ x. refl) in
      ap made_type is.is
      ∙ ap₂ (interface home) (elements_tree arena embedded (all_left Right embedded methods all) (below_left embedded methods below))
      (ap methods_of (listed ∙ sorted ∙ ap by_name (methods_list (tree from) (tree nodes) number inner (all_right Right embedded methods all))))

  -- an instance has the name of a generic type and an argument, as before
  pub made_meets : (node own : Node) → MakesNode nodes number node own → AllByRecursion Right (children node)
      → MeetsBase (retype (tree from) (node_shape node)) → MeetsBase (retype (tree nodes) (node_shape own))
  made_meets (Instance base args) own is all meets =
      let generic = subst IsGeneric (sym (all_right Right args (base ∷ []) all).0) (generic_stays (tree from base) meets.0) in
      let some : 0 < length (map (tree nodes) (map number args)) = let count = meets.1 in omega (arith, length-map (map number args) (tree nodes), length-map args number, length-map args (tree from)) in
      subst (λ n. MeetsBase (retype (tree nodes) (node_shape n))) (sym is) (generic, some)
  made_meets (Predeclared basic) own is all meets = subst (λ n. MeetsBase (retype (tree nodes) (node_shape n))) (sym is) tt
  made_meets (Named q) own is all meets = subst (λ n. MeetsBase (retype (tree nodes) (node_shape n))) (sym is) tt
  made_meets (Param q) own is all meets = subst (λ n. MeetsBase (retype (tree nodes) (node_shape n))) (sym is) tt
  made_meets (AliasName q) own is all meets = subst (λ n. MeetsBase (retype (tree nodes) (node_shape n))) (sym is) tt
  made_meets (Pointer id) own is all meets = subst (λ n. MeetsBase (retype (tree nodes) (node_shape n))) (sym is) tt
  made_meets (Slice id) own is all meets = subst (λ n. MeetsBase (retype (tree nodes) (node_shape n))) (sym is) tt
  made_meets (Array size id) own is all meets = subst (λ n. MeetsBase (retype (tree nodes) (node_shape n))) (sym is) tt
  made_meets (Chan dir id) own is all meets = subst (λ n. MeetsBase (retype (tree nodes) (node_shape n))) (sym is) tt
  made_meets (MapOf key id) own is all meets = subst (λ n. MeetsBase (retype (tree nodes) (node_shape n))) (sym is) tt
  made_meets (FuncOf home sig) own is all meets = subst (λ n. MeetsBase (retype (tree nodes) (node_shape n))) (sym is) tt
  made_meets (StructOf home inner) own is all meets = subst (λ n. MeetsBase (retype (tree nodes) (node_shape n))) (sym is) tt
  made_meets (Iface home embedded inner) own is all meets = subst (λ n. MeetsBase (retype (tree nodes) (node_shape n))) (sym is.is) tt
  made_meets (Union inner) own is all meets = subst (λ n. MeetsBase (retype (tree nodes) (node_shape n))) (sym is) tt
