-- What an interface literal holds is what is meant.
use Rattle.std.proofs.Common.{◌≡◌, ℕ, ◌<◌, false, List, [], ◌∷◌, ◌++◌, map, Option, Some, refl, ap, sym, ◌∙◌, subst, arith}
use Rattle.go_values.specs.declared.qualified.QName.{QName}
use Rattle.go_values.specs.declared.positions.Pos.{Pos}
use Rattle.type_terms.specs.declared.descriptors.Node.{Node}
use Rattle.type_terms.specs.declared.descriptors.Node.TheVariants.{Iface}
use Rattle.type_terms.specs.declared.literals.IMethod.{IMethod}
use Rattle.std.specs.List.{flat_map}
use Rattle.type_terms.specs.Arenas.{AllBelow}
use Rattle.type_terms.specs.Denoted.{all_weaker}
use Rattle.type_terms.specs.Denotation.{tree}
use Rattle.type_terms.specs.NodeShapes.{node_shape, method_shape, children}
use Rattle.type_terms.specs.Shapes.{MethodOf, method_map, method_types, retype}
use Rattle.type_terms.specs.Shapes as level
use Rattle.code_tables.specs.declared.predeclared.Basic.{Basic}
use Rattle.type_terms.specs.Trees.{Text, Tree, predeclared, Level, tree_of, type_list, method_list, types_of, methods_of}
use Rattle.type_terms.specs.TreeLevels.{types_back, level_of-tree_of}
use Rattle.type_sets.specs.Interfaces.{set_method, element, interface_of}
use Rattle.interface_nodes.specs.declared.methods.SetMethod.{SetMethod}
use Rattle.interface_nodes.specs.HeldNodes.{set_method_of, method_meant, method_nodes}
use Rattle.type_terms.specs.Names.{basic_of}

-- the methods of a literal's level
abbrev level_methods : Level → List (MethodOf Pos Text Text Tree)
level_methods (level.interface_of home embedded own) = own
level_methods _ = []

methods_back : (xs : List (MethodOf Pos Text Text Tree)) → method_list (methods_of xs) ≡ xs
methods_back xs = ap level_methods (level_of-tree_of (level.interface_of [] [] xs))

module _ (nodes : List Node) where
  abbrev methods_denoted : List IMethod → List (MethodOf Pos Text Text Tree)
  methods_denoted inner = map (method_map (λ (x : Pos). x) (λ (x : Text). x) (λ (x : Text). x) (tree nodes)) (map method_shape inner)

  own_meant : (home : Text) (inner : List IMethod) → map (method_meant nodes) (map (set_method_of home) inner) ≡ map (set_method home) (methods_denoted inner)
  own_meant home [] = refl
  own_meant home (m ∷ inner) = ap (λ rest. method_meant nodes (set_method_of home m) ∷ rest) (own_meant home inner)

  elements_meant : (ids : List ℕ) → map (λ id. element (tree nodes id)) ids ≡ map element (map (tree nodes) ids)
  elements_meant [] = refl
  elements_meant (id ∷ ids) = ap (λ rest. element (tree nodes id) ∷ rest) (elements_meant ids)

  pub literal_meant : (type : Tree) (node : Node) (home : Text) (embedded : List ℕ) (inner : List IMethod) (name : Option QName)
      → type ≡ tree_of (retype (tree nodes) (node_shape node)) → node ≡ Iface home embedded inner
      → (own : List SetMethod) → own ≡ map (set_method_of home) inner → (ids : List ℕ) → ids ≡ embedded
      → Some (record { name = name; own = map (method_meant nodes) own; flag = false; elements = map (λ id. element (tree nodes id)) ids }) ≡ interface_of name type
  literal_meant type node home embedded inner name denotes is own own_is ids ids_are =
      let whole : interface_of name type ≡ Some (record { name = name; own = map (set_method home) (method_list (methods_of (methods_denoted inner))); flag = false; elements = map element (type_list (types_of (map (tree nodes) embedded))) }) =
      ap (interface_of name) (denotes ∙ ap (λ n. tree_of (retype (tree nodes) (node_shape n))) is) in
      let methods = ap (map (method_meant nodes)) own_is ∙ own_meant home inner ∙ ap (map (set_method home)) (sym (methods_back (methods_denoted inner))) in
      let elements = ap (map (λ id. element (tree nodes id))) ids_are ∙ elements_meant embedded ∙ ap (map element) (sym (types_back (map (tree nodes) embedded))) in
      (λ i. Some (record { name = name; own = methods i; flag = false; elements = elements i })) ∙ sym whole

-- and its nodes stand below it
inner_nodes : (home : Text) (inner : List IMethod) → flat_map method_types (map method_shape inner) ≡ flat_map method_nodes (map (set_method_of home) inner)
inner_nodes home [] = refl
inner_nodes home (m ∷ inner) = ap (λ rest. method_nodes (set_method_of home m) ++ rest) (inner_nodes home inner)

pub literal_within : (bound id : ℕ) → id < bound → (node : Node) (home : Text) (embedded : List ℕ) (inner : List IMethod) → AllBelow id (children node) → node ≡ Iface home embedded inner
    → (own : List SetMethod) → own ≡ map (set_method_of home) inner → (ids : List ℕ) → ids ≡ embedded
    → AllBelow bound (ids ++ flat_map method_nodes own)
literal_within bound id there node home embedded inner falls is own own_is ids ids_are =
    let below = subst (λ n. AllBelow id (children n)) is falls in
    let same : embedded ++ flat_map method_types (map method_shape inner) ≡ ids ++ flat_map method_nodes own =
    (λ i. sym ids_are i ++ (inner_nodes home inner ∙ ap (flat_map method_nodes) (sym own_is)) i) in
    all_weaker (λ n. n < id) (λ n. n < bound) (λ n h. omega (arith, h, there)) (ids ++ flat_map method_nodes own) (subst (AllBelow id) same below)

-- a predeclared type is told by its name
pub basic_told : (type : Tree) (basic : Basic) → basic_of type ≡ Some basic → type ≡ predeclared basic
basic_told (predeclared own) basic is = let same : own ≡ basic = cc in ap predeclared same
basic_told _ basic is = absurd cc
