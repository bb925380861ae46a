-- The parts of a tree, and their size.
use Rattle.std.specs.Prelude.{ℕ, ◌+◌, ◌<◌, List, length}
use Rattle.std.specs.List.{Contains}
use Rattle.type_terms.specs.Shapes.{instance_of, shape_types}
use Rattle.type_terms.specs.Trees.{Tree, predeclared, named, parameter, alias, pointer, slice, array, chan, map_type}
use Rattle.type_terms.specs.Trees.{func, struct, interface, instance, union, Trees, no_types, types, Params, no_params}
use Rattle.type_terms.specs.Trees.{params, Fields, no_fields, fields, Methods, no_methods, methods, Terms, no_terms}
use Rattle.type_terms.specs.Trees.{terms, Level, level_of}

-- the types that stand in a type, one level down, in reading order
abbrev pub parts : Tree → List Tree
parts tree = shape_types (level_of tree)

-- the second tree stands in the first one, at any depth
pub data Within : Tree → Tree → Type 0 where
  itself : (tree : Tree) → Within tree tree
  inside : (tree part below : Tree) → Contains (parts tree) part → Within part below → Within tree below

-- how many types stand in a type, itself among them
abbrev mutual
  pub tree_size : Tree → ℕ
  tree_size (predeclared basic) = 1
  tree_size (named q) = 1
  tree_size (parameter q) = 1
  tree_size (alias q) = 1
  tree_size (pointer type) = 1 + tree_size type
  tree_size (slice type) = 1 + tree_size type
  tree_size (array size type) = 1 + tree_size type
  tree_size (chan dir type) = 1 + tree_size type
  tree_size (map_type key type) = 1 + (tree_size key + tree_size type)
  tree_size (func home ins outs variadic) = 1 + (params_size ins + params_size outs)
  tree_size (struct home inner) = 1 + fields_size inner
  tree_size (interface home embedded inner) = 1 + (types_size embedded + methods_size inner)
  tree_size (instance base args) = 1 + (types_size args + tree_size base)
  tree_size (union inner) = 1 + terms_size inner

  pub types_size : Trees → ℕ
  types_size no_types = 0
  types_size (types type rest) = tree_size type + types_size rest

  pub params_size : Params → ℕ
  params_size no_params = 0
  params_size (params pos name type rest) = tree_size type + params_size rest

  pub fields_size : Fields → ℕ
  fields_size no_fields = 0
  fields_size (fields origin pos name type embedded tag rest) = tree_size type + fields_size rest

  pub methods_size : Methods → ℕ
  methods_size no_methods = 0
  methods_size (methods origin pos name ins outs variadic rest) = (params_size ins + params_size outs) + methods_size
      rest

  pub terms_size : Terms → ℕ
  terms_size no_terms = 0
  terms_size (terms tilde type rest) = tree_size type + terms_size rest

-- a defined type or an alias, by its name
abbrev pub IsGeneric : Tree → Type 0
IsGeneric (named q) = Unit {0}
IsGeneric (alias q) = Unit {0}
IsGeneric _ = ⊥

-- An instance has a generic type by its name, and at least one argument.
abbrev pub MeetsBase : Level → Type 0
MeetsBase (instance_of base args) = IsGeneric base × (0 < length args)
MeetsBase _ = Unit {0}
