-- Type parameters that are replaced by types, by their qualified names.
use Rattle.std.specs.Prelude.{cond, List, [], ◌∷◌}
use Rattle.go_values.specs.declared.qualified.QName.{QName}
use Rattle.type_terms.specs.Shapes.{parameter_of, retype}
use Rattle.type_terms.specs.Trees.{Tree, predeclared, named, parameter, alias, pointer, slice, array, chan, map_type}
use Rattle.type_terms.specs.Trees.{func, struct, interface, instance, union, Trees, no_types, types, Params, no_params}
use Rattle.type_terms.specs.Trees.{params, Fields, no_fields, fields, Methods, no_methods, methods, Terms, no_terms}
use Rattle.type_terms.specs.Trees.{terms, Level, tree_of}
use Rattle.type_terms.specs.TreeEquality.{same_name}

-- The argument for the first parameter of this name. One for which there is none stands for itself.
abbrev pub argument : List QName → List Tree → QName → Tree
argument [] args q = parameter q
argument (p ∷ ps) [] q = parameter q
argument (p ∷ ps) (arg ∷ args) q = cond (same_name q p) arg (argument ps args q)

-- a type with each type parameter replaced by what stands for it, and all else as it is
abbrev mutual
  pub replaced : (QName → Tree) → Tree → Tree
  replaced put (parameter q) = put q
  replaced put (predeclared basic) = predeclared basic
  replaced put (named q) = named q
  replaced put (alias q) = alias q
  replaced put (pointer type) = pointer (replaced put type)
  replaced put (slice type) = slice (replaced put type)
  replaced put (array size type) = array size (replaced put type)
  replaced put (chan dir type) = chan dir (replaced put type)
  replaced put (map_type key type) = map_type (replaced put key) (replaced put type)
  replaced put (func home ins outs variadic) = func home (params_replaced put ins) (params_replaced put outs) variadic
  replaced put (struct home inner) = struct home (fields_replaced put inner)
  replaced put (interface home embedded inner) = interface home (types_replaced put embedded)
      (methods_replaced put inner)
  replaced put (instance base args) = instance (replaced put base) (types_replaced put args)
  replaced put (union inner) = union (terms_replaced put inner)

  pub types_replaced : (QName → Tree) → Trees → Trees
  types_replaced put no_types = no_types
  types_replaced put (types type rest) = types (replaced put type) (types_replaced put rest)

  pub params_replaced : (QName → Tree) → Params → Params
  params_replaced put no_params = no_params
  params_replaced put (params pos name type rest) = params pos name (replaced put type) (params_replaced put rest)

  pub fields_replaced : (QName → Tree) → Fields → Fields
  fields_replaced put no_fields = no_fields
  fields_replaced put (fields origin pos name type embedded tag rest) = fields origin pos name (replaced put type)
      embedded tag (fields_replaced put rest)

  pub methods_replaced : (QName → Tree) → Methods → Methods
  methods_replaced put no_methods = no_methods
  methods_replaced put (methods origin pos name ins outs variadic rest) = methods origin pos name
      (params_replaced put ins) (params_replaced put outs) variadic (methods_replaced put rest)

  pub terms_replaced : (QName → Tree) → Terms → Terms
  terms_replaced put no_terms = no_terms
  terms_replaced put (terms tilde type rest) = terms tilde (replaced put type) (terms_replaced put rest)

-- a type whose type parameters of these names are replaced by these arguments
abbrev pub substituted : List QName → List Tree → Tree → Tree
substituted ps args type = replaced (argument ps args) type

-- the same by one level
abbrev pub level_replaced : (QName → Tree) → Level → Tree
level_replaced put (parameter_of name path) = put (record { path = path; name = name })
level_replaced put level = tree_of (retype (replaced put) level)
