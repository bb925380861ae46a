-- A walk through a type, depth first and from left to right: each type stands behind those that stand in it.
use Rattle.std.specs.Prelude.{List, [], ◌∷◌, ◌++◌}
use Rattle.type_terms.specs.Trees.{Tree, predeclared, named, parameter, alias, pointer, slice, array, chan, map_type}
use Rattle.type_terms.specs.Trees.{func, struct, interface, instance, union, Trees, no_types, types, Params, no_params}
use Rattle.type_terms.specs.Trees.{params, Fields, no_fields, fields, Methods, no_methods, methods, Terms, no_terms}
use Rattle.type_terms.specs.Trees.{terms}

abbrev mutual
  pub walk : Tree → List Tree
  walk (predeclared basic) = predeclared basic ∷ []
  walk (named q) = named q ∷ []
  walk (parameter q) = parameter q ∷ []
  walk (alias q) = alias q ∷ []
  walk (pointer type) = walk type ++ pointer type ∷ []
  walk (slice type) = walk type ++ slice type ∷ []
  walk (array size type) = walk type ++ array size type ∷ []
  walk (chan dir type) = walk type ++ chan dir type ∷ []
  walk (map_type key type) = (walk key ++ walk type) ++ map_type key type ∷ []
  walk (func home ins outs variadic) = (params_walk ins ++ params_walk outs) ++ func home ins outs variadic ∷ []
  walk (struct home inner) = fields_walk inner ++ struct home inner ∷ []
  walk (interface home embedded inner) = (types_walk embedded ++ methods_walk inner) ++ interface home embedded inner
      ∷ []
  walk (instance base args) = (types_walk args ++ walk base) ++ instance base args ∷ []
  walk (union inner) = terms_walk inner ++ union inner ∷ []

  pub types_walk : Trees → List Tree
  types_walk no_types = []
  types_walk (types type rest) = walk type ++ types_walk rest

  pub params_walk : Params → List Tree
  params_walk no_params = []
  params_walk (params pos name type rest) = walk type ++ params_walk rest

  pub fields_walk : Fields → List Tree
  fields_walk no_fields = []
  fields_walk (fields origin pos name type embedded tag rest) = walk type ++ fields_walk rest

  pub methods_walk : Methods → List Tree
  methods_walk no_methods = []
  methods_walk (methods origin pos name ins outs variadic rest) = (params_walk ins ++ params_walk outs)
      ++ methods_walk rest

  pub terms_walk : Terms → List Tree
  terms_walk no_terms = []
  terms_walk (terms tilde type rest) = walk type ++ terms_walk rest
