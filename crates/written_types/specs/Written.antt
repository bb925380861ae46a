-- What the exporter writes of a type: the type itself, but that an interface has its methods in the order of their
-- names, that an element which is one term without a tilde is that type, that the empty file, line 0 and column 0 are no
-- position, and that origins are left out.
use Rattle.std.specs.Prelude.{[], false}
use Rattle.go_values.specs.declared.positions.Pos.{Pos}
use Rattle.position_codec.specs.Place.{place_of, pos_of}
use Rattle.type_terms.specs.Shapes.{OriginOf}
use Rattle.type_terms.specs.Trees.{Text, Tree, predeclared, named, parameter, alias, pointer, slice, array, chan}
use Rattle.type_terms.specs.Trees.{map_type}
use Rattle.type_terms.specs.Trees.{func, struct, interface, instance, union, Trees, no_types, types, Params, no_params}
use Rattle.type_terms.specs.Trees.{params, Fields, no_fields, fields, Methods, no_methods, methods, Terms, no_terms}
use Rattle.type_terms.specs.Trees.{terms, method_list, methods_of}
use Rattle.type_terms.specs.Declarations.{Decl, form_map}
use Rattle.written_types.specs.ByName.{by_name}

-- which kind of file is written
pub data Target : Type 0 where
  full : Target

abbrev pub origin_written : Target → OriginOf Text Text → OriginOf Text Text
origin_written full origin = record { text = []; path = [] }

-- as it is read back
abbrev pub position_written : Pos → Pos
position_written pos = pos_of (place_of pos)

abbrev pub element : Tree → Tree
element (union (terms false type no_terms)) = type
element type = type

abbrev mutual
  pub written : Target → Tree → Tree
  written target (predeclared basic) = predeclared basic
  written target (named q) = named q
  written target (parameter q) = parameter q
  written target (alias q) = alias q
  written target (pointer type) = pointer (written target type)
  written target (slice type) = slice (written target type)
  written target (array size type) = array size (written target type)
  written target (chan dir type) = chan dir (written target type)
  written target (map_type key type) = map_type (written target key) (written target type)
  written target (func home ins outs variadic) = func home (params_written target ins) (params_written target outs) variadic
  written target (struct home inner) = struct home (fields_written target inner)
  written target (interface home embedded inner) =
      interface home (elements_written target embedded) (methods_of (by_name (method_list (methods_written target inner))))
  written target (instance base args) = instance base (types_written target args)
  written target (union inner) = union (terms_written target inner)

  pub types_written : Target → Trees → Trees
  types_written target no_types = no_types
  types_written target (types type rest) = types (written target type) (types_written target rest)

  pub elements_written : Target → Trees → Trees
  elements_written target no_types = no_types
  elements_written target (types type rest) = types (element (written target type)) (elements_written target rest)

  pub params_written : Target → Params → Params
  params_written target no_params = no_params
  params_written target (params pos name type rest) = params (position_written pos) name (written target type) (params_written target rest)

  pub fields_written : Target → Fields → Fields
  fields_written target no_fields = no_fields
  fields_written target (fields origin pos name type embedded tag rest) =
      fields (origin_written target origin) (position_written pos) name (written target type) embedded tag (fields_written target rest)

  pub methods_written : Target → Methods → Methods
  methods_written target no_methods = no_methods
  methods_written target (methods origin pos name ins outs variadic rest) =
      methods (origin_written target origin) (position_written pos) name (params_written target ins)
      (params_written target outs) variadic (methods_written target rest)

  pub terms_written : Target → Terms → Terms
  terms_written target no_terms = no_terms
  terms_written target (terms tilde type rest) = terms tilde (written target type) (terms_written target rest)

-- a declaration, with what is written of its types
abbrev pub decl_written : Target → Decl → Decl
decl_written target decl = form_map position_written (λ (text : Text). text) (written target) decl
