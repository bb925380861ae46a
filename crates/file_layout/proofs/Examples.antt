-- The definitions, computed on worked files.
use Rattle.std.proofs.Common.{◌≡◌, ℕ, List, [], ◌∷◌, false, cond, Option, Some, None, refl}
use Rattle.std.specs.Prelude.{pos, codes}
use Rattle.go_values.specs.declared.positions.Pos.{Pos}
use Rattle.go_values.specs.declared.positions.Pos.TheVariants.{At}
use Rattle.go_values.specs.declared.qualified.QName.{QName}
use Rattle.go_values.specs.declared.constants.Const.TheVariants.{Int as whole}
use Rattle.code_tables.specs.declared.predeclared.Basic.TheVariants as basics
use Rattle.wire_bytes.specs.Section.{spelling_of}
use Rattle.type_terms.specs.Shapes.{OriginOf}
use Rattle.type_terms.specs.Trees.{Text, Tree, predeclared, named, parameter, pointer, struct, interface, instance}
use Rattle.type_terms.specs.Trees.{no_types, types, Params, no_params, params, no_fields, fields, no_methods, methods}
use Rattle.type_terms.specs.TreeEquality.{same_name}
use Rattle.type_terms.specs.Declarations.{Decl, constant_of, defined_of, type_parameter_of}
use Rattle.decl_spelling.specs.Sections.{Basics}
use Rattle.file_layout.specs.Places.{place_type, place_decl}
use Rattle.file_layout.specs.Layout.{Source, layout, file_bytes}

abbrev no_names : Basics
no_names path name = None

abbrev no_packages : Text → Option Text
no_packages path = None

abbrev in_package : Text → Text → QName
in_package path name = record { path = path; name = name }

abbrev found : QName → List (QName × Decl) → Option Decl
found q [] = None
found q (x ∷ xs) = cond (same_name q x.0) (Some x.1) (found q xs)

abbrev names : List (QName × Decl) → List QName
names [] = []
names (x ∷ xs) = x.0 ∷ names xs

-- declarations in the order of writing
abbrev source : Text → List (QName × Decl) → Source
source path decls = record {
  own = path;
  name = path;
  order = names decls;
  decls = λ q. found q decls;
  basics = no_names;
  packages = no_packages;
}

-- ---- `package p`, and `const A = 1` in p.go

abbrev a_constant : Source
a_constant = source (codes "p") (
    (in_package (codes "p") (codes "A"), constant_of (At (codes "p.go") 2 7) (predeclared basics.UntypedInt) (whole (pos 1)))
    ∷ [])

constant_file : file_bytes a_constant
    ≡ 105 ∷ 2 ∷ 10 ∷ 7 ∷ 4 ∷ 112 ∷ 46 ∷ 103 ∷ 111 ∷ 0 ∷ 1 ∷ 112 ∷ 1 ∷ 65 ∷ 67 ∷ 30 ∷ 10 ∷ 0 ∷ 21 ∷ 6 ∷ 2 ∷ 1 ∷ 5 ∷ 6
    ∷ 0 ∷ 1 ∷ 8 ∷ 0 ∷ []
unfolding layout place_type place_decl spelling_of
constant_file = refl

-- ---- `package p`, and `type D *int` in p.go

abbrev a_pointer : Source
a_pointer = source (codes "p") (
    (in_package (codes "p") (codes "D"), defined_of (At (codes "p.go") 2 6) [] (pointer (predeclared basics.Int)) []) ∷ [])

pointer_data : (layout a_pointer).bytes ≡ 1 ∷ 1 ∷ 84 ∷ 26 ∷ 10 ∷ 0 ∷ 32 ∷ 0 ∷ []
unfolding layout place_type place_decl spelling_of
pointer_data = refl

-- ---- the file shapes.x of the package shapes: a constant, an interface, a type with a method, and a generic one

abbrev own : Text → QName
own name = in_package (codes "shapes") name

abbrev at : ℕ → ℕ → Pos
at line column = At (codes "shapes.go") line column

abbrev no_origin : OriginOf Text Text
no_origin = record { text = []; path = [] }

abbrev gives : ℕ → ℕ → Tree → Params
gives line column type = params (at line column) [] type no_params

abbrev element : Tree
element = parameter (own (codes "List.E"))

abbrev list_decl : Decl
list_decl = defined_of (at 16 6) (element ∷ [])
    (struct (codes "shapes")
    (fields no_origin (at 17 2) (codes "Item") element false []
    (fields no_origin (at 18 2) (codes "Next")
    (pointer (instance (named (own (codes "List"))) (types element no_types))) false [] no_fields))) []

abbrev shape_decl : Decl
shape_decl = defined_of (at 5 6) []
    (interface (codes "shapes") no_types
    (methods no_origin (at 6 2) (codes "Area") no_params (gives 6 9 (predeclared basics.Float64)) false
    (methods no_origin (at 7 2) (codes "Name") no_params (gives 7 9 (predeclared basics.String)) false no_methods))) []

abbrev sides_decl : Decl
sides_decl = constant_of (at 3 7) (predeclared basics.UntypedInt) (whole (pos 4))

abbrev square_decl : Decl
square_decl = defined_of (at 10 6) []
    (struct (codes "shapes") (fields no_origin (at 11 2) (codes "Side") (predeclared basics.Float64) false [] no_fields))
    (record {
      pos = at 14 17;
      name = codes "Area";
      recv = record { pos = at 14 7; name = codes "s"; type = named (own (codes "Square")) };
      sig = record {
        params = [];
        results = record { pos = at 14 24; name = []; type = predeclared basics.Float64 } ∷ [];
        variadic = false;
      };
    } ∷ [])

abbrev element_decl : Decl
element_decl = type_parameter_of (at 16 11) false (predeclared basics.Any)

abbrev shapes : Source
shapes = source (codes "shapes") (
    (own (codes "List"), list_decl) ∷ (own (codes "Shape"), shape_decl) ∷ (own (codes "Sides"), sides_decl)
    ∷ (own (codes "Square"), square_decl) ∷ (own (codes "List.E"), element_decl) ∷ [])

shapes_file : file_bytes shapes
    ≡ 105 ∷ 2 ∷ 76 ∷ 106 ∷ 9 ∷ 115 ∷ 104 ∷ 97 ∷ 112 ∷ 101 ∷ 115 ∷ 46 ∷ 103 ∷ 111 ∷ 6 ∷ 76 ∷ 105 ∷ 115 ∷ 116 ∷ 46 ∷
    69 ∷ 0 ∷ 4 ∷ 73 ∷ 116 ∷ 101 ∷ 109 ∷ 4 ∷ 78 ∷ 101 ∷ 120 ∷ 116 ∷ 4 ∷ 76 ∷ 105 ∷ 115 ∷ 116 ∷ 4 ∷ 65 ∷ 114 ∷ 101 ∷
    97 ∷ 4 ∷ 78 ∷ 97 ∷ 109 ∷ 101 ∷ 4 ∷ 83 ∷ 105 ∷ 100 ∷ 101 ∷ 1 ∷ 115 ∷ 6 ∷ 83 ∷ 113 ∷ 117 ∷ 97 ∷ 114 ∷ 101 ∷ 6 ∷
    115 ∷ 104 ∷ 97 ∷ 112 ∷ 101 ∷ 115 ∷ 5 ∷ 83 ∷ 104 ∷ 97 ∷ 112 ∷ 101 ∷ 5 ∷ 83 ∷ 105 ∷ 100 ∷ 101 ∷ 115 ∷ 9 ∷ 10 ∷
    17 ∷ 0 ∷ 28 ∷ 17 ∷ 10 ∷ 0 ∷ 1 ∷ 32 ∷ 35 ∷ 1 ∷ 38 ∷ 7 ∷ 17 ∷ 2 ∷ 10 ∷ 70 ∷ 0 ∷ 18 ∷ 32 ∷ 0 ∷ 17 ∷ 2 ∷ 4 ∷ 23 ∷
    43 ∷ 0 ∷ 17 ∷ 85 ∷ 26 ∷ 66 ∷ 0 ∷ 1 ∷ 32 ∷ 45 ∷ 0 ∷ 8 ∷ 17 ∷ 0 ∷ 2 ∷ 10 ∷ 26 ∷ 0 ∷ 33 ∷ 0 ∷ 1 ∷ 28 ∷ 17 ∷ 13 ∷
    25 ∷ 4 ∷ 38 ∷ 0 ∷ 1 ∷ 28 ∷ 17 ∷ 16 ∷ 84 ∷ 26 ∷ 22 ∷ 0 ∷ 69 ∷ 67 ∷ 30 ∷ 14 ∷ 0 ∷ 21 ∷ 6 ∷ 8 ∷ 7 ∷ 17 ∷ 1 ∷ 10 ∷
    46 ∷ 0 ∷ 43 ∷ 13 ∷ 0 ∷ 17 ∷ 0 ∷ 50 ∷ 17 ∷ 84 ∷ 26 ∷ 42 ∷ 0 ∷ 102 ∷ 1 ∷ 46 ∷ 16 ∷ 33 ∷ 39 ∷ 48 ∷ 112 ∷ 0 ∷ 1 ∷
    68 ∷ 17 ∷ 13 ∷ 80 ∷ 46 ∷ 66 ∷ 0 ∷ 0 ∷ 31 ∷ 1 ∷ 17 ∷ 57 ∷ 0 ∷ 5 ∷ 28 ∷ 29 ∷ 10 ∷ 100 ∷ 64 ∷ 58 ∷ 70 ∷ 63 ∷ 50 ∷
    83 ∷ []
unfolding layout place_type place_decl spelling_of
shapes_file = refl
