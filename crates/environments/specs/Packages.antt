-- What a package is: its parts, and its declarations by their names.
use Rattle.std.specs.Prelude.{◌≡◌, ◌≢◌, ℕ, ◌<◌, ◌≤◌, ◌^◌, ◌⊎◌, Bool, List, [], ◌++◌, Option, Some, nat_eq, slice_get}
use Rattle.std.specs.Prelude.{option_map, length, map, cond, codes, decimal}
use Rattle.std.specs.List.{All, Contains}
use Rattle.std.specs.Cmp.Lexicographic.{pointwise}
use Rattle.std.specs.Map.{lookup}
use Rattle.std.specs.List.Sorted.{IsStrictlyIncreasing}
use Rattle.wire_bytes.specs.Order.{Rise}
use Rattle.go_values.specs.declared.positions.Pos.{Pos}
use Rattle.go_values.specs.declared.qualified.QName.{QName}
use Rattle.go_values.specs.declared.source_files.FileInfo.{FileInfo}
use Rattle.type_terms.specs.declared.descriptors.Node.{Node}
use Rattle.type_terms.specs.declared.declarations.DeclNode.{DeclNode}
use Rattle.type_terms.specs.declared.declarations.DeclNode.TheVariants.{Parameter}
use Rattle.environments.specs.declared.packages.Package.{Package}
use Rattle.type_terms.specs.Trees.{Text, Tree, parameter, pointer, instance, type_list}
use Rattle.type_terms.specs.Arenas.{AllBelow}
use Rattle.type_terms.specs.Declarations.{function_of, defined_of, renamed_of, type_parameter_of, Decl, decl_nodes}
use Rattle.type_terms.specs.Declarations.{decl_of}
use Rattle.type_terms.specs.DeclarationRules.{IsProperDecl}
use Rattle.environments.specs.Environments.{Entry, declared}

-- the text of each is bytewise below those of all after it, so none stands twice
abbrev pub IsRising : {X : Type 0} → (X → Text) → List X → Type 0
IsRising text xs = Rise (map text xs)

-- sorted paths, each once, without that of unsafe
pub record IsImports (paths : List Text) : Type 0 where
  pub rises : IsRising (λ path. path) paths
  pub safe : Contains paths (codes "unsafe") → ⊥

-- The first line begins at 0, each other one behind the line before it, and none behind the end of the file.
pub record IsSourceFile (file : FileInfo) : Type 0 where
  pub begins : slice_get file.lines 0 ≡ Some 0
  pub rises : IsStrictlyIncreasing file.lines
  pub within : All (λ start. start ≤ file.size) file.lines
  pub few : length file.lines < 2 ^ 32

abbrev pub Named : Type 0
Named = Text × DeclNode

abbrev pub name_of : Named → Text
name_of named = named.0

-- the declaration with the name
abbrev pub package_decl : List Named → Text → Option DeclNode
package_decl decls name = lookup (pointwise nat_eq name) decls

abbrev pub package_entry : List Node → List Named → Text → Option Entry
package_entry nodes decls name = option_map (λ decl. declared (decl_of nodes decl)) (package_decl decls name)

abbrev pub package_names : Text → List Named → List QName
package_names path decls = map (λ decl. record { path = path; name = decl.0 }) decls

-- A name that isn't blank. Go's names have neither a dot nor a `$`.
abbrev pub IsPlain : Text → Type 0
IsPlain name = (name ≢ []) × (name ≢ codes "_") × All (λ c. (c ≢ 36) × (c ≢ 46)) name

-- what the export name of a type parameter ends with: its own name, or where that is blank `$` and its place in the
-- list
abbrev pub IsOwnName : ℕ → Text → Type 0
IsOwnName place own = IsPlain own ⊎ (own ≡ codes "$" ++ decimal place)

-- the owner's name, a dot and the own one
abbrev pub dotted : Text → Text → Text
dotted owner own = owner ++ codes "." ++ own

abbrev pub IsExportName : Text → Type 0
IsExportName name = (owner : Text) × (place : ℕ) × (own : Text) × IsOwnName place own × (name ≡ dotted owner own)

-- Each type of a list is a type parameter that is declared under its export name.
abbrev pub HoldsList : Text → List Named → Text → List Tree → Type 0
HoldsList path decls owner types = (place : ℕ) (type : Tree) → slice_get types place ≡ Some type
    → (own : Text) × IsOwnName place own × (type ≡ parameter (record { path = path; name = dotted owner own }))
    × ((pos : Pos) × (implicit : Bool) × (constraint : ℕ)
    × (package_decl decls (dotted owner own) ≡ Some (Parameter pos implicit constraint)))

abbrev pub arguments : Tree → List Tree
arguments (instance base args) = type_list args
arguments _ = []

-- the type parameters that a receiver of this type lists: the arguments of the type, or of that to which it points
abbrev pub receiver_parameters : Tree → List Tree
receiver_parameters (pointer type) = arguments type
receiver_parameters type = arguments type

-- The package holds the type parameters of a declaration, and those of its methods' receivers, whose owner is the
-- method. A type parameter itself stands under an export name.
abbrev pub HoldsParameters : Text → List Named → Text → Decl → Type 0
HoldsParameters path decls name (function_of pos tparams sig) = HoldsList path decls name tparams
HoldsParameters path decls name (defined_of pos tparams underlying methods) =
    HoldsList path decls name tparams
    × All (λ method. HoldsList path decls (dotted name method.name) (receiver_parameters method.recv.type)) methods
HoldsParameters path decls name (renamed_of pos tparams type) = HoldsList path decls name tparams
HoldsParameters path decls name (type_parameter_of pos implicit constraint) = IsExportName name
HoldsParameters path decls name _ = Unit {0}

-- The declarations of a path are sorted by name. The nodes of each are among these, it keeps the rules, and its type
-- parameters are declared too.
pub record DeclsStand (nodes : List Node) (path : Text) (decls : List Named) : Type 0 where
  pub rises : IsRising name_of decls
  pub below : (name : Text) (decl : DeclNode) → package_decl decls name ≡ Some decl
      → AllBelow (length nodes) (decl_nodes decl)
  pub proper : (name : Text) (decl : DeclNode) → package_decl decls name ≡ Some decl → IsProperDecl (decl_of nodes decl)
  pub parameters : (name : Text) (decl : DeclNode) → package_decl decls name ≡ Some decl
      → HoldsParameters path decls name (decl_of nodes decl)

-- The package keeps the rules of one, over these nodes.
pub record PackageStands (nodes : List Node) (whole : Package) : Type 0 where
  pub imports : IsImports whole.imports.items
  pub files : All IsSourceFile whole.files.items
  pub decls : DeclsStand nodes whole.path whole.decls.items

-- A package that is meant, of trees and no nodes.
pub record Meant : Type 0 where
  pub path : Text
  pub name : Text
  pub imports : List Text
  pub decls : List (Text × Decl)
  pub files : List FileInfo

abbrev pub meant_decls : List Node → List Named → List (Text × Decl)
meant_decls nodes decls = map (λ named. (named.0, decl_of nodes named.1)) decls

abbrev pub meant : List Node → Package → Meant
meant nodes whole = record {
  path = whole.path;
  name = whole.name;
  imports = whole.imports.items;
  decls = meant_decls nodes whole.decls.items;
  files = whole.files.items;
}

-- names of the package's path are the package's, and all others the base's
abbrev pub over_entries : Text → List Named → List Node → (QName → Option Entry) → QName → Option Entry
over_entries path decls nodes base q = cond (pointwise nat_eq q.path path) (package_entry nodes decls q.name) (base q)
