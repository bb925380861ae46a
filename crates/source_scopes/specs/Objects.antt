-- What the files of a package declare in it: its objects, in the order of the files and of their places.
use Rattle.std.specs.Prelude.{ℕ, suc, if◌then◌else◌, List, [], ◌∷◌, ◌++◌, Option, Some, None, map, codes}
use Rattle.std.specs.Prelude.{Bool, true, false, flat_map}
use Rattle.std.specs.Borrow.{Bor}
use Rattle.std.specs.Str.{bytes_eq}
use Rattle.source_trees.specs.Words.{Word}
use Rattle.source_trees.specs.Files.{WrittenImport, WrittenReceiver, WrittenTop, WrittenFile, constants, variables}
use Rattle.source_trees.specs.Files.{defined, alias, func}
use Rattle.source_scopes.specs.declared.objects.ObjectAt.{ObjectAt}
use Rattle.source_scopes.specs.declared.objects.ObjectKind.{ObjectKind}
use Rattle.source_scopes.specs.declared.objects.ObjectKind.TheVariants.{Constant as a_constant, Variable as a_variable}
use Rattle.source_scopes.specs.declared.objects.ObjectKind.TheVariants.{Defined as a_type, Alias as an_alias}
use Rattle.source_scopes.specs.declared.objects.ObjectKind.TheVariants.{Function as a_function}
use Rattle.source_scopes.specs.declared.table.Item.{Item}

-- an object, which may be called `_`
pub record Object : Type 0 where
  pub kind : ObjectKind
  pub file : ℕ
  pub name : Word

abbrev pub object : ObjectKind → ℕ → Word → Object
object kind file w = record { kind = kind; file = file; name = w }

abbrev pub object_at : Item ObjectAt → Object
object_at o = object o.what.kind o.what.file (record { text = o.name.now; at = o.what.at })

abbrev pub is_type_kind : ObjectKind → Bool
is_type_kind a_type = true
is_type_kind an_alias = true
is_type_kind _ = false

abbrev pub is_constant_kind : ObjectKind → Bool
is_constant_kind a_constant = true
is_constant_kind _ = false

-- A method is no object, and neither is a function `init`.
abbrev pub func_objects : ℕ → Option WrittenReceiver → Word → List Object
func_objects file (Some r) name = []
func_objects file None name = if bytes_eq name.text (codes "init") then [] else object a_function file name ∷ []

abbrev pub top_objects : ℕ → WrittenTop → List Object
top_objects file (constants c) = map (object a_constant file) c.names
top_objects file (variables v) = map (object a_variable file) v.names
top_objects file (defined d) = object a_type file d.name ∷ []
top_objects file (alias d) = object an_alias file d.name ∷ []
top_objects file (func f) = func_objects file f.receiver f.name

abbrev pub tops_objects : ℕ → List WrittenTop → List Object
tops_objects file tops = flat_map (top_objects file) tops

-- the objects of files, the first of which has this number
abbrev pub files_objects : ℕ → List WrittenFile → List Object
files_objects n [] = []
files_objects n (f ∷ fs) = tops_objects n f.tops ++ files_objects (suc n) fs

-- a package that a file imports: the name that it has there, and its path
pub record Imported : Type 0 where
  pub name : List ℕ
  pub path : List ℕ

abbrev pub import_by : List ℕ → Option Word → Option (List ℕ) → List Imported
import_by path (Some w) found = record { name = w.text; path = path } ∷ []
import_by path None (Some name) = record { name = name; path = path } ∷ []
import_by path None None = []

-- Without a name of its own an import has that of the package, where one is known by the path.
abbrev pub imports_in : (List ℕ → Option (List ℕ)) → List WrittenImport → List Imported
imports_in package_name imports = flat_map (λ i. import_by i.path i.name (package_name i.path)) imports

abbrev pub imported_as : Item (Bor (List ℕ)) → Imported
imported_as i = record { name = i.name.now; path = i.what.now }
