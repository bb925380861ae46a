-- The file of a package: what is written of its declarations and of those that they reach.
use Rattle.std.specs.Prelude.{ℕ, List, Bool, not, ◌&&◌, map, nat_eq, Option, Some, None}
use Rattle.std.specs.List.{filter, list_any}
use Rattle.go_values.specs.declared.qualified.QName.{QName}
use Rattle.type_terms.specs.Trees.{Text, named}
use Rattle.type_terms.specs.Declarations.{Decl}
use Rattle.environments.specs.Environments.{Entry, declared, damaged}
use Rattle.environments.specs.Exported.{exported}
use Rattle.environments.specs.Packages.{Meant}
use Rattle.basic_types.specs.BasicTypes.{Entries, basic_type}
use Rattle.decl_spelling.specs.Sections.{Basics}
use Rattle.export_order.specs.Order.{in_order}
use Rattle.written_types.specs.Written.{Target, decl_written}
use Rattle.file_layout.specs.Layout.{Source, file_bytes}

-- ---- what is written

abbrev pub entry_written : Target → Option Entry → Option Entry
entry_written target (Some (declared decl)) = Some (declared (decl_written target decl))
entry_written target (Some (damaged fault read)) = Some (damaged fault read)
entry_written target None = None

abbrev pub decl_behind : Option Entry → Option Decl
decl_behind (Some (declared decl)) = Some decl
decl_behind (Some (damaged fault read)) = None
decl_behind None = None

-- ---- the first names

-- The names of type parameters hold a dot.
abbrev pub has_dot : Text → Bool
has_dot name = list_any (nat_eq 46) name

-- the exported names of a package that hold no dot, in bytewise order
abbrev pub first_names : Meant → List QName
first_names whole =
    map (λ name. record { path = whole.path; name = name })
    (filter (λ name. exported name && not (has_dot name)) (map (λ decl. decl.0) whole.decls))

-- ---- the file

-- The declarations of an environment that has some names and no others, and the names of its packages.
module _ (target : Target) (whole : Meant) (entries : Entries) (names : List QName)
    (packages : Text → Option Text) where
  abbrev pub written_entries : Entries
  written_entries q = entry_written target (entries q)

  -- the basic types of names, as a reader of constants wants them
  abbrev pub basics : Basics
  basics path name = basic_type entries names (named (record { path = path; name = name }))

  abbrev pub source : Source
  source = record {
    own = whole.path;
    name = whole.name;
    order = in_order written_entries names (first_names whole);
    decls = λ q. decl_behind (written_entries q);
    basics = basics;
    packages = packages;
  }

  abbrev pub export_bytes : List ℕ
  export_bytes = file_bytes source
