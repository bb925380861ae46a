-- What a session has for names, as an environment.
use Rattle.std.specs.Prelude.{List, Option, Result, Ok, Err}
use Rattle.std.specs.Option.{option_map}
use Rattle.go_values.specs.declared.qualified.QName.{QName}
use Rattle.wire_bytes.specs.declared.fault.ByteFault.{ByteFault}
use Rattle.type_terms.specs.Trees.{Tree}
use Rattle.type_terms.specs.Declarations.{Decl}
use Rattle.environments.specs.Environments.{Entry, declared, damaged}
use Rattle.decl_spelling.specs.Sections.{Basics}
use Rattle.decl_spelling.specs.Declarations.{decl_at}
use Rattle.decl_spelling.specs.Leaving.{types_read}
use Rattle.session_files.specs.FileSections.{sections_in}
use Rattle.session_files.specs.Sessions.{Opened}
use Rattle.session_files.specs.Names.{At, stands_at, comes_down}

-- a declaration, or a fault with the types that were read before it
abbrev pub entry_by : List Tree → Result Decl ByteFault → Entry
entry_by read (Ok decl) = declared decl
entry_by read (Err fault) = damaged fault read

-- what is spelled at an offset of a file
abbrev pub entry_at : Basics → At → Entry
entry_at basics at =
    entry_by (types_read (sections_in at.0) basics at.1) (decl_at (sections_in at.0) basics at.1)

-- what the first file that lists the name has there
abbrev pub session_entries : List Opened → QName → Option Entry
session_entries files q = option_map (entry_at (comes_down files)) (stands_at files q.path q.name)
