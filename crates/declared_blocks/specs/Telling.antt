-- What is told of a declaration, over an environment's entries.
use Rattle.std.specs.Prelude.{◌≡◌, List, Bool, Option, Result, Ok, Err}
use Rattle.go_values.specs.declared.qualified.QName.{QName}
use Rattle.type_terms.specs.Arenas.{Contents}
use Rattle.type_terms.specs.Declarations.{Decl, constant_of, defined_of}
use Rattle.type_terms.specs.Trees.{Tree, named}
use Rattle.environments.specs.declared.declaring.EnvError.{EnvError}
use Rattle.basic_types.specs.BasicTypes.{Entries, IsReached, basic_type}
use Rattle.basic_types.specs.Calls.{IsBasicOf}
use Rattle.written_types.specs.Written.{full as full_file, written, decl_written}
use Rattle.decl_spelling.specs.Sections.{Basics}
use Rattle.decl_spelling.specs.Constants.{basic_type as spelled_basic}
use Rattle.decl_spelling.specs.Declarations.{has_methods}
use Rattle.block_writer.specs.declared.declarations.Told.{Told}

-- the basic types of names, as `exported_file` has them
abbrev pub basics_over : Entries → List QName → Basics
basics_over entries names path name = basic_type entries names (named (record { path = path; name = name }))

-- what is told is so
abbrev pub IsToldOf : Basics → Decl → Told → Type 0
IsToldOf basics (constant_of pos type value) told = told.basic ≡ spelled_basic basics type
IsToldOf basics (defined_of pos tparams underlying methods) told = told.has_methods ≡ has_methods underlying
IsToldOf basics _ told = Unit {0}

-- the names for which an environment may be asked: those on the way from a constant's type to its basic type
abbrev pub Asks : Entries → Decl → QName → Type 0
Asks entries (constant_of pos type value) q = IsReached entries type q
Asks entries _ q = ⊥

-- Why nothing is told: the environment gives no declaration of a name on the way.
abbrev pub StopsAt : Entries → Decl → Contents → Option Bool → EnvError → Type 0
StopsAt entries (constant_of pos type value) arena full fault = IsBasicOf entries type arena full (Err fault)
StopsAt entries _ arena full fault = ⊥

-- what an answer says of a declaration, of which what is written is put, and of the arena and the flag at exit
abbrev pub Tells : Entries → List QName → Decl → Contents → Option Bool → Result Told EnvError → Type 0
Tells entries names decl arena full (Ok told) = IsToldOf (basics_over entries names) (decl_written full_file decl) told
Tells entries names decl arena full (Err fault) = StopsAt entries decl arena full fault

-- the same of a constant of this type
abbrev pub TellsConstant : Entries → List QName → Tree → Contents → Option Bool → Result Told EnvError → Type 0
TellsConstant entries names type arena full (Ok told) =
    told.basic ≡ spelled_basic (basics_over entries names) (written full_file type)
TellsConstant entries names type arena full (Err fault) = IsBasicOf entries type arena full (Err fault)
