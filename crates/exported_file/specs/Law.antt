-- What the file of a package is to be.
use Rattle.std.specs.Prelude.{◌≡◌, ◌≢◌, ℕ, ◌^◌, ◌<◌, ◌⊎◌, List, [], ◌∷◌, length, Option, Some}
use Rattle.std.specs.List.{Contains}
use Rattle.go_values.specs.declared.qualified.QName.{QName}
use Rattle.type_terms.specs.Trees.{Text}
use Rattle.type_terms.specs.Declarations.{Decl}
use Rattle.environments.specs.Environments.{declared}
use Rattle.environments.specs.Packages.{Meant}
use Rattle.environments.specs.References.{Reached, reference_names}
use Rattle.basic_types.specs.BasicTypes.{Entries}
use Rattle.decl_spelling.specs.Spelling.{SpellsDecl}
use Rattle.name_index.specs.FullFile.{FullFile, Listed, listed}
use Rattle.name_index.specs.Envelope.{Envelope}
use Rattle.name_index.specs.Lookup.{IsListed}
use Rattle.written_types.specs.Written.{Target, decl_written}
use Rattle.exported_file.specs.Small.{IsWritable}
use Rattle.file_layout.specs.Layout.{other_paths}
use Rattle.file_layout.specs.Law.{paths_told, the_file, sections_of, name_of}
use Rattle.exported_file.specs.Exported.{first_names, basics, source, export_bytes}

module _ (target : Target) (whole : Meant) (entries : Entries) (names : List QName)
    (packages : Text → Option Text) where
  -- the names that the file needs
  abbrev pub Needed : QName → Type 0
  Needed = Reached entries (first_names whole)

  -- What the export asks for: each needed name is one of the names, and has a declaration that may be written; no path
  -- that is written is empty, but the own one; and the file's length has 63 bits.
  pub record CanBeExported : Type 0 where
    pub among : (q : QName) → Needed q → Contains names q
    pub decls : (q : QName) → Needed q
        → (decl : Decl) × (entries q ≡ Some (declared decl))
        × IsWritable (basics target whole entries names packages) decl
    pub paths : (path : Text) → Contains (paths_told (source target whole entries names packages)) path
        → (path ≢ []) ⊎ (path ≡ whole.path)
    pub short : length (export_bytes target whole entries names packages) < 2 ^ 63

  abbrev pub file : FullFile
  file = the_file (source target whole entries names packages)

  -- at this offset of the file what is written of the declaration is spelled
  abbrev pub IsSpelledAt : ℕ → Decl → Type 0
  IsSpelledAt offset decl =
      SpellsDecl
      (sections_of whole.path ([] ∷ other_paths (source target whole entries names packages)) file)
      (basics target whole entries names packages) offset (decl_written target decl)

  -- The bytes are a full file, whose index lists exactly the needed names, each once; at the offset of each is spelled
  -- what is written of its declaration; and the names to which it refers are listed too.
  pub record IsExport (bytes : List ℕ) : Type 0 where
    pub envelope : Envelope whole.path bytes file
    pub needed : (l : Listed) → Contains (listed file.packages) l → Needed (name_of l)
    pub all : (q : QName) → Needed q → (l : Listed) × Contains (listed file.packages) l × (name_of l ≡ q)
    pub once : (i j : ℕ) (path name : Text) (a b : ℕ) → IsListed file.packages i path name a
        → IsListed file.packages j path name b → (i ≡ j) × (a ≡ b)
    pub spelled : (l : Listed) → Contains (listed file.packages) l
        → (decl : Decl) × (entries (name_of l) ≡ Some (declared decl)) × IsSpelledAt l.offset decl
    pub closed : (l : Listed) (decl : Decl) (to : QName) → Contains (listed file.packages) l
        → entries (name_of l) ≡ Some (declared decl) → Contains (reference_names (decl_written target decl)) to
        → (other : Listed) × Contains (listed file.packages) other × (name_of other ≡ to)
