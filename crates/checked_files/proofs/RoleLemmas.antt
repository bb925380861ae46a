-- The role of a name by what was read of the first file that lists it.
use Rattle.std.proofs.Common.{◌≡◌, ℕ, List, map, Option, Some, None, Result, Ok, Err, option_map, slice_get, refl, sym, ap, ◌∙◌}
use Rattle.std.specs.Option.{option_and_then}
use Rattle.std.specs.List.{AllZip}
use Rattle.std.proofs.lemmas.Option.{slice_get-map}
use Rattle.go_values.specs.declared.qualified.QName.{QName}
use Rattle.wire_bytes.specs.declared.fault.ByteFault.{ByteFault}
use Rattle.type_terms.specs.declared.descriptors.Node.{Node}
use Rattle.type_terms.specs.Trees.{Tree}
use Rattle.type_terms.specs.Declarations.{Decl}
use Rattle.environments.specs.declared.mentions.Role.{Role}
use Rattle.name_index.specs.FullFile.{FullFile, listed}
use Rattle.name_index.specs.Lookup.{as_listed}
use Rattle.decl_spelling.specs.Declarations.{decl_at}
use Rattle.decl_spelling.specs.Leaving.{types_read}
use Rattle.dangling_types.specs.FirstDangling.{role_behind}
use Rattle.session_files.specs.FileSections.{sections_in}
use Rattle.session_files.specs.Sessions.{Opened}
use Rattle.session_files.specs.OpenSessions.{IsPlace}
use Rattle.session_files.specs.Names.{stands_at, comes_down}
use Rattle.session_files.specs.declared.files.Place.{Place}
use Rattle.session_env.specs.SessionEntries.{entry_by, entry_at, session_entries}
use Rattle.checked_files.specs.Checking.{Outcome, outcome_at}
use Rattle.checked_files.specs.Reading.{outcome, IsReadAs, IsReadOf, AreRead, role_in}
use Rattle.checked_files.specs.declared.reading.Read.{Read}
use Rattle.checked_files.proofs.ZipLemmas.{Beside, zip_at}

role_by : (read : List Tree) (is : Outcome) → role_behind (Some (entry_by read is)) ≡ role_in is
role_by read (Ok decl) = refl
role_by read (Err fault) = refl

pub role_of_none : (files : List Opened) (q : QName) (path name : List ℕ) → path ≡ q.path → name ≡ q.name → stands_at files path name ≡ None → role_behind (session_entries files q) ≡ None
role_of_none files q path name is_path is_name none =
    ap role_behind (ap (option_map (entry_at (comes_down files))) (sym (ap (λ p. stands_at files p name) is_path ∙ ap (stands_at files q.path) is_name) ∙ none))

-- a list of lists that stand in something
pub there_by : {V X : Type 0} (items : V → List X) (xs : List V) (f n : ℕ) → option_and_then (λ v. slice_get (items v) n) (slice_get xs f) ≡ option_and_then (λ r. slice_get r n) (slice_get (map items xs) f)
there_by {V} items xs f n = go (slice_get xs f) ∙ sym (ap (option_and_then (λ r. slice_get r n)) (slice_get-map items xs f))
  where
    go : (o : Option V) → option_and_then (λ v. slice_get (items v) n) o ≡ option_and_then (λ r. slice_get r n) (option_map items o)
    go None = refl
    go (Some v) = refl

-- what was read for the name with this number of the file with this number
pub record ReadThere (nodes : List Node) (all : List (List Read)) (file number : ℕ) (is : Outcome) : Type 0 where
  pub read : Read
  pub there : option_and_then (λ reads. slice_get reads number) (slice_get all file) ≡ Some read
  pub same : outcome nodes read ≡ is

module _ (nodes : List Node) (files : List Opened) (all : List (List Read)) (are : AreRead nodes files all) (q : QName) (path name : List ℕ) (is_path : path ≡ q.path) (is_name : name ≡ q.name)
    (place : Place) (is : IsPlace files path name place) where
  abbrev spelled : Outcome
  spelled = decl_at (sections_in is.opened.file) (comes_down files) place.offset

  there : ReadThere nodes all place.file place.number spelled
  there =
      let beside = zip_at (λ reads (o : Opened). IsReadOf nodes files o.file reads) all files place.file is.opened are is.stands.there in
      let read = zip_at (λ read l. IsReadAs nodes read (outcome_at files is.opened.file l)) beside.x (listed is.opened.file.packages) place.number (as_listed path name place.offset) beside.is is.stands.listed in
      record { read = read.x; there = ap (option_and_then (λ reads. slice_get reads place.number)) beside.there ∙ read.there; same = read.is.same }

  pub role_there : (role : Option Role) → ((read : Read) → option_and_then (λ reads. slice_get reads place.number) (slice_get all place.file) ≡ Some read → role ≡ role_in (outcome nodes read))
      → role ≡ role_behind (session_entries files q)
  role_there role told =
      let r = there in
      let types = types_read (sections_in place.image.now) (comes_down files) place.offset in
      let at : stands_at files q.path q.name ≡ Some (place.image.now, place.offset)
      = sym (ap (λ p. stands_at files p name) is_path ∙ ap (stands_at files q.path) is_name) ∙ is.at in
      let here : decl_at (sections_in place.image.now) (comes_down files) place.offset ≡ spelled
      = ap (λ (f : FullFile). decl_at (sections_in f) (comes_down files) place.offset) (sym is.its_file) in
      told r.read r.there
      ∙ ap role_in (r.same ∙ sym here)
      ∙ sym (role_by types (decl_at (sections_in place.image.now) (comes_down files) place.offset))
      ∙ ap role_behind (sym (ap (option_map (entry_at (comes_down files))) at))
