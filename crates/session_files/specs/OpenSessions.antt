-- A session as it is kept.
use Rattle.std.specs.Prelude.{◌≡◌, ℕ, ◌<◌, ◌≤◌, List, length, map, Option, Some}
use Rattle.std.specs.Option.{option_map}
use Rattle.std.specs.String.{string_bytes}
use Rattle.session_files.specs.Sessions.{Opened, AreSound, StandsIn}
use Rattle.session_files.specs.Names.{stands_at}
use Rattle.go_values.specs.declared.qualified.QName.{QName}
use Rattle.code_tables.specs.declared.predeclared.Basic.{Basic}
use Rattle.session_files.specs.Ways.{basic_at}
use Rattle.session_files.specs.Index.{Spot, IsIndex, Key}
use Rattle.session_files.specs.PathIndex.{IsPathIndex}
use Rattle.session_files.specs.declared.files.SessionFile.{SessionFile}
use Rattle.session_files.specs.declared.files.Place.{Place}
use Rattle.session_files.specs.declared.index.NameKey.{NameKey}
use Rattle.session_files.specs.declared.limits.TheConstants.{MOST_FILES}

abbrev pub opened_of : SessionFile → Opened
opened_of f = record { label = string_bytes f.label; file = f.image }

abbrev pub all_opened : List SessionFile → List Opened
all_opened files = map opened_of files

-- They are files of bytes, no more than a session may have. There is an index over their names, and one over the paths
-- of their packages. It is known what each name comes down to.
pub record IsSession (files : List Opened) (index : List Spot) (basics : List (Option Basic)) (paths : List Spot)
    : Type 0 where
  pub sound : AreSound files
  pub few : length files ≤ MOST_FILES
  pub indexed : IsIndex files index
  pub known : basics ≡ map (basic_at files) index
  pub paths_indexed : IsPathIndex files paths

-- where the first declaration of a name stands
pub record IsPlace (files : List Opened) (path name : List ℕ) (place : Place) : Type 0 where
  pub opened : Opened
  pub stands : StandsIn files path name place.file place.number opened place.offset
  pub its_file : opened.file ≡ place.image.now
  pub at : stands_at files path name ≡ Some (place.image.now, place.offset)
  pub inside : place.offset < place.image.now.body.len

-- ---- the index, as it is made

abbrev pub key_of : NameKey → Key
key_of key = record {
  qname = record { path = key.path.now; name = key.name.now };
  file = key.file;
  number = key.number;
}

abbrev pub last_name : Option NameKey → Option QName
last_name last = option_map (λ key. (key_of key).qname) last
