-- Reading all that files list, one after the other.
use Rattle.std.proofs.Common.{◌≡◌, ℕ, ◌+◌, ◌≤◌, List, [], ◌∷◌, ◌++◌, take, length, Option, Some, None, Result, Ok, Err, option_map, slice_get, refl, sym, ap, ◌∙◌, subst}
use Rattle.std.specs.Prelude.{IsErrOf}
use Rattle.std.specs.List.{AllZip, Contains}
use Rattle.std.proofs.lemmas.List.{take_all}
use Rattle.std.proofs.lemmas.Option.{slice_get_within, get_or_from_slice_get}
use Rattle.type_terms.specs.declared.descriptors.Node.{Node}
use Rattle.type_terms.specs.Additions.{AddsOnly, Outgrows}
use Rattle.type_terms.specs.Arenas.{Contents, Extends}
use Rattle.type_terms.specs.Extensions.{extends_itself, extends_again, extends_decl, extends_below}
use Rattle.type_terms.specs.Trees.{Tree}
use Rattle.environments.specs.KeptLaws.{adds_nothing, adds_again, adds_wider, listed_add, listed_outgrow, outgrown_before}
use Rattle.environments.specs.OpenedTypes.{AddsAmong, OutgrowsAmong}
use Rattle.name_index.specs.FullFile.{FullFile, Listed, listed}
use Rattle.decl_spelling.specs.Leaving.{types_read}
use Rattle.decl_reader.specs.OpenReaders.{Remembers}
use Rattle.decl_reader.specs.declared.open_reader.OpenReader.{OpenReader}
use Rattle.session_files.specs.FileSections.{sections_in}
use Rattle.session_files.specs.Sessions.{Opened}
use Rattle.session_files.specs.Names.{comes_down}
use Rattle.checked_files.specs.Checking.{Outcome, outcome_at, OpensIn, OpensListed}
use Rattle.checked_files.specs.Reading.{outcome, IsInside, IsReadAs, IsReadOf, AreRead}
use Rattle.checked_files.specs.declared.fault.CheckFault.{CheckFault}
use Rattle.checked_files.specs.declared.fault.CheckFault.TheVariants.{OutOfMemory}
use Rattle.checked_files.specs.declared.reading.Read.{Read}
use Rattle.checked_files.specs.declared.reading.Read.TheVariants.{Spelled, Damaged}
use Rattle.checked_files.proofs.ZipLemmas.{zip_push, zip_wider, take_next}

held : {X : Type 0} (xs : List X) (i : ℕ) (x : X) → slice_get xs i ≡ Some x → Contains xs x
held xs i x at = (i, slice_get_within xs i x at, get_or_from_slice_get xs i x x at)

-- ---- as the arena grows

read_grown : (old new : Contents) → Extends old new → (read : Read) (is : Outcome) → IsReadAs old.nodes read is → IsReadAs new.nodes read is
read_grown old new grown (Spelled node) is was = record {
  same = ap (λ d. Ok d) (extends_decl old new grown node was.inside) ∙ was.same;
  inside = extends_below old new grown _ was.inside;
}
read_grown old new grown (Damaged fault) is was = record { same = was.same; inside = tt }

module _ (files : List Opened) (file : FullFile) where
  abbrev pub Reads : List Node → Read → Listed → Type 0
  Reads nodes read l = IsReadAs nodes read (outcome_at files file l)

  pub file_grown : (old new : Contents) → Extends old new → (reads : List Read) (ls : List Listed) → AllZip (Reads old.nodes) reads ls → AllZip (Reads new.nodes) reads ls
  file_grown old new grown reads ls all = zip_wider (Reads old.nodes) (Reads new.nodes) (λ read l. read_grown old new grown read (outcome_at files file l)) reads ls all

-- ---- one file

pub record ReadSoFar (files : List Opened) (file : FullFile) (n : ℕ) (reads : List Read) (reader : OpenReader) (start now : Contents) : Type 0 where
  pub read : AllZip (Reads files file now.nodes) reads (take n (listed file.packages))
  pub remembers : Remembers (sections_in file) now.nodes reader
  pub extends : Extends start now
  pub adds : AddsAmong (OpensIn files file) start now

pub nothing_read : (files : List Opened) (file : FullFile) (reader : OpenReader) (arena : Contents) → Remembers (sections_in file) arena.nodes reader → ReadSoFar files file 0 [] reader arena arena
nothing_read files file reader arena kept = record {
  read = none (listed file.packages);
  remembers = kept;
  extends = extends_itself arena;
  adds = adds_nothing (OpensIn files file) arena;
}
  where
    none : (ls : List Listed) → AllZip (Reads files file arena.nodes) [] (take 0 ls)
    none [] = tt
    none (l ∷ ls) = tt

-- the name with this number is looked at
module _ (files : List Opened) (file : FullFile) (n : ℕ) (l : Listed) (at : slice_get (listed file.packages) n ≡ Some l) where
  opens : (t : Tree) → Contains (types_read (sections_in file) (comes_down files) l.offset) t → OpensIn files file t
  opens t there = (l, held (listed file.packages) n l at, there)

  module _ (reads : List Read) (reader : OpenReader) (start now : Contents) (so : ReadSoFar files file n reads reader start now) (next : Contents) (grown : Extends now next)
      (adds : AddsOnly (types_read (sections_in file) (comes_down files) l.offset) now next) where
    pub added : AddsAmong (OpensIn files file) start next
    added = adds_again (OpensIn files file) start now next grown so.adds (listed_add _ (OpensIn files file) now next opens adds)

    pub one_read : (read : Read) (after : OpenReader) → IsReadAs next.nodes read (outcome_at files file l) → Remembers (sections_in file) next.nodes after
        → ReadSoFar files file (n + 1) (reads ++ read ∷ []) after start next
    one_read read after is kept = record {
      read = subst (AllZip (Reads files file next.nodes) (reads ++ read ∷ [])) (sym (take_next (listed file.packages) n l at))
          (zip_push (Reads files file next.nodes) reads (take n (listed file.packages)) read l (file_grown files file now next grown reads _ so.read) is);
      remembers = kept;
      extends = extends_again start now next so.extends grown;
      adds = added;
    }

  pub outgrown_here : (reads : List Read) (reader : OpenReader) (start now : Contents) → ReadSoFar files file n reads reader start now
      → Outgrows now (types_read (sections_in file) (comes_down files) l.offset) → OutgrowsAmong (OpensIn files file) start
  outgrown_here reads reader start now so many =
      outgrown_before (OpensIn files file) (OpensIn files file) start now (λ t is. is) so.extends so.adds (listed_outgrow _ (OpensIn files file) now opens many)

pub all_read : (files : List Opened) (file : FullFile) (n : ℕ) (reads : List Read) (reader : OpenReader) (start now : Contents) → ReadSoFar files file n reads reader start now
    → length (listed file.packages) ≤ n → IsReadOf now.nodes files file reads
all_read files file n reads reader start now so long = subst (AllZip (Reads files file now.nodes) reads) (take_all n (listed file.packages) long) so.read

-- ---- all files

pub record FilesReadSoFar (files : List Opened) (n : ℕ) (all : List (List Read)) (start now : Contents) : Type 0 where
  pub read : AllZip (λ reads (o : Opened). IsReadOf now.nodes files o.file reads) all (take n files)
  pub extends : Extends start now
  pub adds : AddsAmong (OpensListed files) start now

pub no_file_read : (files : List Opened) (arena : Contents) → FilesReadSoFar files 0 [] arena arena
no_file_read files arena = record {
  read = none files;
  extends = extends_itself arena;
  adds = adds_nothing (OpensListed files) arena;
}
  where
    none : (some : List Opened) → AllZip (λ reads (o : Opened). IsReadOf arena.nodes files o.file reads) [] (take 0 some)
    none [] = tt
    none (o ∷ some) = tt

module _ (files : List Opened) (n : ℕ) (o : Opened) (at : slice_get files n ≡ Some o) where
  opens_file : (t : Tree) → OpensIn files o.file t → OpensListed files t
  opens_file t there = (o, held files n o at, there)

  module _ (all : List (List Read)) (start now : Contents) (so : FilesReadSoFar files n all start now) (next : Contents) (grown : Extends now next)
      (adds : AddsAmong (OpensIn files o.file) now next) where
    pub files_added : AddsAmong (OpensListed files) start next
    files_added = adds_again (OpensListed files) start now next grown so.adds (adds_wider (OpensIn files o.file) (OpensListed files) now next opens_file adds)

    pub one_file_read : (reads : List Read) → IsReadOf next.nodes files o.file reads → FilesReadSoFar files (n + 1) (all ++ reads ∷ []) start next
    one_file_read reads is = record {
      read = subst (AllZip (λ reads (o : Opened). IsReadOf next.nodes files o.file reads) (all ++ reads ∷ [])) (sym (take_next files n o at))
          (zip_push (λ reads (o : Opened). IsReadOf next.nodes files o.file reads) all (take n files) reads o
          (zip_wider _ _ (λ reads (o : Opened). file_grown files o.file now next grown reads (listed o.file.packages)) all (take n files) so.read) is);
      extends = extends_again start now next so.extends grown;
      adds = files_added;
    }

  pub files_outgrown : (all : List (List Read)) (start now : Contents) → FilesReadSoFar files n all start now
      → OutgrowsAmong (OpensIn files o.file) now → OutgrowsAmong (OpensListed files) start
  files_outgrown all start now so many = outgrown_before (OpensIn files o.file) (OpensListed files) start now opens_file so.extends so.adds many

pub all_files_read : (files : List Opened) (n : ℕ) (all : List (List Read)) (start now : Contents) → FilesReadSoFar files n all start now
    → length files ≤ n → AreRead now.nodes files all
all_files_read files n all start now so long = subst (AllZip (λ reads (o : Opened). IsReadOf now.nodes files o.file reads) all) (take_all n files long) so.read

-- the file with a number, by what is lent of it
pub record IsFileOf (files : List Opened) (n : ℕ) (file : FullFile) : Type 0 where
  pub o : Opened
  pub there : slice_get files n ≡ Some o
  pub same : o.file ≡ file

pub file_of : (files : List Opened) (n : ℕ) (file : FullFile) → Some file ≡ option_map (λ (o : Opened). o.file) (slice_get files n) → IsFileOf files n file
file_of files n file lent = by (slice_get files n) refl lent
  where
    by : (o : Option Opened) → slice_get files n ≡ o → Some file ≡ option_map (λ (o : Opened). o.file) o → IsFileOf files n file
    by None at e = absurd cc
    by (Some o) at e = record { o = o; there = at; same = cc }

module _ (files : List Opened) (n : ℕ) (file : FullFile) (lent : Some file ≡ option_map (λ (o : Opened). o.file) (slice_get files n)) (all : List (List Read)) (start now : Contents)
    (so : FilesReadSoFar files n all start now) where
  pub lent_added : (next : Contents) → Extends now next → AddsAmong (OpensIn files file) now next → AddsAmong (OpensListed files) start next
  lent_added next grown adds =
      let at = file_of files n file lent in
      files_added files n at.o at.there all start now so next grown (subst (λ f. AddsAmong (OpensIn files f) now next) (sym at.same) adds)

  pub lent_read : (next : Contents) → Extends now next → AddsAmong (OpensIn files file) now next → (reads : List Read) → IsReadOf next.nodes files file reads
      → FilesReadSoFar files (n + 1) (all ++ reads ∷ []) start next
  lent_read next grown adds reads is =
      let at = file_of files n file lent in
      one_file_read files n at.o at.there all start now so next grown (subst (λ f. AddsAmong (OpensIn files f) now next) (sym at.same) adds)
      reads (subst (λ f. IsReadOf next.nodes files f reads) (sym at.same) is)

  pub lent_outgrown : OutgrowsAmong (OpensIn files file) now → OutgrowsAmong (OpensListed files) start
  lent_outgrown many =
      let at = file_of files n file lent in
      files_outgrown files n at.o at.there all start now so (subst (λ f. OutgrowsAmong (OpensIn files f) now) (sym at.same) many)

-- ---- faults that pass through

abbrev fault_of : {X : Type 0} → Result X CheckFault → CheckFault
fault_of (Ok x) = OutOfMemory
fault_of (Err e) = e

pub passed : {X Y : Type 0} (r : Result X CheckFault) (s : Result Y CheckFault) (a b fault : CheckFault) → r ≡ Err a → a ≡ b → s ≡ Err b → IsErrOf r fault → IsErrOf s fault
passed r s a b fault r_is same s_is wants = s_is ∙ ap (λ (e : CheckFault). Err e) (sym same ∙ ap fault_of (sym r_is ∙ wants))
