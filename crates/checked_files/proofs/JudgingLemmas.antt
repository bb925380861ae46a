-- Verdicts on all that was read, one after the other.
use Rattle.std.proofs.Common.{List, map, Result, Ok, Err, subst}
use Rattle.std.specs.Prelude.{IfOk}
use Rattle.std.specs.List.{AllZip, AllByRecursion}
use Rattle.type_terms.specs.declared.descriptors.Node.{Node}
use Rattle.name_index.specs.FullFile.{listed}
use Rattle.session_files.specs.Sessions.{Opened}
use Rattle.session_env.specs.SessionEntries.{session_entries}
use Rattle.checked_files.specs.Checking.{outcome_at, flaw_of, flaw_at, Says, AreSaid}
use Rattle.checked_files.specs.Reading.{IsInside, IsReadAs, IsReadOf, AreRead, Judges}
use Rattle.checked_files.specs.declared.reading.Read.{Read}
use Rattle.checked_files.specs.declared.checking.Verdict.{Verdict}
use Rattle.checked_files.proofs.ZipLemmas.{zip_left, zip_join, zip_unmap}

module _ (nodes : List Node) (files : List Opened) where
  file_inside : (reads : List Read) (o : Opened) → IsReadOf nodes files o.file reads → AllByRecursion (IsInside nodes) reads
  file_inside reads o is = zip_left (λ read l. IsReadAs nodes read (outcome_at files o.file l)) (IsInside nodes) (λ read l was. was.inside) reads (listed o.file.packages) is

  file_said : (reads : List Read) (o : Opened) (verdicts : List Verdict) → IsReadOf nodes files o.file reads → AllZip (Judges nodes (session_entries files)) reads verdicts
      → AreSaid nodes files o.file verdicts
  file_said reads o verdicts is judged =
      zip_join (λ read l. IsReadAs nodes read (outcome_at files o.file l)) (Judges nodes (session_entries files)) (λ verdict l. Says nodes verdict (flaw_at files o.file l))
      (λ read l verdict was says. subst (λ is. Says nodes verdict (flaw_of (session_entries files) is)) was.same says)
      reads (listed o.file.packages) verdicts is judged

  -- lists that stand in something
  module _ {V : Type 0} (reads_of : V → List Read) (all : List V) (are : AreRead nodes files (map reads_of all)) where
    read_of : AllZip (λ v (o : Opened). IsReadOf nodes files o.file (reads_of v)) all files
    read_of = zip_unmap (λ reads (o : Opened). IsReadOf nodes files o.file reads) reads_of all files are

    pub all_inside : AllByRecursion (λ v. AllByRecursion (IsInside nodes) (reads_of v)) all
    all_inside = zip_left _ (λ v. AllByRecursion (IsInside nodes) (reads_of v)) (λ v o is. file_inside (reads_of v) o is) all files read_of

    pub all_said : {W : Type 0} (verdicts_of : W → List Verdict) (verdicts : List W) → AllZip (λ v w. AllZip (Judges nodes (session_entries files)) (reads_of v) (verdicts_of w)) all verdicts
        → AllZip (λ w (o : Opened). AreSaid nodes files o.file (verdicts_of w)) verdicts files
    all_said verdicts_of verdicts judged =
        zip_join (λ v (o : Opened). IsReadOf nodes files o.file (reads_of v)) (λ v w. AllZip (Judges nodes (session_entries files)) (reads_of v) (verdicts_of w))
        (λ w (o : Opened). AreSaid nodes files o.file (verdicts_of w)) (λ v o w is said. file_said (reads_of v) o (verdicts_of w) is said) all files verdicts read_of judged

pub if_ok_then : {T E : Type 0} (P Q : T → Type 0) (r : Result T E) → ((x : T) → P x → Q x) → IfOk r P → IfOk r Q
if_ok_then P Q (Ok x) more is = more x is
if_ok_then P Q (Err e) more is = tt
