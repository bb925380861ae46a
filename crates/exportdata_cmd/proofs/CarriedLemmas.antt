-- From what the steps of a run leave to how it ends.
use Rattle.std.proofs.Common.{◌≡◌, ◌≢◌, ℕ, ◌⊎◌, inl, inr, List, [], take, Option, IsSome, Result, Ok, Err, refl}
use Rattle.std.proofs.Common.{sym, ◌∙◌, ap, subst}
use Rattle.std.specs.String.{string_bytes}
use Rattle.outside.specs.Counts.{Rose}
use Rattle.outside.specs.Files.{Held}
use Rattle.outside.specs.Sinks.{SinkState, Wrote}
use Rattle.command_words.specs.Texts.{Word}
use Rattle.command_words.specs.Forms.{Request, IsForm, IsWrongWord}
use Rattle.session_files.specs.Sessions.{Opened}
use Rattle.session_files.specs.Loading.{Word as FileWord, Refusal, too_many_files, too_large, missing, failed, damaged, IsRefused, IsCause}
use Rattle.session_files.specs.declared.loading.LoadError.{LoadError}
use Rattle.session_files.specs.declared.loading.LoadError.TheVariants as faults
use Rattle.session_files.proofs.LoadLaws.{refused_settled, IsFailed}
use Rattle.exportdata_cmd.specs.Printed.{Line}
use Rattle.exportdata_cmd.specs.Endings.{Ending, output_end, end_of}
use Rattle.exportdata_cmd.specs.Sources.{files_asked, refusal_end, load_end, IsRefusalEnd}
use Rattle.exportdata_cmd.specs.Due.{Yields, Due}
use Rattle.exportdata_cmd.specs.Running.{AreFirstDue, MayEnd, IsOutgrown, FallsShort, EndedAs, BrokeOff}
use Rattle.exportdata_cmd.specs.Carried.{Halted, Answered, IsLoaded, Owes, Carried, ReportsOf}
use Rattle.exportdata_cmd.specs.declared.exits.Status.{Status}
use Rattle.exportdata_cmd.specs.declared.exits.Status.TheVariants.{Done, Refused, Files, Output as OutputStatus}
use Rattle.exportdata_cmd.specs.declared.error_line.ErrorLine.{ErrorLine}
use Rattle.exportdata_cmd.specs.declared.error_line.ErrorLine.TheVariants.{WrongWord, Missing, CannotRead, Damaged}
use Rattle.exportdata_cmd.specs.declared.error_line.ErrorLine.TheVariants.{LimitFiles, LimitBytes, LimitNodes, NoMemory}
use Rattle.exportdata_cmd.specs.declared.command.Stop.{Stop}
use Rattle.exportdata_cmd.specs.declared.command.Stop.TheVariants.{Output, Error}
use Rattle.exportdata_cmd.proofs.PuttingLemmas.{wrote_nothing}
use Rattle.exportdata_cmd.proofs.DueLemmas.{yields_either}
use Rattle.exportdata_cmd.proofs.RunningLemmas.{unread, complete}

abbrev after_lines : List Line → Ending → Ending
after_lines lines end = record end { output = lines }

-- ERROR LINES THAT ARE OWED

-- what an error says of the files is the end that it makes
load_ends : (Is : Refusal → Type 0) (error : LoadError) → IsCause Is error → IsRefusalEnd Is (load_end error)
load_ends Is (faults.Missing file) is = inl (missing (string_bytes file), is, refl)
load_ends Is (faults.Failed file) is = inl (failed (string_bytes file), is, refl)
load_ends Is (faults.Damaged label fault) is = inl (damaged (string_bytes label) fault, is, refl)
load_ends Is faults.TooManyFiles is = inl (too_many_files, is, refl)
load_ends Is faults.TooLarge is = inl (too_large, is, refl)
load_ends Is faults.OutOfMemory is = inr refl

pub load_stops : (held : Option Held) (before after : ℕ) (words asked : List FileWord) (error : LoadError) (end : Ending)
    → words ≡ asked → end ≡ load_end error → IsCause (IsRefused held before after words) error
    → IsRefusalEnd (IsRefused held before after asked) end
load_stops held before after words asked error end same ends is =
    subst (IsRefusalEnd (IsRefused held before after asked)) (sym ends)
    (load_ends (IsRefused held before after asked) error (subst (λ ws. IsCause (IsRefused held before after ws) error) same is))

module _ (words : List Word) (held : Option Held) (before after : ℕ) (out : SinkState) where
  -- where nothing was put
  owes_first : (error : ErrorLine) → MayEnd words held before after (after_lines [] (end_of error))
      → Owes words held before after error out out
  owes_first error may = record { lines = []; ends = may; first = inl refl; wrote = wrote_nothing out }

  -- where a word is wrong
  pub owes_word : (number : ℕ) → IsWrongWord words number → Owes words held before after (WrongWord number) out out
  owes_word number wrong = owes_first (WrongWord number) (inl (Err number, wrong, refl))

  refused_due : (request : Request) (refusal : Refusal) → IsForm words request
      → (IsFailed refusal → ⊥) → IsRefused held before after (files_asked request) refusal
      → Due words held (refusal_end refusal)
  refused_due request refusal asked other is =
      (Ok request, asked, (Err refusal, refused_settled held before after (files_asked request) refusal other is, refl))

  refused_ends : (request : Request) (refusal : Refusal) → IsForm words request
      → IsRefused held before after (files_asked request) refusal
      → MayEnd words held before after (after_lines [] (refusal_end refusal))
  refused_ends request too_many_files asked is = inl (refused_due request too_many_files asked (λ f. f) is)
  refused_ends request too_large asked is = inl (refused_due request too_large asked (λ f. f) is)
  refused_ends request (missing file) asked is = inl (refused_due request (missing file) asked (λ f. f) is)
  refused_ends request (failed file) asked is =
      inr (inr (inl (record { request = request; asked = asked; file = file; refused = is; shown = refl })))
  refused_ends request (damaged label fault) asked is = inl (refused_due request (damaged label fault) asked (λ f. f) is)

  -- where the files aren't loaded
  pub owes_loading : (request : Request) (error : ErrorLine) → IsForm words request
      → IsRefusalEnd (IsRefused held before after (files_asked request)) (end_of error)
      → Owes words held before after error out out
  owes_loading request error asked (inl (refusal, refused, is)) =
      owes_first error (subst (λ end. MayEnd words held before after (after_lines [] end)) (sym is) (refused_ends request refusal asked refused))
  owes_loading request error asked (inr is) =
      owes_first error (subst (λ end. MayEnd words held before after (after_lines [] end)) (sym is) (inr (inl (record { first = inl refl; shown = refl }))))

-- WHAT A SESSION YIELDS

module _ (words : List Word) (held : Option Held) (before after : ℕ) (out out_after : SinkState)
    (request : Request) (files : List Opened) (here : IsLoaded words held request files) where
  pub due_lines : (due : Ending) → Yields files request due → Due words held due
  due_lines due yields = (Ok request, here.asked, (Ok files, here.loaded, yields))

  first_lines : (lines : List Line) → (lines ≡ [])
      ⊎ ((due : Ending) × (n : ℕ) × Yields files request due × (lines ≡ take n due.output))
      → AreFirstDue words held lines
  first_lines lines (inl none) = inl none
  first_lines lines (inr (due, n, yields, is)) = inr (due, n, due_lines due yields, is)

-- what was answered is carried out
module _ (words : List Word) (held : Option Held) (before after : ℕ) (out out_after : SinkState) (files : List Opened)
  where
    outgrown_ends : (request : Request) → IsLoaded words held request files
        → Halted files request LimitNodes out out_after
        → Owes words held before after LimitNodes out out_after
    outgrown_ends request here (many, wrote) =
        let outgrown : IsOutgrown words held = record {
          request = request;
          files = files;
          asked = here.asked;
          loaded = here.loaded;
          many = many;
        } in
        record { lines = []; ends = inr (inr (inr (outgrown, refl))); first = inl refl; wrote = wrote }

    owes_halted : (request : Request) → IsLoaded words held request files → (error : ErrorLine)
        → Halted files request error out out_after
        → Owes words held before after error out out_after
    owes_halted request here (WrongWord number) halted = absurd halted
    owes_halted request here (Missing file) halted = absurd halted
    owes_halted request here (CannotRead file) halted = absurd halted
    owes_halted request here (Damaged label fault) halted = absurd halted
    owes_halted request here LimitFiles halted = absurd halted
    owes_halted request here LimitBytes halted = absurd halted
    owes_halted request here LimitNodes halted = outgrown_ends request here halted
    owes_halted request here NoMemory (lines, wrote, first) = record {
      lines = lines;
      ends = inr (inl (record { first = first_lines words held before after out out_after request files here lines first; shown = refl }));
      first = first_lines words held before after out out_after request files here lines first;
      wrote = wrote;
    }

    pub carried : (request : Request) → IsLoaded words held request files → (result : Result Status Stop)
        → Answered files request result out out_after
        → Carried words held before after result out out_after
    carried request here (Ok status) answered = (request, files, here, answered)
    carried request here (Err Output) answered = (request, files, here, answered)
    carried request here (Err (Error error)) halted = owes_halted request here error halted

-- ALL LINES WERE PUT, OR `out` FAILED

pub ended : (words : List Word) (held : Option Held) (before after : ℕ) (status : Status) (out out_after err : SinkState)
    → Carried words held before after (Ok status) out out_after
    → (end : Ending) × MayEnd words held before after end × EndedAs end status out out_after err err
ended words held before after status out out_after err (request, files, here, (lines, yields, wrote)) = (
  output_end status lines,
  inl (due_lines words held before after out out_after request files here (output_end status lines) yields),
  record { its_status = refl; on_out = wrote; on_err = wrote_nothing err },
)

pub broke_off : (words : List Word) (held : Option Held) (before after : ℕ) (out out_after err : SinkState)
    → Carried words held before after (Err Output) out out_after
    → (end : Ending) × MayEnd words held before after end × BrokeOff end out out_after err err
broke_off words held before after out out_after err (request, files, here, (status, lines, yields, wrote)) = (
  output_end status lines,
  inl (due_lines words held before after out out_after request files here (output_end status lines) yields),
  inl (wrote, wrote_nothing err),
)

-- the status is one of those that go with lines
pub never_ended : (words : List Word) (held : Option Held) (before after : ℕ) (status : Status) (out out_after : SinkState)
    → Carried words held before after (Ok status) out out_after → (other : Status) → other ≢ Done → other ≢ Refused
    → status ≡ other → ⊥
never_ended words held before after status out out_after (request, files, here, (lines, yields, wrote)) other not_done not_refused is =
    elim (yields_either files request (output_end status lines) yields) as (λ _. ⊥) [
      | inl done ↦ not_done (sym is ∙ done)
      | inr refused ↦ not_refused (sym is ∙ refused)
    ]

-- the end that a run came to is what was due, or fell short
completed : (words : List Word) (held : Option Held) (end due : Ending) (status : Status) (out out_after err err_after : SinkState)
    → EndedAs end status out out_after err err_after → (end ≡ due) ⊎ FallsShort words held end.status
    → EndedAs due status out out_after err err_after ⊎ FallsShort words held status
completed words held end due status out out_after err err_after is (inl same) =
    inl (subst (λ e. EndedAs e status out out_after err err_after) same is)
completed words held end due status out out_after err err_after is (inr short) =
    inr (subst (FallsShort words held) (sym is.its_status) short)

pub ended_complete : (words : List Word) (held : Option Held) (before after : ℕ) (status : Status)
    (out out_after err : SinkState)
    → Carried words held before after (Ok status) out out_after → (due : Ending) → Due words held due → IsSome held
    → (Rose before after → ⊥) → EndedAs due status out out_after err err ⊎ FallsShort words held status
ended_complete words held before after status out out_after err (request, files, here, (lines, yields, wrote)) due is told readable =
    let end = output_end status lines in
    let may = inl (due_lines words held before after out out_after request files here end yields) in
    let is_end : EndedAs end status out out_after err err =
    record { its_status = refl; on_out = wrote; on_err = wrote_nothing err } in
    completed words held end due status out out_after err err is_end
    (complete words held before after end due may is told readable)

-- AN ERROR LINE WAS REPORTED

not_output : (error : ErrorLine) → (end_of error).status ≡ OutputStatus → ⊥
not_output (WrongWord number) e = cc
not_output (Missing file) e = cc
not_output (CannotRead file) e = cc
not_output (Damaged label fault) e = cc
not_output LimitFiles e = cc
not_output LimitBytes e = cc
not_output LimitNodes e = cc
not_output NoMemory e = cc

module _ (words : List Word) (held : Option Held) (before after : ℕ) (error : ErrorLine) (out out_after : SinkState)
    (owes : Owes words held before after error out out_after) where
  may : (end : Ending) → (end ≡ end_of error) ⊎ (end ≡ end_of NoMemory)
      → MayEnd words held before after (after_lines owes.lines end)
  may end (inl is) = subst (λ e. MayEnd words held before after (after_lines owes.lines e)) (sym is) owes.ends
  may end (inr is) =
      subst (λ e. MayEnd words held before after (after_lines owes.lines e)) (sym is)
      (inr (inl (record { first = owes.first; shown = refl })))

  never_output : (end : Ending) → (end ≡ end_of error) ⊎ (end ≡ end_of NoMemory) → end.status ≡ OutputStatus → ⊥
  never_output end (inl is) e = not_output error (sym (ap (λ e. e.status) is) ∙ e)
  never_output end (inr is) e = not_output NoMemory (sym (ap (λ e. e.status) is) ∙ e)

  ended_so : (status : Status) (err err_after : SinkState) (end : Ending) → (status ≡ end.status)
      × Wrote err err_after end.error
      → EndedAs (after_lines owes.lines end) status out out_after err err_after
  ended_so status err err_after end r = record { its_status = r.0; on_out = owes.wrote; on_err = r.1 }

  pub reported : (status : Status) (err err_after : SinkState) → ReportsOf error status err err_after
      → status ≢ OutputStatus
      → (end : Ending) × MayEnd words held before after end × EndedAs end status out out_after err err_after
  reported status err err_after (end, which, inl r) other =
      (after_lines owes.lines end, may end which, ended_so status err err_after end r)
  reported status err err_after (end, which, inr r) other = absurd (other r.0)

  pub cut : (status : Status) (err err_after : SinkState) → ReportsOf error status err err_after → status ≡ OutputStatus
      → (end : Ending) × MayEnd words held before after end × BrokeOff end out out_after err err_after
  cut status err err_after (end, which, inl r) is = absurd (never_output end which (sym r.0 ∙ is))
  cut status err err_after (end, which, inr r) is = (after_lines owes.lines end, may end which, inr (owes.wrote, r.1))

  pub reported_failed : (status : Status) (err err_after : SinkState) → ReportsOf error status err err_after
      → status ≡ OutputStatus
      → Rose err.faults err_after.faults
  reported_failed status err err_after (end, which, inl r) is = absurd (never_output end which (sym r.0 ∙ is))
  reported_failed status err err_after (end, which, inr r) is = r.1.failed

  pub reported_unread : (status : Status) (err err_after : SinkState) → ReportsOf error status err err_after
      → status ≡ Files
      → Rose before after
  reported_unread status err err_after (end, which, inl r) is =
      unread words held before after (after_lines owes.lines end) (may end which) (sym r.0 ∙ is)
  reported_unread status err err_after (end, which, inr r) is = let e = sym r.0 ∙ is in absurd cc

  pub reported_complete : (status : Status) (err err_after : SinkState) → ReportsOf error status err err_after
      → (due : Ending) → Due words held due → IsSome held → (Rose before after → ⊥)
      → (Rose err.faults err_after.faults → ⊥)
      → EndedAs due status out out_after err err_after ⊎ FallsShort words held status
  reported_complete status err err_after (end, which, inl r) due is told readable writable =
      completed words held (after_lines owes.lines end) due status out out_after err err_after (ended_so status err err_after end r)
      (complete words held before after (after_lines owes.lines end) due (may end which) is told readable)
  reported_complete status err err_after (end, which, inr r) due is told readable writable =
      absurd (writable r.1.failed)
