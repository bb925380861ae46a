-- What is due is one thing, where the files are told.
use Rattle.std.proofs.Common.{◌≡◌, ◌⊎◌, inl, inr, ℕ, List, Some, Result, Ok, Err, sym, ◌∙◌, ap, subst}
use Rattle.outside.specs.Files.{Held}
use Rattle.command_words.specs.Texts.{Word}
use Rattle.command_words.specs.Forms.{Request, list, show, check}
use Rattle.command_words.proofs.OneReading.{one_request, one_wrong_word, apart}
use Rattle.session_files.specs.Sessions.{Opened}
use Rattle.session_files.specs.Loading.{Refusal}
use Rattle.session_files.proofs.LoadLaws.{one_loading}
use Rattle.session_env.specs.SessionEntries.{session_entries}
use Rattle.exportdata_cmd.specs.Endings.{Ending}
use Rattle.exportdata_cmd.specs.Sources.{files_asked}
use Rattle.exportdata_cmd.specs.Showing.{names_asked}
use Rattle.exportdata_cmd.specs.Due.{Asks, Yields, DueOf, DueFor, Due}
use Rattle.exportdata_cmd.specs.declared.exits.Status.TheVariants.{Done, Refused}
use Rattle.exportdata_cmd.proofs.ShowingLemmas.{one_shown, shown_either}
use Rattle.exportdata_cmd.proofs.CheckingLemmas.{checked_either}

-- words ask for one thing, or have one wrong word
pub one_asking : (words : List Word) (a b : Result Request ℕ) → Asks words a → Asks words b → a ≡ b
one_asking words (Ok a) (Ok b) x y = ap Ok (one_request words a b x y)
one_asking words (Ok a) (Err n) x y = absurd (apart words n a y x)
one_asking words (Err m) (Ok b) x y = absurd (apart words m b x y)
one_asking words (Err m) (Err n) x y = ap Err (one_wrong_word words m n x y)

pub yields_either : (files : List Opened) (request : Request) (due : Ending) → Yields files request due
    → (due.status ≡ Done) ⊎ (due.status ≡ Refused)
yields_either files (list source) due is = inl (ap (λ end. end.status) is)
yields_either files (show sources names) due is =
    let status = ap (λ end. end.status) is.shown in
    elim (shown_either (session_entries files) (names_asked names)) as (λ _. (due.status ≡ Done) ⊎ (due.status ≡ Refused)) [
      | inl e ↦ inl (status ∙ e)
      | inr e ↦ inr (status ∙ e)
    ]
yields_either files (check sources) due is =
    let status = ap (λ end. end.status) is in
    elim (checked_either files files) as (λ _. (due.status ≡ Done) ⊎ (due.status ≡ Refused)) [
      | inl e ↦ inl (status ∙ e)
      | inr e ↦ inr (status ∙ e)
    ]

one_yield : (files : List Opened) (request : Request) (a b : Ending) → Yields files request a → Yields files request b
    → a ≡ b
one_yield files (list source) a b x y = x ∙ sym y
one_yield files (show sources names) a b x y = one_shown files (names_asked names) a b x y
one_yield files (check sources) a b x y = x ∙ sym y

one_due_of : (request : Request) (r : Result (List Opened) Refusal) (a b : Ending) → DueOf request r a → DueOf request r b
    → a ≡ b
one_due_of request (Err refusal) a b x y = x ∙ sym y
one_due_of request (Ok files) a b x y = one_yield files request a b x y

one_due_for : (asked : Result Request ℕ) (files : Held) (a b : Ending) → DueFor asked (Some files) a
    → DueFor asked (Some files) b → a ≡ b
one_due_for (Err number) files a b x y = x ∙ sym y
one_due_for (Ok request) files a b (r, loads, x) (s, loads_other, y) =
    let same = one_loading files (files_asked request) s r loads_other loads in
    one_due_of request r a b x (subst (λ r. DueOf request r b) same y)

pub one_due : (words : List Word) (files : Held) (a b : Ending) → Due words (Some files) a → Due words (Some files) b → a ≡ b
one_due words files a b (asked, asks, x) (other, asks_other, y) =
    one_due_for asked files a b x (subst (λ r. DueFor r (Some files) b) (one_asking words other asked asks_other asks) y)
