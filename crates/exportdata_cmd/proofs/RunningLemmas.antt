-- How a run ends, and what it leaves where it is complete.
use Rattle.std.proofs.Common.{◌≡◌, ℕ, ◌⊎◌, inl, inr, List, false, true, Option, None, Some, IsSome, Result, Ok, Err}
use Rattle.std.proofs.Common.{sym, ◌∙◌, ap, arith}
use Rattle.outside.specs.Counts.{Rose}
use Rattle.outside.specs.Files.{Held}
use Rattle.command_words.specs.Texts.{Word}
use Rattle.command_words.specs.Forms.{Request}
use Rattle.session_files.specs.Sessions.{Opened}
use Rattle.session_files.specs.Loading.{Refusal, too_many_files, too_large, missing, failed, damaged, Loads}
use Rattle.session_files.proofs.LoadLaws.{rose_of}
use Rattle.exportdata_cmd.specs.Endings.{Ending}
use Rattle.exportdata_cmd.specs.Sources.{files_asked}
use Rattle.exportdata_cmd.specs.Due.{DueOf, DueFor, Due}
use Rattle.exportdata_cmd.specs.Running.{MayEnd, FallsShort}
use Rattle.exportdata_cmd.specs.declared.exits.Status.{Status}
use Rattle.exportdata_cmd.specs.declared.exits.Status.TheVariants.{Done, Refused, Files, Memory}
use Rattle.exportdata_cmd.proofs.DueLemmas.{one_due, yields_either}

-- STATUS FILES

not_files : (end : Ending) → (end.status ≡ Done) ⊎ (end.status ≡ Refused) → end.status ≡ Files → ⊥
not_files end (inl is) files = let e : Done ≡ Files = sym is ∙ files in cc
not_files end (inr is) files = let e : Refused ≡ Files = sym is ∙ files in cc

due_of_not_files : (held : Option Held) (request : Request) (r : Result (List Opened) Refusal) (end : Ending)
    → Loads held (files_asked request) r → DueOf request r end
    → end.status ≡ Files → ⊥
due_of_not_files held request (Err too_many_files) end loads is files = let e = sym (ap (λ end. end.status) is) ∙ files in cc
due_of_not_files held request (Err too_large) end loads is files = let e = sym (ap (λ end. end.status) is) ∙ files in cc
due_of_not_files held request (Err (missing file)) end loads is files = let e = sym (ap (λ end. end.status) is) ∙ files in cc
due_of_not_files held request (Err (failed file)) end loads is files =
    let rose : Rose 0 0 = rose_of held 0 0 loads.files loads.word (failed file) loads.refused tt in omega (arith, rose)
due_of_not_files held request (Err (damaged label fault)) end loads is files = let e = sym (ap (λ end. end.status) is) ∙ files in cc
due_of_not_files held request (Ok opened) end loads is files = not_files end (yields_either opened request end is) files

due_not_files : (asked : Result Request ℕ) (held : Option Held) (end : Ending) → DueFor asked held end
    → end.status ≡ Files → ⊥
due_not_files (Err number) held end is files = let e = sym (ap (λ end. end.status) is) ∙ files in cc
due_not_files (Ok request) held end is files = due_of_not_files held request is.0 end is.1 is.2 files

pub unread : (words : List Word) (held : Option Held) (before after : ℕ) (end : Ending)
    → MayEnd words held before after end
    → end.status ≡ Files → Rose before after
unread words held before after end (inl due) files = absurd (due_not_files due.0 held end due.2 files)
unread words held before after end (inr (inl starved)) files =
    let e = sym (ap (λ end. end.status) starved.shown) ∙ files in absurd cc
unread words held before after end (inr (inr (inl is))) files =
    rose_of held before after is.refused.files is.refused.word (failed is.file) is.refused.refused tt
unread words held before after end (inr (inr (inr (outgrown, is)))) files =
    let e = sym (ap (λ end. end.status) is) ∙ files in absurd cc

-- COMPLETENESS

pub complete : (words : List Word) (held : Option Held) (before after : ℕ) (end due : Ending)
    → MayEnd words held before after end
    → Due words held due → IsSome held → (Rose before after → ⊥)
    → (end ≡ due) ⊎ FallsShort words held end.status
complete words None before after end due may is told readable = let e : false ≡ true = told in absurd cc
complete words (Some files) before after end due (inl is_due) is told readable =
    inl (one_due words files end due is_due is)
complete words (Some files) before after end due (inr (inl starved)) is told readable =
    inr (inl (ap (λ end. end.status) starved.shown))
complete words (Some files) before after end due (inr (inr (inl was_unread))) is told readable =
    let refused = was_unread.refused in
    absurd (readable (rose_of (Some files) before after refused.files refused.word (failed was_unread.file) refused.refused tt))
complete words (Some files) before after end due (inr (inr (inr (outgrown, shown)))) is told readable =
    inr (inr (ap (λ end. end.status) shown, outgrown))
