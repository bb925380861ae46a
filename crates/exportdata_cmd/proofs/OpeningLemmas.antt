-- What comes of taking in one file alone.
use Rattle.std.proofs.Common.{◌≡◌, ℕ, ◌≤◌, ◌⊎◌, inl, inr, List, [], ◌∷◌, length, Option, None, Ok, refl, sym, ◌∙◌, ap, subst, arith}
use Rattle.outside.specs.Counts.{Rose}
use Rattle.outside.specs.Files.{Held}
use Rattle.command_words.specs.Texts.{Source, source_word}
use Rattle.wire_bytes.specs.declared.fault.ByteFault.{ByteFault}
use Rattle.name_index.specs.FullFile.{FullFile}
use Rattle.name_index.specs.Envelope.{Envelope}
use Rattle.name_index.specs.FirstBreach.{FirstBreach}
use Rattle.session_files.specs.Loading.{HasBody, HasBytes, Refusal, missing, failed, damaged, unfetched, spoilt, IsUnfetched, IsRefused, Refuses, Loads}
use Rattle.session_files.specs.Loading.{AreTaken}
use Rattle.exportdata_cmd.specs.Endings.{Ending, missing_end, cannot_read_end, no_memory_end}
use Rattle.exportdata_cmd.specs.Sources.{file_asked, opened_as, refusal_end, IsRefusalEnd}

module _ (held : Option Held) (source : Source) where
  none_taken : AreTaken held [] []
  none_taken = record { each = tt; few = omega arith; small = omega arith }

  pub opened_alone : (bytes : List ℕ) (image : FullFile) → HasBytes held source.file bytes → Envelope source.path bytes image
      → Loads held (file_asked source ∷ []) (Ok (opened_as source image ∷ []))
  opened_alone bytes image has envelope = record {
    each = (
      record {
        bytes = bytes;
        has = has;
        open_as = record {
          label = refl;
          bytes_are = envelope.whole;
          is = subst (λ bs. Envelope source.path bs image) (sym envelope.whole) envelope;
        };
      },
      tt,
    );
    few = omega arith;
    small = omega (arith, has.short, ap (λ bs. length bs) envelope.whole);
  }

  refused_alone : (before after : ℕ) (refusal : Refusal) → Refuses held before after [] (file_asked source) refusal
      → IsRefused held before after (file_asked source ∷ []) refusal
  refused_alone before after refusal is = record {
    front = [];
    word = file_asked source;
    rest = [];
    files = [];
    stands = refl;
    taken = none_taken;
    refused = is;
  }

  pub unfetched_alone : (before after : ℕ) (end : Ending)
      → IsRefusalEnd (IsUnfetched held before after source.file) end
      → IsRefusalEnd (IsRefused held before after (file_asked source ∷ [])) end
  unfetched_alone before after end (inl (refusal, is, ends)) =
      inl (refusal, refused_alone before after refusal (unfetched refusal (omega arith) is), ends)
  unfetched_alone before after end (inr starved) = inr starved

  pub spoilt_alone : (before after : ℕ) (bytes : List ℕ) (fault : ByteFault) → HasBytes held source.file bytes
      → FirstBreach source.path bytes fault
      → IsRefused held before after (file_asked source ∷ []) (damaged (source_word source) fault)
  spoilt_alone before after bytes fault has breach =
      refused_alone before after (damaged (source_word source) fault)
      (spoilt (damaged (source_word source) fault) bytes (omega arith) has (omega (arith, has.short)) (breach, refl))

pub missing_ends : (held : Option Held) (before after : ℕ) (file text : List ℕ) → HasBody held file None → text ≡ file
    → IsRefusalEnd (IsUnfetched held before after file) (missing_end text)
missing_ends held before after file text none same = inl (missing file, (none, refl), ap missing_end same)

pub failed_ends : (held : Option Held) (before after : ℕ) (file text : List ℕ) → Rose before after → text ≡ file
    → IsRefusalEnd (IsUnfetched held before after file) (cannot_read_end text)
failed_ends held before after file text rose same = inl (failed file, (rose, refl), ap cannot_read_end same)

-- a refusal's line, or that memory is wanting
pub damaged_ends : (Is : Refusal → Type 0) (end : Ending) (refusal : Refusal) → Is refusal
    → (end ≡ refusal_end refusal) ⊎ (end ≡ no_memory_end [])
    → IsRefusalEnd Is end
damaged_ends Is end refusal is (inl ends) = inl (refusal, is, ends)
damaged_ends Is end refusal is (inr starved) = inr starved
