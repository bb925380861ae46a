-- From exact answers to what they say of envelopes.
use Rattle.std.proofs.Common.{◌≡◌, ℕ, ◌≤◌, List, length, Result, Ok, Err, sym, ap, subst, ◌∙◌, arith}
use Rattle.std.specs.Prelude.{IfOk}
use Rattle.wire_bytes.specs.declared.fault.ByteFault.{ByteFault}
use Rattle.wire_bytes.specs.Reading.{Fails, GivesBy}
use Rattle.wire_bytes.proofs.Steps.{done_is}
use Rattle.wire_bytes.proofs.Spellings.{IsBytes}
use Rattle.wire_bytes.specs.declared.fault.ReadFault.{ReadFault}
use Rattle.wire_bytes.specs.declared.fault.ReadFault.TheVariants as errors
use Rattle.name_index.specs.declared.limits.TheConstants.{FILE_LIMIT}
use Rattle.name_index.specs.declared.records.Layout.{Layout}
use Rattle.name_index.specs.FullFile.{FullFile}
use Rattle.name_index.specs.Envelope.{Envelope}
use Rattle.name_index.specs.FirstBreach.{full_file_of}
use Rattle.file_parts.specs.Paths.{ArePaths}
use Rattle.name_index.specs.Records.{file_of, fault_of, spelled_paths, IsLayout, IsOpen}
use Rattle.name_index.specs.Opening.{Opens}
use Rattle.name_index.proofs.FullFileLemmas.{file_takes, file_again}

pub is_envelope : (own bytes : List ℕ) (r : Result Layout ReadFault) → IsBytes bytes → GivesBy fault_of (λ l. file_of own bytes l) r (full_file_of own bytes) → IfOk r (λ l. Envelope own bytes (file_of own bytes l))
is_envelope own bytes (Ok l) fits exact = file_takes own bytes (file_of own bytes l) fits exact
is_envelope own bytes (Err e) fits exact = tt

pub is_the_file : (own bytes : List ℕ) (x file : FullFile) → full_file_of own bytes ≡ Ok x → Envelope own bytes file → x ≡ file
is_the_file own bytes x file exact env = done_is x file (sym exact ∙ file_again own bytes file env)

pub is_no_file : (own bytes : List ℕ) (e : ReadFault) (file : FullFile) → Fails (fault_of e) (full_file_of own bytes) → Envelope own bytes file → Opens (Err e) file
is_no_file own bytes (errors.Bytes f) file failed env = let there = file_again own bytes file env in absurd (no_both there failed)
  where
    no_both : {r : Result FullFile ByteFault} → r ≡ Ok file → r ≡ Err f → ⊥
    no_both there failed = cc
is_no_file own bytes errors.OutOfMemory file failed env = tt

pub is_open : (own path bytes slice : List ℕ) (l : Layout) → slice ≡ bytes → own ≡ path → length bytes ≤ FILE_LIMIT → IsLayout slice l → ArePaths path (spelled_paths slice l)
    → Envelope path slice (file_of path slice l) → IsOpen own bytes l
is_open own path bytes slice l same mine short layout paths env =
    rw mine (subst (λ (b : List ℕ). IsOpen path b l) same (record { short = omega (arith, short, ap length same); layout = layout; paths = paths; envelope = env }))

pub is_found : (own path bytes slice : List ℕ) (l : Layout) → slice ≡ bytes → own ≡ path → Envelope path slice (file_of path slice l) → Envelope path bytes (file_of own bytes l)
is_found own path bytes slice l same mine env =
    rw mine (subst (λ (b : List ℕ). Envelope path b (file_of path b l)) same env)

pub is_only : (own path bytes slice : List ℕ) (l : Layout) (file : FullFile) → slice ≡ bytes → own ≡ path → full_file_of path slice ≡ Ok (file_of path slice l) → Envelope path bytes file → file_of own bytes l ≡ file
is_only own path bytes slice l file same mine exact env =
    rw mine (is_the_file path bytes (file_of path bytes l) file (subst (λ (b : List ℕ). full_file_of path b ≡ Ok (file_of path b l)) same exact) env)
