-- What comes of taking files in is one thing: they are open, or the first is refused.
use Rattle.std.proofs.Common.{◌≡◌, ◌⊎◌, inl, inr, rules, ℕ, zero, suc, ◌+◌, ◌<◌, ◌≤◌, List, [], ◌∷◌, ◌++◌, length, Bool, true, false, Option, Some, None, Result, Ok, Err, refl, sym, ◌∙◌, ap, subst, arith}
use Rattle.std.specs.Prelude.{nat_lt}
use Rattle.std.specs.FinMap.{get}
use Rattle.std.specs.List.{AllByRecursion}
use Rattle.std.proofs.lemmas.Bool.{cases_lt}
use Rattle.std.proofs.lemmas.List.{append_assoc, append-nil}
use Rattle.outside.specs.Counts.{Rose}
use Rattle.outside.specs.Files.{Held, IsLonger}
use Rattle.wire_bytes.specs.declared.fault.ByteFault.{ByteFault}
use Rattle.name_index.specs.FullFile.{FullFile}
use Rattle.name_index.specs.Envelope.{Envelope}
use Rattle.name_index.specs.FirstBreach.{FirstBreach, full_file_of}
use Rattle.name_index.specs.declared.limits.TheConstants.{FILE_LIMIT}
use Rattle.name_index.proofs.FullFileLemmas.{file_again, envelope_or_breach}
use Rattle.session_files.specs.Sessions.{Opened}
use Rattle.session_files.specs.Loading.{Form, full, Word, IsFile, IsBreach, HasBytes, Opens, IsOpenAs, total, OpenEach, AreTaken, Refusal, too_many_files, too_large, missing, failed, damaged, IsUnfetched, IsSpoilt, Refuses, one_too_many, unfetched, too_long, spoilt, IsRefused, Loads, HoldBytes}
use Rattle.session_files.specs.declared.limits.TheConstants.{MOST_FILES, MOST_BYTES}
use Rattle.session_files.proofs.LoadingLemmas.{each_more, total_more, length_push}

-- ---- the same, as a function

abbrev Step : Type 0
Step = Result Opened Refusal

abbrev of_reading : Word → Result FullFile ByteFault → Step
of_reading word (Ok file) = Ok (record { label = word.label; file = file })
of_reading word (Err fault) = Err (damaged word.label fault)

abbrev read_as : Form → List ℕ → Result FullFile ByteFault
read_as (full path) bytes = full_file_of path bytes

abbrev in_all : Word → List ℕ → Bool → Step
in_all word bytes true = Err too_large
in_all word bytes false = of_reading word (read_as word.form bytes)

abbrev in_one : Word → ℕ → List ℕ → Bool → Step
in_one word size bytes true = Err too_large
in_one word size bytes false = in_all word bytes (nat_lt MOST_BYTES (size + length bytes))

abbrev of_body : Word → ℕ → Option (List ℕ) → Step
of_body word size None = Err (missing word.file)
of_body word size (Some bytes) = in_one word size bytes (nat_lt FILE_LIMIT (length bytes))

abbrev of_count : Word → ℕ → Option (List ℕ) → Bool → Step
of_count word size body true = of_body word size body
of_count word size body false = Err too_many_files

-- what comes of one word after so many files of so many bytes
abbrev step : Held → ℕ → ℕ → Word → Step
step held count size word = of_count word size (get held word.file) (nat_lt count MOST_FILES)

abbrev with_first : Opened → Result (List Opened) Refusal → Result (List Opened) Refusal
with_first o (Ok os) = Ok (o ∷ os)
with_first o (Err refusal) = Err refusal

abbrev go_on : Step → (Opened → Result (List Opened) Refusal) → Result (List Opened) Refusal
go_on (Ok o) rest = with_first o (rest o)
go_on (Err refusal) rest = Err refusal

abbrev load_from : Held → ℕ → ℕ → List Word → Result (List Opened) Refusal
load_from held count size [] = Ok []
load_from held count size (w ∷ ws) =
    go_on (step held count size w) (λ o. load_from held (suc count) (size + length o.file.bytes) ws)

-- ---- one word

below : (m n : ℕ) → m < n → nat_lt m n ≡ true
below m n h = search rules

not_below : (m n : ℕ) → n ≤ m → nat_lt m n ≡ false
not_below m n h = search rules

read_file : (form : Form) (bytes : List ℕ) (file : FullFile) → file.bytes ≡ bytes → IsFile form file → read_as form bytes ≡ Ok file
read_file (full path) bytes file same is = file_again path bytes file (subst (λ (b : List ℕ). Envelope path b file) same is)

read_breach : (form : Form) (bytes : List ℕ) (fault : ByteFault) → IsBreach form bytes fault → read_as form bytes ≡ Err fault
read_breach (full path) bytes fault is = is

module _ (held : Held) (word : Word) (count size : ℕ) where
  few : count < MOST_FILES → step held count size word ≡ of_body word size (get held word.file)
  few h = ap (of_count word size (get held word.file)) (below count MOST_FILES h)

  bodied : (bytes : List ℕ) → HasBytes (Some held) word.file bytes → of_body word size (get held word.file) ≡ in_all word bytes (nat_lt MOST_BYTES (size + length bytes))
  bodied bytes has = ap (of_body word size) has.body ∙ ap (in_one word size bytes) (not_below FILE_LIMIT (length bytes) has.short)

  fitted : (bytes : List ℕ) → count < MOST_FILES → HasBytes (Some held) word.file bytes → size + length bytes ≤ MOST_BYTES → step held count size word ≡ of_reading word (read_as word.form bytes)
  fitted bytes h has small = few h ∙ bodied bytes has ∙ ap (in_all word bytes) (not_below MOST_BYTES (size + length bytes) small)

  pub opens_step : (o : Opened) → count < MOST_FILES → Opens (Some held) word o → size + length o.file.bytes ≤ MOST_BYTES → step held count size word ≡ Ok o
  opens_step o h opens small =
      let is = opens.open_as in
      let bytes = opens.bytes in
      let label = is.label in
      let same : ◌≡◌ {A = Step} (Ok (record { label = word.label; file = o.file })) (Ok o) = λ i. Ok (record { label = sym label i; file = o.file }) in
      fitted bytes h opens.has (subst (λ (b : List ℕ). size + length b ≤ MOST_BYTES) is.bytes_are small)
      ∙ ap (of_reading word) (read_file word.form bytes o.file is.bytes_are is.is) ∙ same

  long_body : (body : Option (List ℕ)) → IsLonger body FILE_LIMIT → of_body word size body ≡ Err too_large
  long_body None long = absurd long
  long_body (Some bytes) long = ap (in_one word size bytes) (below FILE_LIMIT (length bytes) long)

  unfetched_step : (r : Refusal) → IsUnfetched (Some held) 0 0 word.file r → of_body word size (get held word.file) ≡ Err r
  unfetched_step too_many_files is = absurd is
  unfetched_step too_large is = long_body (get held word.file) is
  unfetched_step (missing name) is = ap (of_body word size) is.0 ∙ ap (λ n. Err (missing n)) (sym is.1)
  unfetched_step (failed name) is = absurd (omega (arith, is.0))
  unfetched_step (damaged label fault) is = absurd is

  spoilt_step : (r : Refusal) (bytes : List ℕ) → IsSpoilt word bytes r → of_reading word (read_as word.form bytes) ≡ Err r
  spoilt_step too_many_files bytes is = absurd is
  spoilt_step too_large bytes is = absurd is
  spoilt_step (missing name) bytes is = absurd is
  spoilt_step (failed name) bytes is = absurd is
  spoilt_step (damaged label fault) bytes is = ap (of_reading word) (read_breach word.form bytes fault is.0) ∙ ap (λ l. Err (damaged l fault)) (sym is.1)

pub refuses_step : (held : Held) (files : List Opened) (word : Word) (r : Refusal) → Refuses (Some held) 0 0 files word r → step held (length files) (total files) word ≡ Err r
refuses_step held files word r (one_too_many many) = ap (of_count word (total files) (get held word.file)) (not_below (length files) MOST_FILES many)
refuses_step held files word r (unfetched refusal h is) = few held word (length files) (total files) h ∙ unfetched_step held word (length files) (total files) refusal is
refuses_step held files word r (too_long bytes h has long) =
    few held word (length files) (total files) h ∙ bodied held word (length files) (total files) bytes has ∙ ap (in_all word bytes) (below MOST_BYTES (total files + length bytes) long)
refuses_step held files word r (spoilt refusal bytes h has short is) =
    fitted held word (length files) (total files) bytes h has short ∙ spoilt_step held word (length files) (total files) refusal bytes is

-- ---- all words

taken_from : (held : Held) (count size : ℕ) (words : List Word) (files : List Opened) → OpenEach (Some held) words files → count + length files ≤ MOST_FILES → size + total files ≤ MOST_BYTES
    → load_from held count size words ≡ Ok files
taken_from held count size [] [] each few small = refl
taken_from held count size [] (o ∷ os) each few small = absurd each
taken_from held count size (w ∷ ws) [] each few small = absurd each
taken_from held count size (w ∷ ws) (o ∷ os) each few small =
    let first = opens_step held w count size o (omega arith) each.0 (omega arith) in
    let rest = taken_from held (suc count) (size + length o.file.bytes) ws os each.1 (omega arith) (omega arith) in
    ap (λ s. go_on s (λ o. load_from held (suc count) (size + length o.file.bytes) ws)) first ∙ ap (with_first o) rest

refused_from : (held : Held) (count size : ℕ) (front : List Word) (word : Word) (rest : List Word) (files : List Opened) (r : Refusal) → OpenEach (Some held) front files → count + length files ≤ MOST_FILES → size + total files ≤ MOST_BYTES
    → step held (count + length files) (size + total files) word ≡ Err r → load_from held count size (front ++ word ∷ rest) ≡ Err r
refused_from held count size [] word rest [] r each few small is =
    let here : step held count size word ≡ Err r = rw (zero_more count, zero_more size) at is in
    ap (λ s. go_on s (λ o. load_from held (suc count) (size + length o.file.bytes) rest)) here
  where
    zero_more : (n : ℕ) → n + 0 ≡ n
    zero_more n = omega arith
refused_from held count size [] word rest (o ∷ os) r each few small is = absurd each
refused_from held count size (w ∷ ws) word rest [] r each few small is = absurd each
refused_from held count size (w ∷ ws) word rest (o ∷ os) r each few small is =
    let first = opens_step held w count size o (omega arith) each.0 (omega arith) in
    let counts : count + length (o ∷ os) ≡ suc count + length os = omega arith in
    let sizes : size + total (o ∷ os) ≡ (size + length o.file.bytes) + total os = omega arith in
    let step_is : step held (suc count + length os) ((size + length o.file.bytes) + total os) word ≡ Err r = rw (counts, sizes) at is in
    let later = refused_from held (suc count) (size + length o.file.bytes) ws word rest os r each.1 (omega arith) (omega arith) step_is in
    ap (λ s. go_on s (λ o. load_from held (suc count) (size + length o.file.bytes) (ws ++ word ∷ rest))) first ∙ ap (with_first o) later

none_before : (n : ℕ) → n ≡ 0 + n
none_before n = omega arith

loads_is : (held : Held) (words : List Word) (r : Result (List Opened) Refusal) → Loads (Some held) words r → load_from held 0 0 words ≡ r
loads_is held words (Ok files) taken = taken_from held 0 0 words files taken.each (omega (arith, taken.few)) (omega (arith, taken.small))
loads_is held words (Err refusal) is =
    let step_is = refuses_step held is.files is.word refusal is.refused in
    let here : step held (0 + length is.files) (0 + total is.files) is.word ≡ Err refusal
    = ap (λ n. step held n (0 + total is.files) is.word) (sym (none_before (length is.files))) ∙ ap (λ n. step held (length is.files) n is.word) (sym (none_before (total is.files))) ∙ step_is in
    ap (load_from held 0 0) is.stands
    ∙ refused_from held 0 0 is.front is.word is.rest is.files refusal is.taken.each (omega (arith, is.taken.few)) (omega (arith, is.taken.small)) here

pub one_loading : (held : Held) (words : List Word) (a b : Result (List Opened) Refusal) → Loads (Some held) words a → Loads (Some held) words b → a ≡ b
one_loading held words a b x y = sym (loads_is held words a x) ∙ loads_is held words b y

-- ---- faults of the device

abbrev pub IsFailed : Refusal → Type 0
IsFailed (failed name) = Unit {0}
IsFailed _ = ⊥

-- a fetch that failed is one where the count of faults rose
pub rose_of : (held : Option Held) (before after : ℕ) (files : List Opened) (word : Word) (r : Refusal) → Refuses held before after files word r → IsFailed r → Rose before after
rose_of held before after files word r (one_too_many many) is = absurd is
rose_of held before after files word r (unfetched refusal few fetch) is = by refusal fetch is
  where
    by : (refusal : Refusal) → IsUnfetched held before after word.file refusal → IsFailed refusal → Rose before after
    by too_many_files fetch is = absurd is
    by too_large fetch is = absurd is
    by (missing name) fetch is = absurd is
    by (failed name) fetch is = fetch.0
    by (damaged label fault) fetch is = absurd is
rose_of held before after files word r (too_long bytes few has long) is = absurd is
rose_of held before after files word r (spoilt refusal bytes few has short breach) is = by refusal breach is
  where
    by : (refusal : Refusal) → IsSpoilt word bytes refusal → IsFailed refusal → Rose before after
    by too_many_files breach is = absurd is
    by too_large breach is = absurd is
    by (missing name) breach is = absurd is
    by (failed name) breach is = absurd breach
    by (damaged label fault) breach is = absurd is

-- any other refusal rests on no count
settled_fetch : (held : Option Held) (before after : ℕ) (file : List ℕ) (r : Refusal) → (IsFailed r → ⊥) → IsUnfetched held before after file r → IsUnfetched held 0 0 file r
settled_fetch held before after file too_many_files other is = is
settled_fetch held before after file too_large other is = is
settled_fetch held before after file (missing name) other is = is
settled_fetch held before after file (failed name) other is = absurd (other tt)
settled_fetch held before after file (damaged label fault) other is = is

settled : (held : Option Held) (before after : ℕ) (files : List Opened) (word : Word) (r : Refusal) → (IsFailed r → ⊥) → Refuses held before after files word r → Refuses held 0 0 files word r
settled held before after files word r other (one_too_many many) = one_too_many many
settled held before after files word r other (unfetched refusal few is) = unfetched refusal few (settled_fetch held before after word.file refusal other is)
settled held before after files word r other (too_long bytes few has long) = too_long bytes few has long
settled held before after files word r other (spoilt refusal bytes few has short is) = spoilt refusal bytes few has short is

pub refused_settled : (held : Option Held) (before after : ℕ) (words : List Word) (r : Refusal) → (IsFailed r → ⊥) → IsRefused held before after words r → IsRefused held 0 0 words r
refused_settled held before after words r other is = record {
  front = is.front;
  word = is.word;
  rest = is.rest;
  files = is.files;
  stands = is.stands;
  taken = is.taken;
  refused = settled held before after is.files is.word r other is.refused;
}

-- ---- something comes of it

read_either : (form : Form) (bytes : List ℕ) → AllByRecursion (λ b. b < 256) bytes → ((file : FullFile) × (file.bytes ≡ bytes) × IsFile form file) ⊎ ((fault : ByteFault) × IsBreach form bytes fault)
read_either (full path) bytes all = elim (envelope_or_breach path bytes all) [
  | inl found ↦ inl (found.0, found.1.whole, subst (λ (b : List ℕ). Envelope path b found.0) (sym found.1.whole) found.1)
  | inr broken ↦ inr broken
]

module _ (held : Held) (holds : HoldBytes held) where
  abbrev SomeLoading : List Word → Type 0
  SomeLoading words = (r : Result (List Opened) Refusal) × Loads (Some held) words r

  module _ (front : List Word) (w : Word) (ws : List Word) (files : List Opened) (taken : AreTaken (Some held) front files) where
    refuse : (r : Refusal) → Refuses (Some held) 0 0 files w r → SomeLoading (front ++ w ∷ ws)
    refuse r is = (Err r, record { front = front; word = w; rest = ws; files = files; stands = refl; taken = taken; refused = is })

    -- what comes of one word: its file is taken in too, or it is refused
    one_word : ((o : Opened) × AreTaken (Some held) (front ++ w ∷ []) (files ++ o ∷ [])) ⊎ SomeLoading (front ++ w ∷ ws)
    one_word = elim (cases_lt (length files) MOST_FILES) [
      | inl few ↦ by_body few (get held w.file) refl
      | inr many ↦ inr (refuse too_many_files (one_too_many many))
    ]
      where
        opened : (bytes : List ℕ) (few : length files < MOST_FILES) → HasBytes (Some held) w.file bytes → total files + length bytes ≤ MOST_BYTES → (file : FullFile) → file.bytes ≡ bytes → IsFile w.form file
            → (o : Opened) × AreTaken (Some held) (front ++ w ∷ []) (files ++ o ∷ [])
        opened bytes few has small file same is =
            let o : Opened = record { label = w.label; file = file } in
            let opens : Opens (Some held) w o = record { bytes = bytes; has = has; open_as = record { label = refl; bytes_are = same; is = is } } in (
              o,
              record {
                each = each_more (Some held) front files w o taken.each opens;
                few = omega (arith, length_push files o, few);
                small = omega (arith, total_more files o, small, ap (λ (b : List ℕ). length b) same);
              },
            )

        by_bytes : length files < MOST_FILES → (bytes : List ℕ) → HasBytes (Some held) w.file bytes → AllByRecursion (λ b. b < 256) bytes
            → ((o : Opened) × AreTaken (Some held) (front ++ w ∷ []) (files ++ o ∷ [])) ⊎ SomeLoading (front ++ w ∷ ws)
        by_bytes few bytes has all = elim (cases_lt MOST_BYTES (total files + length bytes)) [
          | inl over ↦ inr (refuse too_large (too_long bytes few has over))
          | inr small ↦ elim (read_either w.form bytes all) [
            | inl found ↦ inl (opened bytes few has small found.0 found.1 found.2)
            | inr broken ↦ inr (refuse (damaged w.label broken.0) (spoilt (damaged w.label broken.0) bytes few has small (broken.1, refl)))
          ]
        ]

        by_body : length files < MOST_FILES → (body : Option (List ℕ)) → get held w.file ≡ body
            → ((o : Opened) × AreTaken (Some held) (front ++ w ∷ []) (files ++ o ∷ [])) ⊎ SomeLoading (front ++ w ∷ ws)
        by_body few None e = inr (refuse (missing w.file) (unfetched (missing w.file) few (e, refl)))
        by_body few (Some bytes) e = elim (cases_lt FILE_LIMIT (length bytes)) [
          | inl long ↦ inr (refuse too_large (unfetched too_large few (subst (λ (b : Option (List ℕ)). IsLonger b FILE_LIMIT) (sym e) long)))
          | inr short ↦ by_bytes few bytes (record { body = e; short = short }) (holds w.file bytes e)
        ]

  load_on : (rest front : List Word) (files : List Opened) → AreTaken (Some held) front files → SomeLoading (front ++ rest)
  load_on [] front files taken = (Ok files, subst (λ (ws : List Word). AreTaken (Some held) ws files) (sym (append-nil front)) taken)
  load_on (w ∷ ws) front files taken = elim (one_word front w ws files taken) [
    | inl more ↦ subst SomeLoading (append_assoc front (w ∷ []) ws) (load_on ws (front ++ w ∷ []) (files ++ more.0 ∷ []) more.1)
    | inr refused ↦ refused
  ]

  pub some_loading : (words : List Word) → SomeLoading words
  some_loading words = load_on words [] [] (record { each = tt; few = omega arith; small = omega arith })
