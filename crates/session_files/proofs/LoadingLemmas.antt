-- Taking files in, one after the other.
use Rattle.session_files.proofs.OpenLemmas.{length_opened}
use Rattle.std.proofs.Common.{◌≡◌, ℕ, zero, suc, ◌+◌, ◌<◌, ◌≤◌, List, [], ◌∷◌, ◌++◌, length, map, take, drop, get_or, Option, Some, Result, Ok, Err, slice_get, refl, sym, ap, ◌∙◌, subst, arith}
use Rattle.std.specs.Prelude.{IfErr}
use Rattle.std.specs.List.{AllByRecursion}
use Rattle.outside.specs.Files.{Held}
use Rattle.name_index.specs.FullFile.{FullFile}
use Rattle.session_files.specs.Sessions.{Opened, IsSound, AreSound}
use Rattle.session_files.specs.Loading.{Form, full, Word, IsFile, Opens, total, OpenEach, AreTaken, Refusal, too_many_files, too_large, missing, failed, damaged, IsUnfetched, Refuses, one_too_many, unfetched, too_long, spoilt, IsRefused, IsCause, word_of}
use Rattle.session_files.specs.declared.limits.TheConstants.{MOST_FILES, MOST_BYTES}
use Rattle.session_files.specs.OpenSessions.{opened_of, all_opened}
use Rattle.session_files.specs.declared.files.SessionFile.{SessionFile}
use Rattle.session_files.specs.declared.sources.Source.{Source}
use Rattle.session_files.specs.declared.loading.LoadError.{LoadError}
use Rattle.session_files.specs.declared.loading.LoadError.TheVariants as errors

-- ---- causes

pub weaker_cause : (P Q : Refusal → Type 0) → ((r : Refusal) → P r → Q r) → (e : LoadError) → IsCause P e → IsCause Q e
weaker_cause P Q more (errors.Missing file) is = more _ is
weaker_cause P Q more (errors.Failed file) is = more _ is
weaker_cause P Q more (errors.Damaged label fault) is = more _ is
weaker_cause P Q more errors.TooManyFiles is = more _ is
weaker_cause P Q more errors.TooLarge is = more _ is
weaker_cause P Q more errors.OutOfMemory is = tt

pub weaker_err : {X : Type 0} (P Q : Refusal → Type 0) → ((r : Refusal) → P r → Q r) → (result : Result X LoadError) → IfErr result (IsCause P) → IfErr result (IsCause Q)
weaker_err P Q more (Ok x) is = is
weaker_err P Q more (Err e) is = weaker_cause P Q more e is

unfetched_earlier : (held : Option Held) (a b after : ℕ) (file : List ℕ) (r : Refusal) → a ≤ b → IsUnfetched held b after file r → IsUnfetched held a after file r
unfetched_earlier held a b after file too_many_files le is = is
unfetched_earlier held a b after file too_large le is = is
unfetched_earlier held a b after file (missing name) le is = is
unfetched_earlier held a b after file (failed name) le is = (grind arith, is.1)
unfetched_earlier held a b after file (damaged label fault) le is = is

pub refuses_earlier : (held : Option Held) (a b after : ℕ) (files : List Opened) (word : Word) (r : Refusal) → a ≤ b → Refuses held b after files word r → Refuses held a after files word r
refuses_earlier held a b after files word r le (one_too_many many) = one_too_many many
refuses_earlier held a b after files word r le (unfetched refusal few is) = unfetched refusal few (unfetched_earlier held a b after word.file refusal le is)
refuses_earlier held a b after files word r le (too_long bytes few has long) = too_long bytes few has long
refuses_earlier held a b after files word r le (spoilt refusal bytes few has short is) = spoilt refusal bytes few has short is

-- ---- lists

pub take_next : {X : Type 0} (xs : List X) (i : ℕ) (x : X) → slice_get xs i ≡ Some x → take (suc i) xs ≡ take i xs ++ x ∷ []
take_next [] i x at = absurd cc
take_next (y ∷ xs) zero x at = let same : y ≡ x = cc in ap (λ y. y ∷ []) same
take_next (y ∷ xs) (suc i) x at = ap (λ ys. y ∷ ys) (take_next xs i x at)

pub split_at : {X : Type 0} (xs : List X) (i : ℕ) (x : X) → slice_get xs i ≡ Some x → xs ≡ take i xs ++ x ∷ drop (suc i) xs
split_at [] i x at = absurd cc
split_at (y ∷ xs) zero x at = let same : y ≡ x = cc in ap (λ y. y ∷ xs) same
split_at (y ∷ xs) (suc i) x at = ap (λ ys. y ∷ ys) (split_at xs i x at)

pub map_join : {X Y : Type 0} (f : X → Y) (xs : List X) (y : X) (ys : List X) → map f (xs ++ y ∷ ys) ≡ map f xs ++ f y ∷ map f ys
map_join f [] y ys = refl
map_join f (x ∷ xs) y ys = ap (λ zs. f x ∷ zs) (map_join f xs y ys)

all_push : {X : Type 0} (P : X → Type 0) (xs : List X) (x : X) → AllByRecursion P xs → P x → AllByRecursion P (xs ++ x ∷ [])
all_push P [] x all is = (is, tt)
all_push P (y ∷ xs) x all is = (all.0, all_push P xs x all.1 is)

pub all_below : (bytes : List ℕ) → ((i : ℕ) → get_or bytes i 0 < 256) → AllByRecursion (λ b. b < 256) bytes
all_below [] all = tt
all_below (b ∷ bytes) all = (all 0, all_below bytes (λ i. all (suc i)))

pub length_push : {X : Type 0} (xs : List X) (x : X) → length (xs ++ x ∷ []) ≡ suc (length xs)
length_push [] x = refl
length_push (y ∷ xs) x = ap suc (length_push xs x)

-- what was taken in so far
pub record IsTakenIn (held : Option Held) (words : List Word) (files : List Opened) (bytes : ℕ) : Type 0 where
  pub taken : AreTaken held words files
  pub sound : AreSound files
  pub count : bytes ≡ total files

-- the first refusal of a list of sources
pub refused_here : (held now : Option Held) (a b after : ℕ) (sources : List Source) (i bytes : ℕ) (x : Source) (files : List Opened) → slice_get sources i ≡ Some x
    → IsTakenIn held (map word_of (take i sources)) files bytes → now ≡ held → a ≤ b → (e : LoadError) → IsCause (Refuses now b after files (word_of x)) e → IsCause (IsRefused held a after (map word_of sources)) e
refused_here held now a b after sources i bytes x files at so_far same le e = weaker_cause (Refuses now b after files (word_of x)) (IsRefused held a after (map word_of sources)) here e
  where
    here : (r : Refusal) → Refuses now b after files (word_of x) r → IsRefused held a after (map word_of sources) r
    here r is = record {
      front = map word_of (take i sources);
      word = word_of x;
      rest = map word_of (drop (suc i) sources);
      files = files;
      stands = ap (map word_of) (split_at sources i x at) ∙ map_join word_of (take i sources) x (drop (suc i) sources);
      taken = so_far.taken;
      refused = refuses_earlier held a b after files (word_of x) r le (subst (λ (h : Option Held). Refuses h b after files (word_of x) r) same is);
    }

-- ---- one more file

pub each_more : (held : Option Held) (words : List Word) (files : List Opened) (w : Word) (o : Opened) → OpenEach held words files → Opens held w o → OpenEach held (words ++ w ∷ []) (files ++ o ∷ [])
each_more held [] [] w o each is = (is, tt)
each_more held [] (f ∷ fs) w o each is = absurd each
each_more held (v ∷ vs) [] w o each is = absurd each
each_more held (v ∷ vs) (f ∷ fs) w o each is = (each.0, each_more held vs fs w o each.1 is)

pub total_more : (files : List Opened) (o : Opened) → total (files ++ o ∷ []) ≡ total files + length o.file.bytes
total_more [] o = omega arith
total_more (f ∷ fs) o = let later = total_more fs o in omega arith

pub sound_file : (form : Form) (file : FullFile) → IsFile form file → ((i : ℕ) → get_or file.bytes i 0 < 256) → IsSound file
sound_file (full path) file is bytes = (path, is, all_below file.bytes bytes)

pub nothing_taken : (held : Option Held) → IsTakenIn held [] [] 0
nothing_taken held = record { taken = record { each = tt; few = omega arith; small = omega arith }; sound = tt; count = refl }

pub taken_more : (held : Option Held) (words : List Word) (files : List Opened) (bytes : ℕ) (w : Word) (o : Opened) → IsTakenIn held words files bytes → Opens held w o → ((i : ℕ) → get_or o.file.bytes i 0 < 256)
    → length files < MOST_FILES → bytes + length o.file.bytes ≤ MOST_BYTES → IsTakenIn held (words ++ w ∷ []) (files ++ o ∷ []) (bytes + length o.file.bytes)
taken_more held words files bytes w o was is below few small =
    let more = total_more files o in
    let count = was.count in
    record {
      taken = record { each = each_more held words files w o was.taken.each is; few = omega (arith, length_push files o); small = omega arith };
      sound = all_push (λ (o : Opened). IsSound o.file) files o was.sound (sound_file w.form o.file is.open_as.is below);
      count = omega arith;
    }

pub next_taken : (held now : Option Held) (sources : List Source) (i : ℕ) (x : Source) (kept new : List SessionFile) (f : SessionFile) (bytes n : ℕ) (body : List ℕ) → slice_get sources i ≡ Some x
    → IsTakenIn held (map word_of (take i sources)) (all_opened kept) bytes → now ≡ held → Opens now (word_of x) (opened_of f) → body ≡ f.image.bytes → ((j : ℕ) → get_or body j 0 < 256) → n ≡ length body
    → length kept < MOST_FILES → bytes + length f.image.bytes ≤ MOST_BYTES → new ≡ kept ++ f ∷ [] → IsTakenIn held (map word_of (take (i + 1) sources)) (all_opened new) (bytes + n)
next_taken held now sources i x kept new f bytes n body at so_far same opens is below count few small pushed =
    let opens_held = subst (λ (h : Option Held). Opens h (word_of x) (opened_of f)) same opens in
    let bytes_below = subst (λ (b : List ℕ). (j : ℕ) → get_or b j 0 < 256) is below in
    let more = taken_more held (map word_of (take i sources)) (all_opened kept) bytes (word_of x) (opened_of f) so_far opens_held bytes_below (omega (arith, length_opened kept)) small in
    let next : suc i ≡ i + 1 = omega arith in
    let words : map word_of (take i sources) ++ word_of x ∷ [] ≡ map word_of (take (i + 1) sources)
    = sym (map_join word_of (take i sources) x []) ∙ sym (ap (map word_of) (take_next sources i x at)) ∙ ap (λ n. map word_of (take n sources)) next in
    let files : all_opened kept ++ opened_of f ∷ [] ≡ all_opened new = sym (map_join opened_of kept f []) ∙ sym (ap all_opened pushed) in
    let sum : bytes + length f.image.bytes ≡ bytes + n = sym (ap (λ n. bytes + n) (count ∙ ap length is)) in
    subst (λ (ws : List Word). IsTakenIn held ws (all_opened new) (bytes + n)) words
    (subst (λ (os : List Opened). IsTakenIn held (map word_of (take i sources) ++ word_of x ∷ []) os (bytes + n)) files
    (subst (λ (m : ℕ). IsTakenIn held (map word_of (take i sources) ++ word_of x ∷ []) (all_opened kept ++ opened_of f ∷ []) m) sum more))
