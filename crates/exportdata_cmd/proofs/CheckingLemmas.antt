-- What is put of verdicts is what is wrong with the names of files.
use Rattle.std.proofs.Common.{◌≡◌, ◌⊎◌, inl, inr, ℕ, zero, suc, ◌<◌, List, [], ◌∷◌, ◌++◌, Bool, true, false, cond, ◌≤◌, drop, length, map, Option, Some, None, IsSome, is_some, option_map, option_and_then, slice_get, refl, sym, ap, ◌∙◌, subst, arith}
use Rattle.std.specs.List.{flat_map, AllZip}
use Rattle.std.proofs.lemmas.List.{drop_all}
use Rattle.std.proofs.lemmas.Option.{slice_get_within}
use Rattle.wire_bytes.specs.declared.fault.ByteFault.{ByteFault}
use Rattle.go_values.specs.declared.qualified.QName.{QName}
use Rattle.environments.specs.declared.mentions.Reference.{Reference}
use Rattle.dangling_types.specs.NodeReferences.{own_reference, reference_at}
use Rattle.type_terms.specs.declared.descriptors.Node.{Node}
use Rattle.name_index.specs.FullFile.{FullFile, Listed, listed}
use Rattle.session_files.specs.Sessions.{Opened, qualified}
use Rattle.checked_files.specs.Checking.{Flaw, damaged, dangling, flaw_at, Says, AreSaid}
use Rattle.checked_files.specs.declared.checking.Verdict.{Verdict}
use Rattle.checked_files.specs.declared.checking.Verdict.TheVariants.{Sound, Damaged, Dangles}
use Rattle.exportdata_cmd.specs.Printed.{Line}
use Rattle.exportdata_cmd.specs.Checking.{flaw_line, flaw_lines, bad_lines, or_ok, ok_line, checked_lines, unless_bad, checked_status, AreSaidOf, are_sound, verdict_status, HasReference}
use Rattle.exportdata_cmd.specs.declared.exits.Status.{Status}
use Rattle.exportdata_cmd.specs.declared.exits.Status.TheVariants.{Done, Refused}

pub checked_either : (files some : List Opened) → (checked_status files some ≡ Done) ⊎ (checked_status files some ≡ Refused)
checked_either files [] = inl refl
checked_either files (o ∷ rest) = by (bad_lines files o) (checked_either files rest)
  where
    by : (bad : List Line) → (checked_status files rest ≡ Done) ⊎ (checked_status files rest ≡ Refused)
        → (unless_bad (checked_status files rest) bad ≡ Done) ⊎ (unless_bad (checked_status files rest) bad ≡ Refused)
    by [] others = others
    by (line ∷ bad) others = inr refl

-- there are no lines, or there is a first
abbrev pub BySound : Bool → List Line → Type 0
BySound true lines = lines ≡ []
BySound false lines = (bad : Line) × (more : List Line) × (lines ≡ bad ∷ more)

module _ (nodes : List Node) (files : List Opened) (o : Opened) where
  abbrev lines_of : Listed → List Line
  lines_of l = flaw_lines o.label (qualified l) (flaw_at files o.file l)

  sound_of : (verdicts : List Verdict) (ls : List Listed) → AllZip (λ verdict l. Says nodes verdict (flaw_at files o.file l)) verdicts ls
      → BySound (are_sound verdicts) (flat_map lines_of ls)
  sound_of [] [] all = refl
  sound_of [] (l ∷ ls) all = absurd all
  sound_of (verdict ∷ verdicts) [] all = absurd all
  sound_of (Sound ∷ verdicts) (l ∷ ls) all =
      subst (BySound (are_sound verdicts)) (sym (ap (λ f. flaw_lines o.label (qualified l) f ++ flat_map lines_of ls) all.0)) (sound_of verdicts ls all.1)
  sound_of (Damaged fault ∷ verdicts) (l ∷ ls) all =
      (_, flat_map lines_of ls, ap (λ f. flaw_lines o.label (qualified l) f ++ flat_map lines_of ls) all.0)
  sound_of (Dangles id ∷ verdicts) (l ∷ ls) all =
      (_, flat_map lines_of ls, ap (λ f. flaw_lines o.label (qualified l) f ++ flat_map lines_of ls) all.0.2)

  module _ (verdicts : List Verdict) (said : AreSaid nodes files o.file verdicts) where
    pub sound_lines : (count : ℕ) → count ≡ length (listed o.file.packages) → are_sound verdicts ≡ true → ok_line o.label count ∷ [] ≡ checked_lines files o
    sound_lines count counted sound =
        let none : bad_lines files o ≡ [] = subst (λ b. BySound b (bad_lines files o)) sound (sound_of verdicts (listed o.file.packages) said) in
        ap (λ n. ok_line o.label n ∷ []) counted ∙ sym (ap (or_ok (ok_line o.label (length (listed o.file.packages)))) none)

    pub unsound_lines : are_sound verdicts ≡ false → bad_lines files o ≡ checked_lines files o
    unsound_lines unsound =
        let bad = subst (λ b. BySound b (bad_lines files o)) unsound (sound_of verdicts (listed o.file.packages) said) in
        bad.2 ∙ sym (ap (or_ok (ok_line o.label (length (listed o.file.packages)))) bad.2)

    pub status_of_file : (rest : Status) → cond (are_sound verdicts) rest Refused ≡ unless_bad rest (bad_lines files o)
    status_of_file rest = by (are_sound verdicts) (bad_lines files o) (sound_of verdicts (listed o.file.packages) said)
      where
        by : (sound : Bool) (lines : List Line) → BySound sound lines → cond sound rest Refused ≡ unless_bad rest lines
        by true lines none = sym (ap (unless_bad rest) none)
        by false lines bad = sym (ap (unless_bad rest) bad.2)

-- the status of verdicts on all files
pub status_said : (nodes : List Node) (files some : List Opened) (all : List (List Verdict)) → AreSaidOf nodes files some all → verdict_status all ≡ checked_status files some
status_said nodes files [] [] said = refl
status_said nodes files [] (verdicts ∷ all) said = absurd said
status_said nodes files (o ∷ some) [] said = absurd said
status_said nodes files (o ∷ some) (verdicts ∷ all) said =
    ap (λ rest. cond (are_sound verdicts) rest Refused) (status_said nodes files some all said.1)
    ∙ status_of_file nodes files o verdicts said.0 (checked_status files some)

-- ---- at a place

pub record SaidAt {A B : Type 0} (R : A → B → Type 0) (xs : List A) (i : ℕ) (y : B) : Type 0 where
  pub x : A
  pub there : slice_get xs i ≡ Some x
  pub inside : i < length xs
  pub is : R x y

pub said_at : {A B : Type 0} (R : A → B → Type 0) (xs : List A) (ys : List B) (i : ℕ) (y : B) → AllZip R xs ys → slice_get ys i ≡ Some y → SaidAt R xs i y
said_at R [] [] i y all at = absurd cc
said_at R [] (w ∷ ys) i y all at = absurd all
said_at R (x ∷ xs) [] i y all at = absurd all
said_at R (x ∷ xs) (w ∷ ys) zero y all at =
    let same : w ≡ y = cc in
    record { x = x; there = refl; inside = omega arith; is = subst (R x) same all.0 }
said_at R (x ∷ xs) (w ∷ ys) (suc i) y all at =
    let b = said_at R xs ys i y all.1 at in
    record { x = b.x; there = b.there; inside = omega (arith, b.inside); is = b.is }

-- by what stands there
pub said_of : {A B : Type 0} (R : A → B → Type 0) (xs : List A) (ys : List B) (i : ℕ) (x : A) (y : B) → AllZip R xs ys → slice_get ys i ≡ Some y → slice_get xs i ≡ Some x → R x y
said_of R [] [] i x y all at here = absurd cc
said_of R [] (w ∷ ys) i x y all at here = absurd all
said_of R (z ∷ xs) [] i x y all at here = absurd all
said_of R (z ∷ xs) (w ∷ ys) zero x y all at here =
    let same : w ≡ y = cc in
    let this : z ≡ x = cc in
    subst (λ x. R x y) this (subst (R z) same all.0)
said_of R (z ∷ xs) (w ∷ ys) (suc i) x y all at here = said_of R xs ys i x y all.1 at here

pub zip_mapped : {A B C : Type 0} (R : A → C → Type 0) (f : B → A) (xs : List B) (ys : List C) → AllZip (λ x y. R (f x) y) xs ys → AllZip R (map f xs) ys
zip_mapped R f [] [] all = tt
zip_mapped R f [] (y ∷ ys) all = absurd all
zip_mapped R f (x ∷ xs) [] all = absurd all
zip_mapped R f (x ∷ xs) (y ∷ ys) all = (all.0, zip_mapped R f xs ys all.1)

-- the file with a number, by what is lent of it
pub opened_there : (files : List Opened) (n : ℕ) (label : List ℕ) (file : FullFile) → Some file ≡ option_map (λ (o : Opened). o.file) (slice_get files n)
    → Some label ≡ option_map (λ (o : Opened). o.label) (slice_get files n) → slice_get files n ≡ Some (record { label = label; file = file })
opened_there files n label file image named = by (slice_get files n) image named
  where
    by : (o : Option Opened) → Some file ≡ option_map (λ (o : Opened). o.file) o → Some label ≡ option_map (λ (o : Opened). o.label) o
        → o ≡ Some (record { label = label; file = file })
    by None image named = absurd cc
    by (Some o) image named =
        let same_file : file ≡ o.file = cc in
        let same_label : label ≡ o.label = cc in
        λ i. Some (record { label = sym same_label i; file = sym same_file i })

pub has_reference : (nodes : List Node) (verdict : Verdict) (flaw : Option Flaw) → Says nodes verdict flaw → HasReference nodes verdict
has_reference nodes Sound flaw says = tt
has_reference nodes (Damaged fault) flaw says = tt
has_reference nodes (Dangles id) flaw says = ap is_some says.1

-- a node that makes a reference is there
pub reference_within : (nodes : List Node) (id : ℕ) → IsSome (reference_at nodes id) → id < length nodes
reference_within nodes id some = by (slice_get nodes id) refl some
  where
    by : (node : Option Node) → slice_get nodes id ≡ node → IsSome (option_and_then (own_reference nodes) node) → id < length nodes
    by None at some = absurd cc
    by (Some node) at some = slice_get_within nodes id node at

pub no_reference : (nodes : List Node) (id : ℕ) → IsSome (reference_at nodes id) → None ≡ option_map (λ (r : Reference). r.name) (reference_at nodes id) → ⊥
no_reference nodes id some none = by (reference_at nodes id) some none
  where
    by : (r : Option Reference) → IsSome r → None ≡ option_map (λ (r : Reference). r.name) r → ⊥
    by None some none = cc
    by (Some r) some none = cc

pub its_name : (q : QName) (o : Option Reference) (r : Reference) → Some q ≡ option_map (λ (r : Reference). r.name) o → o ≡ Some r → q ≡ r.name
its_name q o r named is = only (named ∙ ap (option_map (λ (r : Reference). r.name)) is)
  where
    only : Some q ≡ Some r.name → q ≡ r.name
    only e = cc

-- what is put of a verdict is what is put of the flaw that it says
pub puts_sound : (file : List ℕ) (q : QName) (nodes : List Node) (flaw : Option Flaw) → Says nodes Sound flaw → [] ≡ flaw_lines file q flaw
puts_sound file q nodes flaw says = sym (ap (flaw_lines file q) says)

pub puts_bad : (file : List ℕ) (q : QName) (nodes : List Node) (fault : ByteFault) (flaw : Option Flaw) → Says nodes (Damaged fault) flaw → flaw_line file q (damaged fault) ∷ [] ≡ flaw_lines file q flaw
puts_bad file q nodes fault flaw says = sym (ap (flaw_lines file q) says)

pub puts_dangling : (file : List ℕ) (q : QName) (nodes : List Node) (id : ℕ) (flaw : Option Flaw) (says : Says nodes (Dangles id) flaw) → flaw_line file q (dangling says.0.name) ∷ [] ≡ flaw_lines file q flaw
puts_dangling file q nodes id flaw says = sym (ap (flaw_lines file q) says.2)

-- ---- the tests

pub sound_next : (verdicts : List Verdict) (k : ℕ) → slice_get verdicts k ≡ Some Sound → are_sound (drop k verdicts) ≡ are_sound (drop (suc k) verdicts)
sound_next [] k at = absurd cc
sound_next (v ∷ verdicts) zero at = let same : v ≡ Sound = cc in ap (λ v. are_sound (v ∷ verdicts)) same
sound_next (v ∷ verdicts) (suc k) at = sound_next verdicts k at

abbrev pub IsBad : Verdict → Type 0
IsBad Sound = ⊥
IsBad (Damaged fault) = Unit {0}
IsBad (Dangles id) = Unit {0}

pub bad_next : (verdicts : List Verdict) (k : ℕ) (verdict : Verdict) → slice_get verdicts k ≡ Some verdict → IsBad verdict → are_sound (drop k verdicts) ≡ false
bad_next [] k verdict at bad = absurd cc
bad_next (v ∷ verdicts) zero verdict at bad = let same : v ≡ verdict = cc in ap (λ v. are_sound (v ∷ verdicts)) same ∙ by verdict bad
  where
    by : (verdict : Verdict) → IsBad verdict → are_sound (verdict ∷ verdicts) ≡ false
    by Sound bad = absurd bad
    by (Damaged fault) bad = refl
    by (Dangles id) bad = refl
bad_next (v ∷ verdicts) (suc k) verdict at bad = bad_next verdicts k verdict at bad

pub sound_end : (verdicts : List Verdict) (k : ℕ) → length verdicts ≤ k → are_sound (drop k verdicts) ≡ true
sound_end verdicts k all = ap are_sound (drop_all k verdicts all)

module _ {V : Type 0} (items : V → List Verdict) where
  pub file_next : (files : List V) (k : ℕ) (file : V) → slice_get files k ≡ Some file
      → verdict_status (map items (drop k files)) ≡ cond (are_sound (items file)) (verdict_status (map items (drop (suc k) files))) Refused
  file_next [] k file at = absurd cc
  file_next (f ∷ files) zero file at = let same : f ≡ file = cc in ap (λ f. cond (are_sound (items f)) (verdict_status (map items files)) Refused) same
  file_next (f ∷ files) (suc k) file at = file_next files k file at

  pub files_end : (files : List V) (k : ℕ) → length files ≤ k → verdict_status (map items (drop k files)) ≡ Done
  files_end files k all = ap (λ fs. verdict_status (map items fs)) (drop_all k files all)
