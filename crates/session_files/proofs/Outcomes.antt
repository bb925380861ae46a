-- A name has one outcome, if a file lists it.
use Rattle.std.proofs.Common.{◌≡◌, ◌⊎◌, ℕ, List, inl, inr, Ok, Err, Option, Some, None, slice_get, option_map, refl, sym, ap, ◌∙◌}
use Rattle.decl_spelling.proofs.DeclAtLaws.{decl_found, decl_again}
use Rattle.decl_spelling.specs.Declarations.{decl_at}
use Rattle.decl_spelling.specs.Sections.{HoldsBytes}
use Rattle.session_files.specs.FileSections.{sections_in}
use Rattle.session_files.specs.Sessions.{Opened, IsSound, AreSound, IsUnknown}
use Rattle.session_files.specs.Names.{At, comes_down, stands_at}
use Rattle.session_files.specs.Answers.{Outcome, IsOutcomeAt, HasOutcome, decls}
use Rattle.session_files.proofs.Bytes.{holds_bytes, one_of}
use Rattle.session_files.proofs.Standing.{stood, unknown, stands_again, one_place}

module _ (files : List Opened) (sound : AreSound files) where
  held : (file : ℕ) (o : Opened) → slice_get files file ≡ Some o → HoldsBytes (sections_in o.file)
  held file o there = holds_bytes o.file (one_of (λ o. IsSound o.file) files file o sound there)

  is_found : (o : Opened) → HoldsBytes (sections_in o.file) → (offset : ℕ) (outcome : Outcome) → decl_at (sections_in o.file) (comes_down files) offset ≡ outcome → IsOutcomeAt (comes_down files) o.file offset outcome
  is_found o bytes offset (Ok decl) e = decl_found (sections_in o.file) (comes_down files) bytes offset decl e
  is_found o bytes offset (Err fault) e = e

  is_again : (o : Opened) → HoldsBytes (sections_in o.file) → (offset : ℕ) (outcome : Outcome) → IsOutcomeAt (comes_down files) o.file offset outcome → decl_at (sections_in o.file) (comes_down files) offset ≡ outcome
  is_again o bytes offset (Ok decl) is = decl_again (sections_in o.file) (comes_down files) bytes offset decl is
  is_again o bytes offset (Err fault) is = is

  -- what stands at the first declaration of a name
  pub outcome_at : (path name : List ℕ) (at : At) (outcome : Outcome) → stands_at files path name ≡ Some at → decl_at (sections_in at.0) (comes_down files) at.1 ≡ outcome
      → (file number : ℕ) × HasOutcome files path name file number outcome
  outcome_at path name at outcome e is =
      let s = stood files path name at e in
      let here : decl_at (sections_in s.opened.file) (comes_down files) at.1 ≡ outcome = ap (λ f. decl_at (sections_in f) (comes_down files) at.1) s.its_file ∙ is in (
        s.file,
        s.number,
        record {
          opened = s.opened;
          offset = at.1;
          stands = s.stands;
          is = is_found s.opened (held s.file s.opened s.stands.there) at.1 outcome here;
        },
      )

  pub some_outcome : (path name : List ℕ) → IsUnknown files path name ⊎ ((file number : ℕ) × (outcome : Outcome) × HasOutcome files path name file number outcome)
  some_outcome path name = go (stands_at files path name) refl
    where
      go : (x : Option At) → stands_at files path name ≡ x → IsUnknown files path name ⊎ ((file number : ℕ) × (outcome : Outcome) × HasOutcome files path name file number outcome)
      go None e = inl (unknown files path name e)
      go (Some at) e =
          let outcome = decl_at (sections_in at.0) (comes_down files) at.1 in
          let has = outcome_at path name at outcome e refl in
          inr (has.0, has.1, outcome, has.2)

  pub one_outcome : (path name : List ℕ) (f g i j : ℕ) (a b : Outcome) → HasOutcome files path name f i a → HasOutcome files path name g j b → (f ≡ g) × (i ≡ j) × (a ≡ b)
  one_outcome path name f g i j a b first second =
      let same = one_place files sound path name f g i j first.opened second.opened first.offset second.offset first.stands second.stands in
      let one = is_again first.opened (held f first.opened first.stands.there) first.offset a first.is in
      let two = is_again second.opened (held g second.opened second.stands.there) second.offset b second.is in
      let between : decl_at (sections_in first.opened.file) (comes_down files) first.offset ≡ decl_at (sections_in second.opened.file) (comes_down files) second.offset
      = ap (λ (o : Opened). decl_at (sections_in o.file) (comes_down files) first.offset) same.opened ∙ ap (decl_at (sections_in second.opened.file) (comes_down files)) same.offsets in
      (same.files, same.numbers, sym one ∙ between ∙ two)

  pub decls_found : (path name : List ℕ) (outcome : Outcome) → decls files path name ≡ Some outcome → (file number : ℕ) × HasOutcome files path name file number outcome
  decls_found path name outcome e = go (stands_at files path name) refl e
    where
      go : (x : Option At) → stands_at files path name ≡ x → option_map (λ at. decl_at (sections_in at.0) (comes_down files) at.1) x ≡ Some outcome
          → (file number : ℕ) × HasOutcome files path name file number outcome
      go None at e = absurd cc
      go (Some x) at e = let is : decl_at (sections_in x.0) (comes_down files) x.1 ≡ outcome = cc in outcome_at path name x outcome at is

  pub decls_again : (path name : List ℕ) (outcome : Outcome) (file number : ℕ) → HasOutcome files path name file number outcome → decls files path name ≡ Some outcome
  decls_again path name outcome file number has =
      ap (option_map (λ at. decl_at (sections_in at.0) (comes_down files) at.1)) (stands_again files sound path name file number has.opened has.offset has.stands)
      ∙ ap (λ r. Some r) (is_again has.opened (held file has.opened has.stands.there) has.offset outcome has.is)
