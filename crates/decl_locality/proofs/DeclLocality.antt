-- The laws of whole declarations.
use Rattle.std.proofs.Common.{◌≡◌, ℕ, zero, suc, ◌++◌, Bool, append_assoc, length-append, ◌+◌, ◌-◌, ◌<◌, ◌≤◌, true, false, List, [], ◌∷◌, length, take, drop, Result, Ok, Err, refl, sym, ap, ◌∙◌, arith, inl, inr}
use Rattle.std.proofs.lemmas.Bool.{cases_lt}
use Rattle.wire_bytes.specs.declared.fault.ByteFault.{ByteFault}
use Rattle.wire_bytes.specs.declared.fault.ByteFault.TheVariants.{Ended}
use Rattle.wire_bytes.specs.declared.fault.ByteFault.TheVariants as faults
use Rattle.wire_bytes.specs.Local.{is_ended, AreBytes, IsAmong, wants_more}
use Rattle.wire_bytes.proofs.LocalLemmas.{AreBytes-append, failed, fault_is}
use Rattle.type_terms.specs.Declarations.{Decl}
use Rattle.decl_spelling.specs.Sections.{Sections, Basics}
use Rattle.decl_spelling.specs.Reading.{start}
use Rattle.decl_spelling.specs.Declarations.{head_at, decl_at, FirstFault}
use Rattle.decl_spelling.proofs.Windows.{part_length}
use Rattle.decl_locality.specs.LocalReaders.{longer}
use Rattle.decl_locality.specs.LongerFiles.{with_behind}
use Rattle.decl_locality.proofs.DeclStays.{decl_from, decl_settled, at_block, decl_here, decl_longer}
use Rattle.decl_locality.proofs.DeclInside.{decl_inside}

empty_is : (bytes : List ℕ) → length bytes ≡ 0 → bytes ≡ []
empty_is [] e = refl
empty_is (b ∷ bytes) e = absurd (omega (arith, e))

module _ (src : Sections) (basics : Basics) (offset : ℕ) where
  -- nothing stands behind the data section
  nothing_there : length src.body < offset → decl_at src basics offset ≡ Err (Ended (src.body_at + length src.body))
  unfolding head_at
  nothing_there far =
      let long = part_length src.body offset (length src.body) (omega arith) in
      decl_here src basics offset
      ∙ ap (λ (left : List ℕ). decl_from src basics offset (start (record { end = src.body_at + length src.body; left = left })))
      (empty_is (take (length src.body - offset) (drop offset src.body)) (omega (arith, long, far)))

  plain_within : (f : ByteFault) → is_ended f ≡ false → decl_at src basics offset ≡ Err f → offset ≤ length src.body
  plain_within f plain e = elim (cases_lt (length src.body) offset) [
    | inl far ↦ absurd (let is = ap is_ended (fault_is (Ended (src.body_at + length src.body)) f (sym (nothing_there far) ∙ e)) in cc)
    | inr near ↦ near
  ]

  read_within : (decl : Decl) → decl_at src basics offset ≡ Ok decl → offset ≤ length src.body
  read_within decl e = elim (cases_lt (length src.body) offset) [
    | inl far ↦ absurd (let no = sym (nothing_there far) ∙ e in cc)
    | inr near ↦ near
  ]

  pub decl_read : (decl : Decl) (more : List ℕ) → decl_at src basics offset ≡ Ok decl → decl_at (with_behind src more) basics offset ≡ Ok decl
  decl_read decl more e =
      decl_longer src basics offset more (read_within decl e)
      ∙ (decl_settled src basics offset).stays (at_block src basics offset) decl more (sym (decl_here src basics offset) ∙ e)

  pub decl_refused : (f : ByteFault) (more : List ℕ) → FirstFault src basics offset f → is_ended f ≡ false → FirstFault (with_behind src more) basics offset f
  decl_refused f more e plain =
      decl_longer src basics offset more (plain_within f plain e)
      ∙ (decl_settled src basics offset).refused (at_block src basics offset) f more (sym (decl_here src basics offset) ∙ e) plain

  pub decl_among : (f : ByteFault) → FirstFault src basics offset f → is_ended f ≡ false → IsAmong src.body_at (src.body_at + length src.body) f
  decl_among f e plain = decl_inside src basics offset (plain_within f plain e) f plain (sym (decl_here src basics offset) ∙ e)

  pub decl_end : (at : ℕ) → FirstFault src basics offset (Ended at) → at ≡ src.body_at + length src.body
  decl_end at e = (decl_settled src basics offset).end (at_block src basics offset) at (sym (decl_here src basics offset) ∙ e)

  goes_on_within : (at : ℕ) → offset ≤ length src.body → FirstFault src basics offset (Ended at)
      → (more : List ℕ) × AreBytes more × ((at : ℕ) → FirstFault (with_behind src more) basics offset (Ended at) → ⊥)
  goes_on_within at within e =
      let wanting : wants_more (decl_from src basics offset (at_block src basics offset)) ≡ true = ap (λ (r : Result Decl ByteFault). wants_more r) (sym (decl_here src basics offset) ∙ e) in
      let more = (decl_settled src basics offset).goes_on (at_block src basics offset) wanting in
      (more.0, more.1, λ other again. enough more.0 more.2 other again)
    where
      enough : (more : List ℕ) → wants_more (decl_from src basics offset (longer (at_block src basics offset) more)) ≡ false → (other : ℕ) → FirstFault (with_behind src more) basics offset (Ended other) → ⊥
      enough more fine other again =
          let wanting = ap (λ (r : Result Decl ByteFault). wants_more r) (sym (decl_longer src basics offset more within) ∙ again) in
          let both : false ≡ true = sym fine ∙ wanting in cc

-- ---- an offset behind the data section

abbrev zeros : ℕ → List ℕ
zeros zero = []
zeros (suc n) = 0 ∷ zeros n

zeros_length : (n : ℕ) → length (zeros n) ≡ n
zeros_length zero = refl
zeros_length (suc n) = ap suc (zeros_length n)

zeros_are : (n : ℕ) → AreBytes (zeros n)
zeros_are zero i = omega arith
zeros_are (suc n) zero = omega arith
zeros_are (suc n) (suc i) = zeros_are n i

ended_at : (f : ByteFault) → is_ended f ≡ true → (at : ℕ) × (f ≡ Ended at)
ended_at (Ended at) e = (at, refl)
ended_at (faults.Number at) e = absurd cc
ended_at (faults.Range at value) e = absurd cc
ended_at (faults.Tag at value) e = absurd cc
ended_at (faults.Order at) e = absurd cc
ended_at (faults.Version found) e = absurd cc
ended_at (faults.Wide at) e = absurd cc
ended_at (faults.Float at) e = absurd cc
ended_at (faults.NotConst at) e = absurd cc
ended_at (faults.Trailing at) e = absurd cc

behind_twice : (src : Sections) (some more : List ℕ) → with_behind (with_behind src some) more ≡ with_behind src (some ++ more)
behind_twice src some more =
    ap (λ (body : List ℕ). record { strings = src.strings; body = body; body_at = src.body_at; version = src.version; own = src.own; paths = src.paths })
    (append_assoc src.body some more)

module _ (src : Sections) (basics : Basics) (offset : ℕ) where
  abbrev Enough : List ℕ → Type 0
  Enough more = (at : ℕ) → FirstFault (with_behind src more) basics offset (Ended at) → ⊥

  -- the section reaches the offset, and then there is enough or more follows
  reached : (some : List ℕ) → AreBytes some → offset ≤ length (src.body ++ some) → (more : List ℕ) × AreBytes more × Enough more
  reached some fits near = by (decl_at (with_behind src some) basics offset) refl
    where
      by : (r : Result Decl ByteFault) → decl_at (with_behind src some) basics offset ≡ r → (more : List ℕ) × AreBytes more × Enough more
      by (Ok decl) is = (some, fits, λ at again. absurd (let no = sym is ∙ again in cc))
      by (Err f) is = ended (is_ended f) refl
        where
          ended : (b : Bool) → is_ended f ≡ b → (more : List ℕ) × AreBytes more × Enough more
          ended false plain = (some, fits, λ at again. let same = fault_is f (Ended at) (sym is ∙ again) in absurd (let no = sym plain ∙ ap is_ended same in cc))
          ended true e =
              let there = ended_at f e in
              let further = goes_on_within (with_behind src some) basics offset there.0 near (is ∙ ap (λ (f : ByteFault). failed Decl f) there.1) in (
                some ++ further.0,
                AreBytes-append some further.0 fits further.1,
                λ at again. further.2 at (ap (λ (longer : Sections). decl_at longer basics offset) (behind_twice src some further.0) ∙ again),
              )

  pub decl_goes_on : (at : ℕ) → FirstFault src basics offset (Ended at) → (more : List ℕ) × AreBytes more × Enough more
  decl_goes_on at e = elim (cases_lt (length src.body) offset) [
    | inl far ↦
        let some = zeros (offset - length src.body) in
        reached some (zeros_are (offset - length src.body)) (omega (arith, far, length-append src.body some, zeros_length (offset - length src.body)))
    | inr near ↦ goes_on_within src basics offset at near e
  ]
