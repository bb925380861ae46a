-- Readings by parts: what follows their bytes changes nothing but `ended`.
use Rattle.std.proofs.Common.{◌≡◌, ℕ, Bool, true, false, List, ◌++◌, Result, Ok, Err, refl, sym, ap, ◌∙◌, inl, inr}
use Rattle.wire_bytes.specs.declared.fault.ByteFault.{ByteFault}
use Rattle.wire_bytes.specs.declared.fault.ByteFault.TheVariants as faults
use Rattle.wire_bytes.specs.Reading.{◌>>=◌}
use Rattle.wire_bytes.specs.Local.{is_ended, AreBytes, wants_more as wants}
use Rattle.wire_bytes.proofs.LocalLemmas.{AreBytes-append, bind_err}
use Rattle.wire_bytes.proofs.Steps.{bind_ok}

-- What is read of a state, which has an end and goes on: an answer and each fault but `ended` stay, and `ended` stands
-- at the end and comes only where more bytes give another answer.
pub record IsSettled {S Y : Type 0} (grow : S → List ℕ → S) (end_of : S → ℕ) (run : S → Result Y ByteFault) : Type 0 where
  pub stays : (s : S) (y : Y) (more : List ℕ) → run s ≡ Ok y → run (grow s more) ≡ Ok y
  pub refused : (s : S) (f : ByteFault) (more : List ℕ) → run s ≡ Err f → is_ended f ≡ false → run (grow s more) ≡ Err f
  pub end : (s : S) (at : ℕ) → run s ≡ Err (faults.Ended at) → at ≡ end_of s
  pub goes_on : (s : S) → wants (run s) ≡ true → (more : List ℕ) × AreBytes more × (wants (run (grow s more)) ≡ false)

-- the same of a part that gives the next state
pub record IsPart {S W : Type 0} (grow : S → List ℕ → S) (end_of : S → ℕ) (grow_on : W → List ℕ → W) (end_on : W → ℕ) (part : S → Result W ByteFault) : Type 0 where
  pub stays : (s : S) (w : W) (more : List ℕ) → part s ≡ Ok w → part (grow s more) ≡ Ok (grow_on w more)
  pub refused : (s : S) (f : ByteFault) (more : List ℕ) → part s ≡ Err f → is_ended f ≡ false → part (grow s more) ≡ Err f
  pub end : (s : S) (at : ℕ) → part s ≡ Err (faults.Ended at) → at ≡ end_of s
  pub same_end : (s : S) (w : W) → part s ≡ Ok w → end_on w ≡ end_of s
  pub goes_on : (s : S) → wants (part s) ≡ true → (more : List ℕ) × AreBytes more × (wants (part (grow s more)) ≡ false)

module _ {S W Y : Type 0} (grow : S → List ℕ → S) (end_of : S → ℕ) (grow_on : W → List ℕ → W) (end_on : W → ℕ)
    (twice : (s : S) (some more : List ℕ) → grow (grow s some) more ≡ grow s (some ++ more)) (part : S → Result W ByteFault) (next : W → Result Y ByteFault)
    (first : IsPart grow end_of grow_on end_on part) (second : IsSettled grow_on end_on next) where
  abbrev both : S → Result Y ByteFault
  both s = part s >>= next

  on : (s : S) (w : W) (more : List ℕ) → part s ≡ Ok w → both (grow s more) ≡ next (grow_on w more)
  on s w more e = ap (λ (r : Result W ByteFault). r >>= next) (first.stays s w more e)

  more_for_next : (s : S) (more : List ℕ) → AreBytes more → (w : W) → part (grow s more) ≡ Ok w → (more : List ℕ) × AreBytes more × (wants (both (grow s more)) ≡ false)
  more_for_next s more fits w e = by (wants (next w)) refl
    where
      by : (b : Bool) → wants (next w) ≡ b → (more : List ℕ) × AreBytes more × (wants (both (grow s more)) ≡ false)
      by false is = (more, fits, ap (λ (r : Result W ByteFault). wants (r >>= next)) e ∙ is)
      by true is =
          let rest = second.goes_on w is in (
            more ++ rest.0,
            AreBytes-append more rest.0 fits rest.1,
            ap (λ (t : S). wants (both t)) (sym (twice s more rest.0)) ∙ ap (λ (r : Result Y ByteFault). wants r) (on (grow s more) w rest.0 e) ∙ rest.2,
          )

  goes_further : (s : S) → wants (both s) ≡ true → (more : List ℕ) × AreBytes more × (wants (both (grow s more)) ≡ false)
  goes_further s e = by (part s) refl
    where
      by : (r : Result W ByteFault) → part s ≡ r → (more : List ℕ) × AreBytes more × (wants (both (grow s more)) ≡ false)
      by (Ok w) is =
          let wanting : wants (next w) ≡ true = sym (ap (λ (r : Result W ByteFault). wants (r >>= next)) is) ∙ e in
          let rest = second.goes_on w wanting in
          (rest.0, rest.1, ap (λ (r : Result Y ByteFault). wants r) (on s w rest.0 is) ∙ rest.2)
      by (Err f) is =
          let wanting : wants (part s) ≡ true = ap (λ (r : Result W ByteFault). wants r) is ∙ sym (ap (λ (r : Result W ByteFault). wants (r >>= next)) is) ∙ e in
          let more = first.goes_on s wanting in
          then_next more.0 more.1 more.2 (part (grow s more.0)) refl
        where
          then_next : (more : List ℕ) → AreBytes more → wants (part (grow s more)) ≡ false → (r : Result W ByteFault) → part (grow s more) ≡ r
              → (more : List ℕ) × AreBytes more × (wants (both (grow s more)) ≡ false)
          then_next more fits enough (Ok w) is = more_for_next s more fits w is
          then_next more fits enough (Err g) is =
              let plain : is_ended g ≡ false = sym (ap (λ (r : Result W ByteFault). wants r) is) ∙ enough in
              (more, fits, ap (λ (r : Result W ByteFault). wants (r >>= next)) is ∙ plain)

  pub settled : IsSettled grow end_of both
  settled = record {
    stays = λ s y more e. let step = bind_ok (part s) next y e in on s step.0 more step.1 ∙ second.stays step.0 y more step.2;
    refused = λ s f more e plain.
        elim (bind_err (part s) next f e) [
          | inl one ↦ ap (λ (r : Result W ByteFault). r >>= next) (first.refused s f more one plain)
          | inr two ↦ on s two.0 more two.1 ∙ second.refused two.0 f more two.2 plain
        ];
    end = λ s at e.
        elim (bind_err (part s) next (faults.Ended at) e) [
          | inl one ↦ first.end s at one
          | inr two ↦ second.end two.0 at two.2 ∙ first.same_end s two.0 two.1
        ];
    goes_on = goes_further;
  }
