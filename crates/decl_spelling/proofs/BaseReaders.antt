-- The readers of numbers, flags, texts, paths, positions and types.
use Rattle.std.proofs.Common.{Some, ◌≡◌, ℕ, ◌<◌, ◌≤◌, List, [], ◌∷◌, ◌++◌, length, Result, Ok, Err, refl, sym, ap, subst, ◌∙◌, append_assoc, arith, length-append}
use Rattle.std.proofs.lemmas.List.{append-nil}
use Rattle.wire_bytes.specs.declared.fault.ByteFault.{ByteFault}
use Rattle.wire_bytes.specs.declared.fault.ByteFault.TheVariants as faults
use Rattle.wire_bytes.specs.Reading.{Spot, place, onward, ◌>>=◌}
use Rattle.wire_bytes.specs.Begins.{Begins}
use Rattle.wire_bytes.specs.Uvarint.{Uvarint, uvarint_at}
use Rattle.wire_bytes.specs.Varint.{Flag, flag_at}
use Rattle.wire_bytes.specs.Text.{Text, text_in}
use Rattle.wire_bytes.proofs.Spellings.{IsBytes}
use Rattle.wire_bytes.proofs.TextLemmas.{text_takes, text_again}
use Rattle.wire_bytes.proofs.ManyLemmas.{Takes}
use Rattle.wire_bytes.proofs.CursorLemmas.{uvarint_at_takes, uvarint_at_again}
use Rattle.position_codec.specs.Place.{Named, moved_on}
use Rattle.position_codec.specs.Position.{position_at}
use Rattle.file_parts.specs.Paths.{IsPathAt, path_in}
use Rattle.position_codec.proofs.PositionLemmas.{position_again}
use Rattle.file_parts.proofs.PathLemmas.{path_again, path_takes}
use Rattle.decl_spelling.specs.declared.mention.Demand.{Demand}
use Rattle.decl_spelling.specs.Sections.{Sections}
use Rattle.decl_spelling.specs.Spelled.{SpelledText, SpelledPath, SpelledPos, SpelledType, without_pos}
use Rattle.decl_spelling.specs.Reading.{Ahead, Stopped, onto, plain, pos_after, placed, number_at, truth_at, text_at, path_at, pos_at, type_at}
use Rattle.decl_spelling.specs.Grammar.{Here, IsNumber, IsTruth, IsText, IsPath, IsPos, IsType}
use Rattle.decl_spelling.specs.Asks.{unplaced}
use Rattle.decl_spelling.proofs.Took.{Fits}
use Rattle.decl_spelling.proofs.Readers.{Answered, Reads, Stays, nothing, give, give_reads, judged_reads}
use Rattle.decl_spelling.proofs.ValueTakes.{flag_takes, flag_again, position_takes}

-- what stands in front of a window's bytes and of what follows the window, if it doesn't take from what follows
split_tail : (front after left tail : List ℕ) → left ++ tail ≡ front ++ after → length tail ≤ length after → (rest : List ℕ) × (after ≡ rest ++ tail) × (left ≡ front ++ rest)
split_tail [] after left tail e le = (left, sym e, refl)
split_tail (b ∷ front) after [] tail e le = absurd (omega (arith, ap (λ (bytes : List ℕ). length bytes) e, length-append (b ∷ front) after, le))
split_tail (b ∷ front) after (c ∷ left) tail e le =
    let both = parts (c ∷ left ++ tail) (b ∷ front ++ after) e in
    let rest = split_tail front after left tail both.1 le in
    (rest.0, rest.1, λ i. both.0 i ∷ rest.2 i)
  where
    first_of_all : List ℕ → ℕ
    first_of_all [] = 0
    first_of_all (x ∷ xs) = x

    others_of_all : List ℕ → List ℕ
    others_of_all [] = []
    others_of_all (x ∷ xs) = xs

    parts : (xs ys : List ℕ) → xs ≡ ys → (first_of_all xs ≡ first_of_all ys) × (others_of_all xs ≡ others_of_all ys)
    parts xs ys e = (ap first_of_all e, ap others_of_all e)

-- ---- what is read of the bytes alone

module _ {X : Type 0} (read : Spot → Result (X × Spot) ByteFault) (Spells : List ℕ → X → Type 0) where
  pub plain_reads : {Given : Type 0} → (Given → (s : Spot) (x : X) (after : Spot) → IsBytes s.left → read s ≡ Ok (x, after) → Takes (Begins Spells) s x after)
      → ((s : Spot) (x : X) (front rest : List ℕ) → Spells front x → s.left ≡ front ++ rest → read s ≡ Ok (x, onward s rest))
      → Reads Given (λ a. plain a (read a.spot)) (λ a x b. Begins Spells a.left x b.left × (b.before ≡ a.before)) nothing
  plain_reads takes again = record {
    takes = λ given a fits. by a fits (read a.spot) (takes given a.spot);
    again = λ a tail x after w le.
        let s = split_tail w.0.0 after.left a.spot.left tail w.0.2 le in
        (onto a (onward a.spot s.0), ap (plain a) (again a.spot x w.0.0 s.0 w.0.1 s.2), λ i. record { left = s.1 i; before = w.1 i });
    shrinks = λ a x b w. omega (arith, ap (λ (bytes : List ℕ). length bytes) w.0.2, length-append w.0.0 b.left);
  }
    where
      by : (a : Ahead) → Fits a → (r : Result (X × Spot) ByteFault) → ((x : X) (after : Spot) → IsBytes a.spot.left → r ≡ Ok (x, after) → Takes (Begins Spells) a.spot x after)
          → Answered (λ a x b. Begins Spells a.left x b.left × (b.before ≡ a.before)) nothing a (plain a r)
      by a fits (Ok y) h =
          let t = h y.0 y.1 fits.bytes refl in
          record {
            stands = λ tail. ((t.stands.0, t.stands.1, ap (λ (bytes : List ℕ). bytes ++ tail) t.stands.2 ∙ append_assoc t.stands.0 y.1.left tail), refl);
            went = record {
              added = [];
              mentions = sym (append-nil a.mentions);
              asked = refl;
              frugal = omega (arith, ap (λ (bytes : List ℕ). length bytes) t.stands.2, length-append t.stands.0 y.1.left);
              same_end = t.same_end;
              fits = record { bytes = t.fits; line = fits.line; column = fits.column };
            };
          }
      by a fits (Err f) h = omega arith

pub number_reads : {Given : Type 0} → Reads Given number_at IsNumber nothing
number_reads = plain_reads uvarint_at Uvarint (λ given s n after fits e. uvarint_at_takes s n after fits e) (λ s n front rest spelled e. uvarint_at_again s n rest (front, spelled, e))

pub truth_reads : {Given : Type 0} → Reads Given truth_at IsTruth nothing
truth_reads = plain_reads flag_at Flag (λ given. flag_takes) flag_again

-- ---- texts and paths

pub text_reads : (src : Sections) → Reads (IsBytes src.strings) (text_at src) (IsText src) nothing
unfolding text_at
text_reads src = judged_reads number_at (λ a offset. faults.Range (place a.spot) offset) (text_in src.strings) (λ offset text. give (at_offset offset text)) IsNumber (λ offset text. Stays (at_offset offset text)) nothing (IsText src)
    number_reads (λ offset text. give_reads (IsBytes src.strings) (at_offset offset text))
    (λ bytes a offset b text x c number there stays. (
      offset,
      ap (λ (x : SpelledText). x.offset) stays.0,
      subst (IsNumber a offset) (sym stays.1) number,
      subst (λ (x : SpelledText). Text src.strings offset x.text) (sym stays.0) (text_takes src.strings offset text bytes there),
    ))
    (λ a x b stands. record { x = stands.0; v = x.text; next = b; first = stands.2; judged = text_again src.strings stands.0 x.text stands.3; second = ((λ i. record { offset = stands.1 i; text = x.text }), refl) })
  where
    at_offset : ℕ → List ℕ → SpelledText
    at_offset offset text = record { offset = Some offset; text = text }

pub path_reads : (src : Sections) → Reads (IsBytes src.strings) (path_at src) (IsPath src) nothing
unfolding path_at
path_reads src = judged_reads number_at (λ a offset. faults.Range (place a.spot) offset) (path_in src.strings src.own src.paths) (λ offset path. give (at_offset offset path)) IsNumber (λ offset path. Stays (at_offset offset path)) nothing (IsPath src)
    number_reads (λ offset path. give_reads (IsBytes src.strings) (at_offset offset path))
    (λ bytes a offset b path x c number there stays. (
      offset,
      ap (λ (x : SpelledPath). x.offset) stays.0,
      subst (IsNumber a offset) (sym stays.1) number,
      subst (λ (x : SpelledPath). IsPathAt src.strings src.own src.paths offset x.path) (sym stays.0) (path_takes src.strings src.own src.paths offset path bytes there),
    ))
    (λ a x b stands. record { x = stands.0; v = x.path; next = b; first = stands.2; judged = path_again src.strings src.own src.paths stands.0 x.path stands.3; second = ((λ i. record { offset = stands.1 i; path = x.path }), refl) })
  where
    at_offset : ℕ → List ℕ → SpelledPath
    at_offset offset path = record { offset = Some offset; path = path }

-- ---- positions

pub pos_reads : (src : Sections) → Reads (IsBytes src.strings) (pos_at src) (IsPos src) nothing
pos_reads src = record {
  takes = λ bytes a fits. by bytes a fits (position_at src.strings a.before.place a.spot) refl;
  again = λ a tail x after w le.
      let s = split_tail w.1.0 after.left a.spot.left tail w.1.2 le in
      let b : Ahead = record { spot = onward a.spot s.0; before = moved_on a.before w.0; mentions = a.mentions } in
      let read : pos_at src a ≡ Ok (pos_after a.before w.0, b) = ap (placed a) (position_again src.strings a.before.place a.spot w.1.0 s.0 w.0 w.1.1 s.2) in
      (b, read ∙ ap (λ (p : SpelledPos). Ok (p, b)) (sym w.3), λ i. record { left = s.1 i; before = w.2 i });
  shrinks = λ a x b w. omega (arith, ap (λ (bytes : List ℕ). length bytes) w.1.2, length-append w.1.0 b.left);
}
  where
    by : IsBytes src.strings → (a : Ahead) → Fits a → (r : Result (Named × Spot) ByteFault) → position_at src.strings a.before.place a.spot ≡ r → Answered (IsPos src) nothing a (placed a r)
    by bytes a fits (Ok y) e =
        let t = position_takes src.strings a.before.place bytes fits.line fits.column a.spot y.0 y.1 fits.bytes e in
        record {
          stands = λ tail. (y.0, (t.stands.0, t.stands.1, ap (λ (bytes : List ℕ). bytes ++ tail) t.stands.2 ∙ append_assoc t.stands.0 y.1.left tail), refl, refl);
          went = record {
            added = [];
            mentions = sym (append-nil a.mentions);
            asked = refl;
            frugal = omega (arith, ap (λ (bytes : List ℕ). length bytes) t.stands.2, length-append t.stands.0 y.1.left);
            same_end = t.same_end;
            fits = record { bytes = t.fits; line = t.stands.1.line_fits; column = t.stands.1.column_fits };
          };
        }
    by bytes a fits (Err f) e = omega arith

-- ---- types

-- a number has a byte
takes_some : (front : List ℕ) (n : ℕ) → Uvarint front n → 0 < length front
takes_some [] n spelled = elim spelled.groups [ ]
takes_some (b ∷ front) n spelled = omega arith

-- the number with its mention
abbrev logged : Demand → Ahead → ℕ × Ahead → Result (SpelledType × Ahead) Stopped
logged asked a x = Ok (without_pos x.0, record { spot = (x.1).spot; before = a.before; mentions = a.mentions ++ record { at = place a.spot; value = x.0; asked = asked } ∷ [] })

pub type_reads : {Given : Type 0} (asked : Demand) → Reads Given (type_at asked) IsType (λ t. (t.number, unplaced asked) ∷ [])
unfolding type_at
type_reads asked = record {
  takes = λ given a fits. by a fits (uvarint_at a.spot) refl;
  again = λ a tail t after w le.
      let number = (number_reads {Given = Unit {0}}).again a tail t.number after w.0 le in
      let left = ap (λ (h : Here). h.left) number.2 in
      let b : Ahead = record { spot = number.0.spot; before = a.before; mentions = a.mentions ++ record { at = place a.spot; value = t.number; asked = asked } ∷ [] } in
      let none : without_pos t.number ≡ t = λ i. record { number = t.number; pos = sym w.1 i } in
      (b, rw number.1 (ap (λ (t : SpelledType). Ok (t, b)) none), λ i. record { left = left i; before = w.0.1 i });
  shrinks = λ a t b w. (number_reads {Given = Unit {0}}).shrinks a t.number b w.0;
}
  where
    by : (a : Ahead) → Fits a → (r : Result (ℕ × Spot) ByteFault) → uvarint_at a.spot ≡ r → Answered IsType (λ t. (t.number, unplaced asked) ∷ []) a (plain a r >>= logged asked a)
    by a fits (Ok y) e =
        let t = uvarint_at_takes a.spot y.0 y.1 fits.bytes e in
        record {
          stands = λ tail. (((t.stands.0, t.stands.1, ap (λ (bytes : List ℕ). bytes ++ tail) t.stands.2 ∙ append_assoc t.stands.0 y.1.left tail), refl), refl);
          went = record {
            added = record { at = place a.spot; value = y.0; asked = asked } ∷ [];
            mentions = refl;
            asked = refl;
            frugal = omega (arith, takes_some t.stands.0 y.0 t.stands.1, ap (λ (bytes : List ℕ). length bytes) t.stands.2, length-append t.stands.0 y.1.left);
            same_end = t.same_end;
            fits = record { bytes = t.fits; line = fits.line; column = fits.column };
          };
        }
    by a fits (Err f) e = omega arith
