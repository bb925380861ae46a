-- What a step of the reader tells of the place.
use Rattle.std.proofs.Common.{◌≡◌, ◌≢◌, ℕ, ◌^◌, ◌<◌, Bool, true, false, List, ◌++◌, Some, None, refl, sym, ap, subst, ◌∙◌, append_assoc, inl, inr}
use Rattle.std.specs.Prelude.{ℤ, pos}
use Rattle.wire_bytes.specs.Begins.{Begins}
use Rattle.wire_bytes.specs.Uvarint.{BeginsWith}
use Rattle.wire_bytes.specs.Varint.{Varint}
use Rattle.wire_bytes.specs.Text.{Text}
use Rattle.position_codec.specs.Place.{Place, delta, half, is_odd, moved}
use Rattle.position_codec.specs.Position.{Position}
use Rattle.position_codec.proofs.DeltaLemmas.{delta_is, line_moves}

-- a number that was read, and where it moves
pub record Moves (old mid : List ℕ) (from to : ℕ) (x : ℤ) : Type 0 where
  pub stands : Begins Varint old x mid
  pub to_there : moved from (half x) ≡ Some to

part : (old mid : List ℕ) (from to : ℕ) (x : ℤ) (more : Bool) → (m : Moves old mid from to x) → is_odd x ≡ more → Varint m.stands.0 (delta from to more)
part old mid from to x more m odd = subst (Varint m.stands.0) (delta_is from to x m.to_there ∙ ap (delta from to) odd) m.stands.1

pub column_stands : (strings old mid : List ℕ) (before : Place) (column : ℕ) (x : ℤ) → before.line < 2 ^ 32 → column < 2 ^ 32 → Moves old mid before.column column x → is_odd x ≡ false
    → Begins (Position strings before) old (record { place = record { file = before.file; line = before.line; column = column }; name = None }) mid
column_stands strings old mid before column x line_small column_small m even = (
  m.stands.0,
  record {
    line_fits = line_small;
    column_fits = column_small;
    spelled = inl (record { same_file = refl; same_line = refl; no_name = refl; column = part old mid before.column column x false m even });
  },
  m.stands.2,
)

joined : (old a mid b rest : List ℕ) → old ≡ a ++ mid → mid ≡ b ++ rest → old ≡ (a ++ b) ++ rest
joined old a mid b rest first second = first ∙ ap (λ (t : List ℕ). a ++ t) second ∙ sym (append_assoc a b rest)

pub line_stands : (strings old mid behind : List ℕ) (before : Place) (column line : ℕ) (x y : ℤ) → line < 2 ^ 32 → column < 2 ^ 32 → Moves old mid before.column column x → is_odd x ≡ true
    → Moves mid behind before.line line y → y ≢ pos 0 → is_odd y ≡ false
    → Begins (Position strings before) old (record { place = record { file = before.file; line = line; column = column }; name = None }) behind
line_stands strings old mid behind before column line x y line_small column_small m odd n some even = (
  m.stands.0 ++ n.stands.0,
  record {
    line_fits = line_small;
    column_fits = column_small;
    spelled = inr (inl (record {
      column_part = m.stands.0;
      line_part = n.stands.0;
      parts = refl;
      same_file = refl;
      other_line = line_moves before.line line y (delta_is before.line line y n.to_there ∙ ap (delta before.line line) even) some;
      no_name = refl;
      column = part old mid before.column column x true m odd;
      line = part mid behind before.line line y false n even;
    }));
  },
  joined old m.stands.0 mid n.stands.0 behind m.stands.2 n.stands.2,
)

pub file_stands : (strings old mid behind rest file : List ℕ) (before : Place) (column line offset : ℕ) (x y : ℤ) → line < 2 ^ 32 → column < 2 ^ 32 → Moves old mid before.column column x → is_odd x ≡ true
    → Moves mid behind before.line line y → is_odd y ≡ true → BeginsWith behind offset rest → Text strings offset file → file ≢ before.file
    → Begins (Position strings before) old (record { place = record { file = file; line = line; column = column }; name = Some offset }) rest
file_stands strings old mid behind rest file before column line offset x y line_small column_small m odd n odd' name there other = (
  m.stands.0 ++ (n.stands.0 ++ name.0),
  record {
    line_fits = line_small;
    column_fits = column_small;
    spelled = inr (inr (record {
      column_part = m.stands.0;
      line_part = n.stands.0;
      file_part = name.0;
      parts = refl;
      other_file = other;
      offset = offset;
      its_name = refl;
      column = part old mid before.column column x true m odd;
      line = part mid behind before.line line y true n odd';
      file = name.1;
      there = there;
    }));
  },
  joined old m.stands.0 mid (n.stands.0 ++ name.0) rest m.stands.2 (joined mid n.stands.0 behind name.0 rest n.stands.2 name.2),
)
