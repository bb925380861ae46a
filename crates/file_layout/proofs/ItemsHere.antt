-- The bytes of items stand where they are put.
use Rattle.std.proofs.Common.{◌≡◌, ℕ, ◌^◌, ◌<◌, ℤ, Bool, true, false, cond, List, ◌++◌, length, Some, None, refl, sym, ap, subst, arith, inl, inr}
use Rattle.std.specs.Prelude.{◌==◌, nat_eq, FitsSigned}
use Rattle.std.specs.Int.{w64}
use Rattle.std.specs.Cmp.Lexicographic.{pointwise, same_text, other_text}
use Rattle.std.specs.List.{Contains}
use Rattle.std.proofs.lemmas.Bool.{eqb-true, eqb-false}
use Rattle.wire_bytes.specs.Varint.{Varint, Flag, number_of}
use Rattle.wire_bytes.specs.Section.{spelling_of, section_of}
use Rattle.wire_bytes.proofs.SectionLemmas.{is_spelling, the_spelling}
use Rattle.wire_bytes.proofs.PrefixCodeLemmas.{every_signed}
use Rattle.position_codec.specs.Place.{Place, Named, delta}
use Rattle.position_codec.specs.Position.{Position, IsPlace}
use Rattle.position_codec.proofs.DeltaLemmas.{delta_fits}
use Rattle.file_envelope.specs.FileBytes.{text_number}
use Rattle.file_envelope.proofs.Known.{Stands, known_stands}
use Rattle.file_layout.specs.Bytes.{signed_bytes, flag_bytes, place_bytes}

pub signed_is : (x : ℤ) → FitsSigned w64 x → Varint (signed_bytes x) x
signed_is x fits =
    let some = every_signed x fits in
    subst (λ (bytes : List ℕ). Varint bytes x) (the_spelling some.0 (number_of x) some.1) some.1

pub flag_is : (x : Bool) → Flag (flag_bytes x) x
flag_is false = is_spelling 0 (omega arith)
flag_is true = is_spelling 1 (omega arith)

delta_is : (from to : ℕ) (more : Bool) → from < 2 ^ 32 → to < 2 ^ 32 → Varint (signed_bytes (delta from to more)) (delta from to more)
delta_is from to more small small' = signed_is (delta from to more) (delta_fits from to more small small')

-- ---- a place, whose file is known where it is another one

module _ (texts : List (List ℕ)) (fits : length (section_of texts) < 2 ^ 64) where
  abbrev strings : List ℕ
  strings = section_of texts

  abbrev bytes_of : Place → Place → List ℕ
  bytes_of = place_bytes (text_number texts)

  abbrev here_bytes : Place → Place → Bool → List ℕ
  here_bytes before now same =
      cond same (signed_bytes (delta before.column now.column false))
      (signed_bytes (delta before.column now.column true) ++ signed_bytes (delta before.line now.line false))

  abbrev all_bytes : Place → Place → Bool → List ℕ
  all_bytes before now same =
      cond same (here_bytes before now (now.line == before.line))
      (signed_bytes (delta before.column now.column true) ++ (signed_bytes (delta before.line now.line true) ++ spelling_of (text_number texts now.file)))

  -- it is spelled as one with or without a name
  pub record Placed (before now : Place) : Type 0 where
    pub named : Named
    pub its_place : named.place ≡ now
    pub spelled : Position strings before (bytes_of before now) named

  pub place_is : (before now : Place) → IsPlace before → IsPlace now → (pointwise nat_eq before.file now.file ≡ false → Contains texts now.file) → Placed before now
  place_is before now from to known = by (pointwise nat_eq before.file now.file) refl
    where
      column : (more : Bool) → Varint (signed_bytes (delta before.column now.column more)) (delta before.column now.column more)
      column more = delta_is before.column now.column more from.1 to.1

      line : (more : Bool) → Varint (signed_bytes (delta before.line now.line more)) (delta before.line now.line more)
      line more = delta_is before.line now.line more from.0 to.0

      here : now.file ≡ before.file → (same : Bool) → (now.line == before.line) ≡ same → Position strings before (here_bytes before now same) (record { place = now; name = None })
      here file true e = record {
        line_fits = to.0;
        column_fits = to.1;
        spelled = inl (record { same_file = file; same_line = eqb-true now.line before.line e; no_name = refl; column = column false });
      }
      here file false e = record {
        line_fits = to.0;
        column_fits = to.1;
        spelled = inr (inl (record {
          column_part = signed_bytes (delta before.column now.column true);
          line_part = signed_bytes (delta before.line now.line false);
          parts = refl;
          same_file = file;
          other_line = eqb-false now.line before.line e;
          no_name = refl;
          column = column true;
          line = line false;
        }));
      }

      by : (same : Bool) → pointwise nat_eq before.file now.file ≡ same → Placed before now
      by true e = record {
        named = record { place = now; name = None };
        its_place = refl;
        spelled =
            subst (λ (bytes : List ℕ). Position strings before bytes (record { place = now; name = None })) (ap (all_bytes before now) (sym e))
            (here (sym (same_text before.file now.file (sym e))) (now.line == before.line) refl);
      }
      by false e =
          let there : Stands texts now.file = known_stands texts now.file fits (known e) in
          record {
            named = record { place = now; name = Some (text_number texts now.file) };
            its_place = refl;
            spelled =
                subst (λ (bytes : List ℕ). Position strings before bytes (record { place = now; name = Some (text_number texts now.file) })) (ap (all_bytes before now) (sym e))
                (record {
                  line_fits = to.0;
                  column_fits = to.1;
                  spelled = inr (inr (record {
                    column_part = signed_bytes (delta before.column now.column true);
                    line_part = signed_bytes (delta before.line now.line true);
                    file_part = spelling_of (text_number texts now.file);
                    parts = refl;
                    other_file = λ same. other_text before.file now.file (sym e) (sym same);
                    offset = text_number texts now.file;
                    its_name = refl;
                    column = column true;
                    line = line true;
                    file = is_spelling (text_number texts now.file) there.small;
                    there = there.there;
                  }));
                });
          }
