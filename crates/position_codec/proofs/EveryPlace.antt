-- Each place has a spelling after each other.
use Rattle.std.proofs.Common.{◌≡◌, ℕ, ◌^◌, ◌<◌, Bool, true, false, cond, List, ◌++◌, Some, None, refl, sym, inl, inr}
use Rattle.std.specs.Prelude.{◌==◌, nat_eq}
use Rattle.std.specs.Cmp.Lexicographic.{pointwise, same_text, other_text}
use Rattle.std.proofs.lemmas.Bool.{eqb-true, eqb-false}
use Rattle.wire_bytes.specs.Text.{Text}
use Rattle.wire_bytes.specs.Varint.{Varint}
use Rattle.wire_bytes.proofs.Spellings.{every_number}
use Rattle.wire_bytes.proofs.PrefixCodeLemmas.{every_signed}
use Rattle.position_codec.specs.Place.{Place, delta}
use Rattle.position_codec.specs.Position.{Position, IsPlace, named_under}
use Rattle.position_codec.proofs.DeltaLemmas.{delta_fits}

delta_spelled : (from to : ℕ) (more : Bool) → from < 2 ^ 32 → to < 2 ^ 32 → (bytes : List ℕ) × Varint bytes (delta from to more)
delta_spelled from to more small small' = every_signed (delta from to more) (delta_fits from to more small small')

pub every_place : (strings : List ℕ) (before now : Place) (offset : ℕ) → IsPlace before → IsPlace now → offset < 2 ^ 64 → Text strings offset now.file
    → (bytes : List ℕ) × Position strings before bytes (named_under offset before now)
every_place strings before now offset from to small there = by (pointwise nat_eq before.file now.file) refl
  where
    here : (before now : Place) → before.line < 2 ^ 32 → before.column < 2 ^ 32 → now.line < 2 ^ 32 → now.column < 2 ^ 32 → now.file ≡ before.file → (same : Bool) → (now.line == before.line) ≡ same
        → (bytes : List ℕ) × Position strings before bytes (record { place = now; name = None })
    here before now line column line' column' file true e =
        let c = delta_spelled before.column now.column false column column' in (
          c.0,
          record {
            line_fits = line';
            column_fits = column';
            spelled = inl (record { same_file = file; same_line = eqb-true now.line before.line e; no_name = refl; column = c.1 });
          },
        )
    here before now line column line' column' file false e =
        let c = delta_spelled before.column now.column true column column' in
        let l = delta_spelled before.line now.line false line line' in (
          c.0 ++ l.0,
          record {
            line_fits = line';
            column_fits = column';
            spelled = inr (inl (record {
              column_part = c.0;
              line_part = l.0;
              parts = refl;
              same_file = file;
              other_line = eqb-false now.line before.line e;
              no_name = refl;
              column = c.1;
              line = l.1;
            }));
          },
        )

    by : (same : Bool) → pointwise nat_eq before.file now.file ≡ same → (bytes : List ℕ) × Position strings before bytes (record { place = now; name = cond same None (Some offset) })
    by true e = here before now from.0 from.1 to.0 to.1 (sym (same_text before.file now.file (sym e))) (now.line == before.line) refl
    by false e =
        let c = delta_spelled before.column now.column true from.1 to.1 in
        let l = delta_spelled before.line now.line true from.0 to.0 in
        let o = every_number offset small in (
          c.0 ++ (l.0 ++ o.0),
          record {
            line_fits = to.0;
            column_fits = to.1;
            spelled = inr (inr (record {
              column_part = c.0;
              line_part = l.0;
              file_part = o.0;
              parts = refl;
              other_file = λ same. other_text before.file now.file (sym e) (sym same);
              offset = offset;
              its_name = refl;
              column = c.1;
              line = l.1;
              file = o.1;
              there = there;
            }));
          },
        )
