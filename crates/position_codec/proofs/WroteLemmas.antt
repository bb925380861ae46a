-- What a writer did, as the whole of a place.
use Rattle.std.proofs.Common.{◌≡◌, ◌≢◌, ℕ, ◌^◌, ◌<◌, false, List, ◌++◌, Some, None, Result, Ok, Err, refl, sym, ap, ◌∙◌, append_assoc, inl, inr}
use Rattle.std.specs.Prelude.{OnOk}
use Rattle.wire_bytes.specs.Begins.{Appends}
use Rattle.wire_bytes.specs.Varint.{Varint}
use Rattle.position_codec.specs.Place.{Named, delta}
use Rattle.position_codec.specs.Steps.{AppendsBoth, NamesFile}
use Rattle.position_codec.specs.Calls.{Wrote}

module _ {X E : Type 0} (strings : List ℕ) (before after : Named) (file : List ℕ) (line column : ℕ) (old new : List ℕ) (line_small : line < 2 ^ 32) (column_small : column < 2 ^ 32) where
  pub wrote_column : (result : Result X E) → before.place.file ≡ file → before.place.line ≡ line → OnOk result (Appends Varint old (delta before.place.column column false) new)
      → OnOk result (after ≡ record { place = record { file = before.place.file; line = before.place.line; column = column }; name = before.name })
      → OnOk result (Wrote strings before after old new (record { file = file; line = line; column = column }))
  wrote_column (Ok x) same_file same_line written moved = record {
    now = record { place = record { file = file; line = line; column = column }; name = None };
    spelled = (
      written.0,
      record {
        line_fits = line_small;
        column_fits = column_small;
        spelled = inl (record { same_file = sym same_file; same_line = sym same_line; no_name = refl; column = written.1 });
      },
      written.2,
    );
    its_place = refl;
    moved = moved ∙ (λ i. record { place = record { file = same_file i; line = same_line i; column = column }; name = before.name });
  }
  wrote_column (Err e) same_file same_line written moved = tt

  pub wrote_line : (result : Result X E) → before.place.file ≡ file → before.place.line ≢ line → OnOk result (AppendsBoth before.place line column false old new)
      → OnOk result (after ≡ record { place = record { file = before.place.file; line = line; column = column }; name = before.name })
      → OnOk result (Wrote strings before after old new (record { file = file; line = line; column = column }))
  wrote_line (Ok x) same_file other written moved = record {
    now = record { place = record { file = file; line = line; column = column }; name = None };
    spelled = (
      written.0 ++ written.1,
      record {
        line_fits = line_small;
        column_fits = column_small;
        spelled = inr (inl (record {
          column_part = written.0;
          line_part = written.1;
          parts = refl;
          same_file = sym same_file;
          other_line = λ e. other (sym e);
          no_name = refl;
          column = written.2;
          line = written.3;
        }));
      },
      written.4,
    );
    its_place = refl;
    moved = moved ∙ (λ i. record { place = record { file = same_file i; line = line; column = column }; name = before.name });
  }
  wrote_line (Err e) same_file other written moved = tt

  pub wrote_file : (result : Result X E) → before.place.file ≢ file → OnOk result (NamesFile strings before.place after file line column old new)
      → OnOk result (Wrote strings before after old new (record { file = file; line = line; column = column }))
  wrote_file (Ok x) other written = record {
    now = record { place = record { file = file; line = line; column = column }; name = Some written.offset };
    spelled = (
      written.numbers.0 ++ (written.numbers.1 ++ written.name),
      record {
        line_fits = line_small;
        column_fits = column_small;
        spelled = inr (inr (record {
          column_part = written.numbers.0;
          line_part = written.numbers.1;
          file_part = written.name;
          parts = refl;
          other_file = λ e. other (sym e);
          offset = written.offset;
          its_name = refl;
          column = written.numbers.2;
          line = written.numbers.3;
          file = written.spelled;
          there = written.there;
        }));
      },
      written.appended ∙ ap (λ (t : List ℕ). t ++ written.name) written.numbers.4 ∙ append_assoc old (written.numbers.0 ++ written.numbers.1) written.name ∙ ap (λ (t : List ℕ). old ++ t) (append_assoc written.numbers.0 written.numbers.1 written.name),
    );
    its_place = refl;
    moved = written.moved;
  }
  wrote_file (Err e) other written = tt
