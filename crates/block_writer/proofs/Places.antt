-- A place that is put, by its bytes.
use Rattle.std.proofs.Common.{◌≡◌, ◌≢◌, ℕ, Bool, true, false, cond, List, [], ◌∷◌, ◌++◌, refl, sym, ap, ap₂, subst, ◌∙◌, append_assoc}
use Rattle.std.specs.Prelude.{◌==◌, nat_eq, fold}
use Rattle.std.specs.Cmp.Lexicographic.{pointwise, same_text}
use Rattle.std.proofs.lemmas.Bool.{eq-eqb, ne_eqb}
use Rattle.std.proofs.lemmas.Cmp.{nat_list_eq_equiv}
use Rattle.wire_bytes.specs.Section.{spelling_of, with_text}
use Rattle.position_codec.specs.Place.{Place}
use Rattle.file_envelope.specs.FileBytes.{text_number}
use Rattle.file_layout.specs.Bytes.{column_bytes, line_bytes, place_bytes}
use Rattle.file_writer.specs.Puts.{Puts}
use Rattle.block_writer.specs.Putting.{place_texts}

is_same : (xs ys : List ℕ) → xs ≡ ys → pointwise nat_eq xs ys ≡ true
is_same xs ys e = subst (λ (zs : List ℕ). pointwise nat_eq xs zs ≡ true) e (nat_list_eq_equiv.refl xs)

is_other : (xs ys : List ℕ) → xs ≢ ys → pointwise nat_eq xs ys ≡ false
is_other xs ys other = by (pointwise nat_eq xs ys) refl
  where
    by : (b : Bool) → pointwise nat_eq xs ys ≡ b → pointwise nat_eq xs ys ≡ false
    by true e = absurd (other (same_text xs ys (sym e)))
    by false e = e

module _ (before now : Place) (a : List (List ℕ)) (u v : List ℕ) where
  abbrev texts_by : Bool → List (List ℕ)
  texts_by same = cond same [] (now.file ∷ [])

  abbrev bytes_by : List (List ℕ) → Bool → Bool → List ℕ
  bytes_by texts same same_line =
      cond same (cond same_line (column_bytes before now false) (column_bytes before now true ++ line_bytes before now false))
      (column_bytes before now true ++ (line_bytes before now true ++ spelling_of (text_number texts now.file)))

  pub put_column : before.file ≡ now.file → before.line ≡ now.line → v ≡ u ++ column_bytes before now false → Puts (place_texts before now) (λ texts. place_bytes (text_number texts) before now) a a u v
  put_column file line added =
      let same = is_same before.file now.file file in
      let here : (now.line == before.line) ≡ true = eq-eqb now.line before.line (sym line) in
      record {
        said = ap (λ (b : Bool). fold with_text a (texts_by b)) (sym same);
        added = λ more. added ∙ ap (λ (bytes : List ℕ). u ++ bytes) (ap₂ (bytes_by (a ++ more)) (sym same) (sym here));
      }

  pub put_line : (w : List ℕ) → before.file ≡ now.file → before.line ≢ now.line → v ≡ u ++ column_bytes before now true → w ≡ v ++ line_bytes before now false
      → Puts (place_texts before now) (λ texts. place_bytes (text_number texts) before now) a a u w
  put_line w file line column added =
      let same = is_same before.file now.file file in
      let there : (now.line == before.line) ≡ false = ne_eqb now.line before.line (λ e. line (sym e)) in
      record {
        said = ap (λ (b : Bool). fold with_text a (texts_by b)) (sym same);
        added = λ more.
            added
            ∙ ap (λ (bytes : List ℕ). bytes ++ line_bytes before now false) column
            ∙ append_assoc u (column_bytes before now true) (line_bytes before now false)
            ∙ ap (λ (bytes : List ℕ). u ++ bytes) (ap₂ (bytes_by (a ++ more)) (sym same) (sym there));
      }

  pub put_file : (b : List (List ℕ)) (w x : List ℕ) → before.file ≢ now.file → v ≡ u ++ column_bytes before now true → w ≡ v ++ line_bytes before now true
      → Puts (now.file ∷ []) (λ texts. spelling_of (text_number texts now.file)) a b w x → Puts (place_texts before now) (λ texts. place_bytes (text_number texts) before now) a b u x
  put_file b w x file column line named =
      let other = is_other before.file now.file file in
      let columns = column_bytes before now true in
      let lines = line_bytes before now true in
      record {
        said = named.said ∙ ap (λ (same : Bool). fold with_text a (texts_by same)) (sym other);
        added = λ more.
            let name = spelling_of (text_number (b ++ more) now.file) in
            named.added more
            ∙ ap (λ (bytes : List ℕ). bytes ++ name) (line ∙ ap (λ (bytes : List ℕ). bytes ++ lines) column)
            ∙ append_assoc (u ++ columns) lines name
            ∙ append_assoc u columns (lines ++ name)
            ∙ ap (λ (bytes : List ℕ). u ++ bytes) (ap (λ (same : Bool). bytes_by (b ++ more) same (now.line == before.line)) (sym other));
      }
