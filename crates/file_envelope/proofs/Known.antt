-- A text of the list has an offset, inside the section of the list.
use Rattle.std.proofs.Common.{◌≡◌, ℕ, zero, suc, ◌+◌, ◌≤◌, ◌<◌, ◌^◌, Bool, true, false, cond, List, [], ◌∷◌, ◌++◌, length, Option, Some, refl, sym, ap, subst, ◌∙◌, arith, length-append}
use Rattle.std.specs.Prelude.{nat_eq, unwrap_or}
use Rattle.std.specs.Option.{option_map}
use Rattle.std.specs.List.{Contains}
use Rattle.std.specs.Cmp.Lexicographic.{pointwise, same_text as same_list}
use Rattle.std.proofs.lemmas.Cmp.{nat_list_eq_equiv}
use Rattle.wire_bytes.specs.Uvarint.{BeginsWith}
use Rattle.wire_bytes.specs.Text.{Text}
use Rattle.wire_bytes.specs.Section.{spelling_of, spelled_text, section_of, offset_in}
use Rattle.wire_bytes.proofs.SectionLemmas.{is_spelling, text_stands}
use Rattle.file_envelope.specs.FileBytes.{text_number}

pub record Found (texts : List (List ℕ)) (text : List ℕ) : Type 0 where
  pub offset : ℕ
  pub is : offset_in texts text ≡ Some offset
  pub inside : offset + length text ≤ length (section_of texts)

found : (texts : List (List ℕ)) (text : List ℕ) → Contains texts text → Found texts text
found [] text has = absurd (omega (arith, has.1))
found (t ∷ texts) text has = by (pointwise nat_eq text t) refl (found texts text)
  where
    sizes : length (section_of (t ∷ texts)) ≡ (length (spelling_of (length t)) + length t) + length (section_of texts)
    sizes = length-append (spelled_text t) (section_of texts) ∙ ap (λ (n : ℕ). n + length (section_of texts)) (length-append (spelling_of (length t)) t)

    spelled_size : length (spelled_text t) ≡ length (spelling_of (length t)) + length t
    spelled_size = length-append (spelling_of (length t)) t

    later : pointwise nat_eq text t ≡ false → Contains (t ∷ texts) text → Contains texts text
    later other (zero, below, is) =
        let same : pointwise nat_eq text t ≡ true = subst (λ (x : List ℕ). pointwise nat_eq text x ≡ true) (sym is) (nat_list_eq_equiv.refl text) in
        absurd cc
    later other (suc k, below, is) = (k, omega (arith, below), is)

    by : (b : Bool) → pointwise nat_eq text t ≡ b → (Contains texts text → Found texts text) → Found (t ∷ texts) text
    by true e found_later =
        let same : text ≡ t = same_list text t (sym e) in
        record { offset = 0; is = ap (λ (b : Bool). cond b (Some 0) (option_map (λ o. length (spelled_text t) + o) (offset_in texts text))) e; inside = omega (arith, sizes, ap length same) }
    by false e found_later =
        let rest = found_later (later e has) in
        record {
          offset = length (spelled_text t) + rest.offset;
          is = ap (λ (b : Bool). cond b (Some 0) (option_map (λ o. length (spelled_text t) + o) (offset_in texts text))) e ∙ ap (option_map (λ o. length (spelled_text t) + o)) rest.is;
          inside = omega (arith, sizes, spelled_size, rest.inside);
        }

-- a number stands in front of what follows its spelling
pub number_front : (n : ℕ) (rest : List ℕ) → n < 2 ^ 64 → BeginsWith (spelling_of n ++ rest) n rest
number_front n rest small = (spelling_of n, is_spelling n small, refl)

-- The number of a known text is spelled, and the text stands there.
pub record Stands (texts : List (List ℕ)) (text : List ℕ) : Type 0 where
  pub small : text_number texts text < 2 ^ 64
  pub there : Text (section_of texts) (text_number texts text) text

pub known_stands : (texts : List (List ℕ)) (text : List ℕ) → length (section_of texts) < 2 ^ 64 → Contains texts text → Stands texts text
known_stands texts text short has =
    let at = found texts text has in
    let is : text_number texts text ≡ at.offset = ap (λ (o : Option ℕ). unwrap_or o 0) at.is in
    record {
      small = omega (arith, is, at.inside, short);
      there = subst (λ (o : ℕ). Text (section_of texts) o text) (sym is) (text_stands texts text at.offset (omega (arith, at.inside, short)) at.is);
    }
