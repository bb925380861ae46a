-- A declaration, whose items are put.
use Rattle.std.proofs.Common.{◌≡◌, ℕ, List, [], ◌∷◌, ◌++◌, map, sym, ap, subst, ◌∙◌, append_assoc, append-nil, inl, inr}
use Rattle.std.specs.Prelude.{fold}
use Rattle.code_tables.specs.DeclTag.{decl_tag_code}
use Rattle.wire_bytes.specs.Section.{with_text}
use Rattle.position_codec.specs.Place.{Place, no_place}
use Rattle.type_terms.specs.declared.declarations.DeclNode.{DeclNode}
use Rattle.type_terms.specs.Declarations.{decl_nodes}
use Rattle.type_terms.specs.Trees.{Text, Tree}
use Rattle.file_envelope.specs.FileBytes.{text_number}
use Rattle.file_layout.specs.Items.{Item, a_whole, decl_items, decl_kind}
use Rattle.file_layout.specs.Bytes.{items_bytes}
use Rattle.block_writer.specs.declared.declarations.Told.{Told}
use Rattle.block_writer.specs.declared.items.Item.{Item as Put}
use Rattle.block_writer.specs.Adding.{meant}
use Rattle.block_writer.specs.Putting.{items_texts, PutsItems}
use Rattle.block_writer.specs.Declaring.{decl_over, HidesNone, last_of, AddsDecl, PutsDecl}
use Rattle.block_writer.proofs.Types.{numbered}
use Rattle.block_writer.proofs.PutLemmas.{place_behind, bytes_more, texts_more}
use Rattle.block_writer.proofs.DeclTypes.{decl_ids}
use Rattle.block_writer.proofs.LastItems.{IsLast, is_last}

module _ (own : Text) (xs last : List Item) (is : IsLast last) where
  last_bytes : (offset : Text → ℕ) (number : Tree → ℕ) → items_bytes own offset number no_place (xs ++ last) ≡ items_bytes own offset number no_place xs ++ items_bytes own offset number (place_behind no_place xs) last
  last_bytes offset number = by is
    where
      by : IsLast last → items_bytes own offset number no_place (xs ++ last) ≡ items_bytes own offset number no_place xs ++ items_bytes own offset number (place_behind no_place xs) last
      by (inl e) =
          subst (λ (ys : List Item). items_bytes own offset number no_place (xs ++ ys) ≡ items_bytes own offset number no_place xs ++ items_bytes own offset number (place_behind no_place xs) ys) (sym e)
          (ap (items_bytes own offset number no_place) (append-nil xs) ∙ sym (append-nil (items_bytes own offset number no_place xs)))
      by (inr (signed, max, n, e)) =
          subst (λ (ys : List Item). items_bytes own offset number no_place (xs ++ ys) ≡ items_bytes own offset number no_place xs ++ items_bytes own offset number (place_behind no_place xs) ys) (sym e)
          (bytes_more own offset number no_place xs (a_whole signed max n)
          ∙ ap (λ (rest : List ℕ). items_bytes own offset number no_place xs ++ rest) (sym (append-nil _)))

  last_texts : items_texts own no_place (xs ++ last) ≡ items_texts own no_place xs
  last_texts = by is
    where
      by : IsLast last → items_texts own no_place (xs ++ last) ≡ items_texts own no_place xs
      by (inl e) = subst (λ (ys : List Item). items_texts own no_place (xs ++ ys) ≡ items_texts own no_place xs) (sym e) (ap (items_texts own no_place) (append-nil xs))
      by (inr (signed, max, n, e)) =
          subst (λ (ys : List Item). items_texts own no_place (xs ++ ys) ≡ items_texts own no_place xs) (sym e)
          (texts_more own no_place xs (a_whole signed max n) ∙ append-nil (items_texts own no_place xs))

pub decl_put : (own : Text) (numbers : List ℕ) (told : Told) (decl : DeclNode) (none xs ys : List Put) (letter : ℕ) (a b : List Text) (u v w z : List ℕ) → HidesNone told decl → ((type : ℕ → Tree) → letter ≡ decl_tag_code (decl_kind (decl_over type decl)))
    → v ≡ u ++ letter ∷ [] → none ≡ [] → AddsDecl told decl none xs → ys ≡ xs → PutsItems own numbers no_place ys a b v w
    → ((offset : Text → ℕ) (number : Tree → ℕ) (before : Place) → z ≡ w ++ items_bytes own offset number before (last_of told.basic decl)) → PutsDecl own numbers told decl a b u z
decl_put own numbers told decl none xs ys letter a b u v w z hides kind started empty adds same put ended type number basics so known =
    let of_none : AddsDecl told decl [] xs = subst (λ (front : List Put). AddsDecl told decl front xs) empty adds in
    let items = map (meant type) xs in
    let last = last_of told.basic decl in
    let all = decl_items basics (decl_over type decl) in
    let is : items ++ last ≡ all = of_none type basics so in
    let its = decl_ids told decl xs hides of_none in
    let first = subst (λ (zs : List Put). PutsItems own numbers no_place zs a b v w) same put type number (numbered numbers type number xs (decl_nodes decl) its known) in
    record {
      said = first.said ∙ ap (fold with_text a) (sym (last_texts own items last (is_last told decl)) ∙ ap (items_texts own no_place) is);
      added = λ more.
          let offset = text_number (b ++ more) in
          let front = items_bytes own offset number no_place items in
          let back = items_bytes own offset number (place_behind no_place items) last in
          let letters : letter ≡ decl_tag_code (decl_kind (decl_over type decl)) = kind type in
          ended offset number (place_behind no_place items)
          ∙ ap (λ (bytes : List ℕ). bytes ++ back) (first.added more ∙ ap (λ (bytes : List ℕ). bytes ++ front) started ∙ append_assoc u (letter ∷ []) front)
          ∙ append_assoc u (letter ∷ front) back
          ∙ ap (λ (bytes : List ℕ). u ++ letter ∷ bytes) (sym (last_bytes own items last (is_last told decl) offset number) ∙ ap (items_bytes own offset number no_place) is)
          ∙ ap (λ (n : ℕ). u ++ n ∷ items_bytes own offset number no_place all) letters;
    }
