-- Items that are put one behind the other.
use Rattle.std.proofs.Common.{◌≡◌, ℕ, ◌+◌, ◌<◌, List, [], ◌∷◌, ◌++◌, length, map, take, get_or, refl, sym, ap, subst, ◌∙◌, append_assoc, append-nil}
use Rattle.std.specs.Prelude.{fold}
use Rattle.std.proofs.lemmas.List.{take_more, map-append}
use Rattle.std.proofs.lemmas.List.Concat.{flat_map-append}
use Rattle.wire_bytes.specs.Section.{with_text}
use Rattle.position_codec.specs.Place.{Place, no_place}
use Rattle.type_terms.specs.Replaced.{all_left, all_right}
use Rattle.type_terms.specs.declared.descriptors.Node.{Node}
use Rattle.type_terms.specs.NodeShapes.{node_shape, children}
use Rattle.type_terms.specs.ShapeLaws.{shape_types_map}
use Rattle.type_terms.specs.Shapes.{retype}
use Rattle.type_terms.specs.Trees.{Text, Tree}
use Rattle.go_values.specs.declared.positions.Pos.{Pos}
use Rattle.file_envelope.specs.FileBytes.{text_number}
use Rattle.file_layout.specs.Items.{Item, level_items}
use Rattle.file_layout.proofs.ItemTypes.{items_types, level_types}
use Rattle.file_layout.specs.Bytes.{place_after, item_bytes, items_bytes}
use Rattle.file_layout.specs.Walk.{event_texts, item_events, items_events}
use Rattle.file_writer.specs.Puts.{Puts}
use Rattle.file_writer.proofs.PutLemmas.{put_then, put_none}
use Rattle.block_writer.specs.declared.items.Item.{Item as Put}
use Rattle.block_writer.specs.Adding.{meant, Adds}
use Rattle.block_writer.specs.Putting.{item_texts, items_texts, IsNumbered, PutsItem, PutsItems, PutsDescriptor}
use Rattle.block_writer.proofs.Types.{ids_are, numbered}

-- the place behind items
abbrev pub place_behind : Place → List Item → Place
place_behind before [] = before
place_behind before (x ∷ xs) = place_behind (place_after before x) xs

pub behind_more : (before : Place) (xs : List Item) (x : Item) → place_behind before (xs ++ x ∷ []) ≡ place_after (place_behind before xs) x
behind_more before [] x = refl
behind_more before (y ∷ ys) x = behind_more (place_after before y) ys x

module _ (own : Text) where
  pub bytes_more : (offset : Text → ℕ) (number : Tree → ℕ) (before : Place) (xs : List Item) (x : Item)
      → items_bytes own offset number before (xs ++ x ∷ []) ≡ items_bytes own offset number before xs ++ item_bytes own offset number (place_behind before xs) x
  bytes_more offset number before [] x = append-nil (item_bytes own offset number before x)
  bytes_more offset number before (y ∷ ys) x =
      let next = place_after before y in
      ap (λ (rest : List ℕ). item_bytes own offset number before y ++ rest) (bytes_more offset number next ys x)
      ∙ sym (append_assoc (item_bytes own offset number before y) (items_bytes own offset number next ys) (item_bytes own offset number (place_behind next ys) x))

  texts_first : (before : Place) (x : Item) (xs : List Item) → items_texts own before (x ∷ xs) ≡ item_texts own before x ++ items_texts own (place_after before x) xs
  texts_first before x xs = flat_map-append (event_texts own) (item_events (λ type. []) before x) (items_events (λ type. []) (place_after before x) xs)

  pub texts_more : (before : Place) (xs : List Item) (x : Item) → items_texts own before (xs ++ x ∷ []) ≡ items_texts own before xs ++ item_texts own (place_behind before xs) x
  texts_more before [] x = texts_first before x [] ∙ append-nil (item_texts own before x)
  texts_more before (y ∷ ys) x =
      let next = place_after before y in
      texts_first before y (ys ++ x ∷ [])
      ∙ ap (λ (rest : List Text). item_texts own before y ++ rest) (texts_more next ys x)
      ∙ sym (append_assoc (item_texts own before y) (items_texts own next ys) (item_texts own (place_behind next ys) x))
      ∙ ap (λ (front : List Text). front ++ item_texts own (place_behind next ys) x) (sym (texts_first before y ys))

-- the place before what follows items, whatever their types are
abbrev pub IsBehind : Place → List Put → Type 0
IsBehind before xs = (type : ℕ → Tree) → before ≡ place_behind no_place (map (meant type) xs)

module _ (own : Text) (numbers : List ℕ) where
  put_more : (xs : List Put) (x : Put) (before : Place) (a b c : List Text) (u v w : List ℕ) → IsBehind before xs → PutsItems own numbers no_place xs a b u v → PutsItem own numbers before x b c v w
      → PutsItems own numbers no_place (xs ++ x ∷ []) a c u w
  put_more xs x before a b c u v w is first second type number all =
      let one = first type number (all_left (IsNumbered numbers type number) xs (x ∷ []) all) in
      let two = second type number (all_right (IsNumbered numbers type number) xs (x ∷ []) all).0 in
      let both = put_then one two in
      let items = map (meant type) xs in
      let last = meant type x in
      let joined : map (meant type) (xs ++ x ∷ []) ≡ items ++ last ∷ [] = map-append (meant type) xs (x ∷ []) in
      record {
        said =
            both.said
            ∙ ap (λ (place : Place). fold with_text a (items_texts own no_place items ++ item_texts own place last)) (is type)
            ∙ ap (fold with_text a) (sym (texts_more own no_place items last))
            ∙ ap (λ (all_items : List Item). fold with_text a (items_texts own no_place all_items)) (sym joined);
        added = λ more.
            let offset = text_number (c ++ more) in
            both.added more
            ∙ ap (λ (place : Place). u ++ (items_bytes own offset number no_place items ++ item_bytes own offset number place last)) (is type)
            ∙ ap (λ (bytes : List ℕ). u ++ bytes) (sym (bytes_more own offset number no_place items last))
            ∙ ap (λ (all_items : List Item). u ++ items_bytes own offset number no_place all_items) (sym joined);
      }

  pub put_next : (xs : List Put) (i : ℕ) (d x : Put) (before : Place) (a b c : List Text) (u v w : List ℕ) → i < length xs → x ≡ get_or xs i d → IsBehind before (take i xs) → PutsItems own numbers no_place (take i xs) a b u v → PutsItem own numbers before x b c v w
      → PutsItems own numbers no_place (take (i + 1) xs) a c u w
  put_next xs i d x before a b c u v w inside here is first second =
      subst (λ (ys : List Put). PutsItems own numbers no_place ys a c u w) (sym (take_more xs i d inside))
      (put_more (take i xs) (get_or xs i d) before a b c u v w is first (subst (λ (y : Put). PutsItem own numbers before y b c v w) here second))

  pub put_nothing : (a : List Text) (u : List ℕ) → PutsItems own numbers no_place [] a a u u
  put_nothing a u type number all = put_none a u

pub behind_next : (xs : List Put) (i : ℕ) (d y : Put) (before after : Place) → i < length xs → y ≡ get_or xs i d → IsBehind before (take i xs) → ((type : ℕ → Tree) → after ≡ place_after before (meant type y)) → IsBehind after (take (i + 1) xs)
behind_next xs i d y before after inside here is next type =
    let x = meant type (get_or xs i d) in
    let joined : map (meant type) (take (i + 1) xs) ≡ map (meant type) (take i xs) ++ x ∷ [] = ap (map (meant type)) (take_more xs i d inside) ∙ map-append (meant type) (take i xs) (get_or xs i d ∷ []) in
    next type
    ∙ ap (λ (item : Put). place_after before (meant type item)) here
    ∙ ap (λ (place : Place). place_after place x) (is type)
    ∙ sym (behind_more no_place (map (meant type) (take i xs)) x)
    ∙ ap (place_behind no_place) (sym joined)

-- a descriptor, whose items are put
pub descriptor_put : (own : Text) (numbers : List ℕ) (node : Node) (none xs ys : List Put) (a b : List Text) (u v : List ℕ) → none ≡ [] → Adds none xs (λ type. level_items (retype type (node_shape node))) → ys ≡ xs → PutsItems own numbers no_place ys a b u v
    → PutsDescriptor own numbers node a b u v
descriptor_put own numbers node none xs ys a b u v empty adds same put type number known =
    let is : (type : ℕ → Tree) → map (meant type) xs ≡ level_items (retype type (node_shape node)) = λ type. adds type ∙ ap (λ (front : List Put). map (meant type) front ++ level_items (retype type (node_shape node))) empty in
    let types : (type : ℕ → Tree) → items_types (map (meant type) xs) ≡ map type (children node) = λ type.
    ap items_types (is type) ∙ level_types (retype type (node_shape node)) ∙ shape_types_map (λ (x : Pos). x) (λ (x : Text). x) (λ (x : Text). x) type (node_shape node) in
    subst (λ (all : List Item). Puts (items_texts own no_place all) (λ texts. items_bytes own (text_number texts) number no_place all) a b u v) (is type)
    (subst (λ (zs : List Put). PutsItems own numbers no_place zs a b u v) same put type number (numbered numbers type number xs (children node) (ids_are xs (children node) types) known))
