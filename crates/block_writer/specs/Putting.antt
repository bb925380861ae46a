-- What is written of items, and which texts are mentioned by it.
use Rattle.std.specs.Prelude.{◌≡◌, ℕ, List, [], ◌∷◌, map, slice_index_or, cond}
use Rattle.std.specs.List.{AllByRecursion, flat_map}
use Rattle.position_codec.specs.Place.{Place, place_at, no_place}
use Rattle.type_terms.specs.declared.descriptors.Node.{Node}
use Rattle.type_terms.specs.NodeShapes.{node_shape, children}
use Rattle.type_terms.specs.Shapes.{retype}
use Rattle.type_terms.specs.Trees.{Text, Tree}
use Rattle.file_envelope.specs.FileBytes.{text_number}
use Rattle.file_layout.specs.Items.{Item, level_items}
use Rattle.file_layout.specs.Bytes.{same_file, item_bytes, items_bytes}
use Rattle.file_layout.specs.Walk.{item_events, items_events, event_texts}
use Rattle.file_writer.specs.Puts.{Puts}
use Rattle.block_writer.specs.Adding.{meant}
use Rattle.block_writer.specs.declared.items.Item.{Item as Put}
use Rattle.block_writer.specs.declared.items.Item.TheVariants as put
use Rattle.block_writer.specs.declared.positions.Place.{Place as Spot}

abbrev pub place_over : Spot → Place
place_over p = place_at p.file.now p.line p.column

-- the file of a place, where it is another one
abbrev pub place_texts : Place → Place → List Text
place_texts before now = cond (same_file before now) [] (now.file ∷ [])

-- the texts that items mention by themselves, without their types
abbrev pub item_texts : Text → Place → Item → List Text
item_texts own before x = flat_map (event_texts own) (item_events (λ type. []) before x)

abbrev pub items_texts : Text → Place → List Item → List Text
items_texts own before xs = flat_map (event_texts own) (items_events (λ type. []) before xs)

-- ---- what is put

-- Types have these numbers.
module _ (numbers : List ℕ) (type : ℕ → Tree) (number : Tree → ℕ) where
  abbrev pub IsNumbered : Put → Type 0
  IsNumbered (put.Type id) = number (type id) ≡ slice_index_or numbers id 0
  IsNumbered _ = Unit {0}

-- An item was put behind the place, whatever types its numbers stand for and whichever numbers these have.
abbrev pub PutsItem : Text → List ℕ → Place → Put → List Text → List Text → List ℕ → List ℕ → Type 0
PutsItem own numbers before x a b u v = (type : ℕ → Tree) (number : Tree → ℕ) → IsNumbered numbers type number x
    → Puts (item_texts own before (meant type x))
    (λ texts. item_bytes own (text_number texts) number before (meant type x)) a b u v

abbrev pub PutsItems : Text → List ℕ → Place → List Put → List Text → List Text → List ℕ → List ℕ → Type 0
PutsItems own numbers before xs a b u v = (type : ℕ → Tree) (number : Tree → ℕ)
    → AllByRecursion (IsNumbered numbers type number) xs
    → Puts (items_texts own before (map (meant type) xs))
    (λ texts. items_bytes own (text_number texts) number before (map (meant type) xs)) a b u v

-- A descriptor was put, whatever types the numbers of nodes stand for, where each has the number at its node's place.
abbrev pub PutsDescriptor : Text → List ℕ → Node → List Text → List Text → List ℕ → List ℕ → Type 0
PutsDescriptor own numbers node a b u v = (type : ℕ → Tree) (number : Tree → ℕ)
    → AllByRecursion (λ id. number (type id) ≡ slice_index_or numbers id 0) (children node)
    → Puts (items_texts own no_place (level_items (retype type (node_shape node))))
    (λ texts. items_bytes own (text_number texts) number no_place (level_items (retype type (node_shape node)))) a b u v
