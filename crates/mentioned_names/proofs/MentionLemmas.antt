-- The names that the walk of a declaration meets are those of its references.
use Rattle.std.proofs.Common.{◌≡◌, ℕ, zero, suc, ◌≤◌, Bool, true, false, cond, List, [], ◌∷◌, ◌++◌, length, map, refl, sym, ap, ap₂, ◌∙◌, arith, append-nil}
use Rattle.std.specs.List.{Contains, flat_map}
use Rattle.std.proofs.lemmas.List.{map-append}
use Rattle.std.proofs.lemmas.List.Concat.{flat_map-append}
use Rattle.std.proofs.lemmas.List.Elements.{Contains-append_right, Contains-get_or, All-contains}
use Rattle.go_values.specs.declared.qualified.QName.{QName}
use Rattle.position_codec.specs.Place.{Place, place_of, no_place}
use Rattle.type_terms.specs.Trees.{Tree, predeclared, named, parameter, alias, pointer, slice, array, chan, map_type, func, struct, interface, instance, union, type_list, level_of}
use Rattle.type_terms.specs.Parts.{parts, itself, inside, tree_size, IsGeneric}
use Rattle.type_terms.specs.TreeSizes.{size_of_parts, part_falls}
use Rattle.type_terms.specs.Declarations.{Decl, form_types}
use Rattle.type_terms.specs.DeclarationRules.{IsProper, IsProperDecl}
use Rattle.environments.specs.declared.mentions.Reference.{Reference}
use Rattle.environments.specs.References.{IsByParts, tree_references, base_references, reference_names}
use Rattle.environments.specs.ReferenceLaws.{references_of_parts, references_of_instance}
use Rattle.decl_spelling.specs.Sections.{Basics}
use Rattle.file_layout.specs.Items.{Item, a_number, a_flag, a_text, a_path, a_position, a_type, a_whole, level_items, decl_items}
use Rattle.file_layout.specs.Bytes.{same_file}
use Rattle.file_layout.specs.Walk.{Event, says, ends, items_events, type_events, walk, decl_events}
use Rattle.file_layout.proofs.ItemTypes.{items_types, level_types, decl_types}
use Rattle.file_layout.proofs.SpelledBlocks.{has_its_methods}
use Rattle.block_walk.specs.Going.{event_names, leaf_names}

abbrev names_of : List Event → List QName
names_of es = flat_map event_names es

abbrev referred : Tree → List QName
referred type = map (λ (r : Reference). r.name) (tree_references type)

-- ---- lists

map_flat : {A B C : Type 0} (f : B → C) (g : A → List B) (xs : List A) → map f (flat_map g xs) ≡ flat_map (λ x. map f (g x)) xs
map_flat f g [] = refl
map_flat f g (x ∷ xs) = map-append f (g x) (flat_map g xs) ∙ ap (λ rest. map f (g x) ++ rest) (map_flat f g xs)

same_over : {A B : Type 0} (f g : A → List B) (xs : List A) → ((x : A) → Contains xs x → f x ≡ g x) → flat_map f xs ≡ flat_map g xs
same_over f g [] each = refl
same_over f g (x ∷ xs) each = ap₂ (λ a b. a ++ b) (each x (Contains-get_or (x ∷ xs) 0 x (omega arith))) (same_over f g xs (λ y held. each y (Contains-append_right (x ∷ []) xs y held)))

-- ---- items

items_names : (go : Tree → List Event) (before : Place) (xs : List Item) → names_of (items_events go before xs) ≡ flat_map (λ t. names_of (go t)) (items_types xs)
items_names go before [] = refl
items_names go before (a_number n ∷ xs) = items_names go before xs
items_names go before (a_flag x ∷ xs) = items_names go before xs
items_names go before (a_text text ∷ xs) = items_names go before xs
items_names go before (a_path path ∷ xs) = items_names go before xs
items_names go before (a_position pos ∷ xs) = by (same_file before (place_of pos)) (items_names go (place_of pos) xs)
  where
    by : (b : Bool) → names_of (items_events go (place_of pos) xs) ≡ flat_map (λ t. names_of (go t)) (items_types xs)
        → names_of (cond b [] (says (place_of pos).file ∷ []) ++ items_events go (place_of pos) xs) ≡ flat_map (λ t. names_of (go t)) (items_types xs)
    by true rest = rest
    by false rest = rest
items_names go before (a_type type ∷ xs) = flat_map-append event_names (go type) (items_events go before xs) ∙ ap (λ rest. names_of (go type) ++ rest) (items_names go before xs)
items_names go before (a_whole signed max v ∷ xs) = items_names go before xs

-- ---- types

proper_part : (type part : Tree) → Contains (parts type) part → IsProper type → IsProper part
proper_part type part held proper below within = proper below (inside type part below held within)

abbrev Meets : ℕ → Tree → Type 0
Meets n type = names_of (type_events n type) ≡ referred type

-- the names that the parts meet, where a type itself is no name
parts_meet : (n : ℕ) (type : Tree) → tree_size type ≤ suc n → IsProper type → ((part : Tree) → tree_size part ≤ n → IsProper part → Meets n part) → leaf_names type ≡ []
    → names_of (items_events (type_events n) no_place (level_items (level_of type)) ++ ends type ∷ []) ≡ flat_map referred (parts type)
parts_meet n type small proper each leaf =
    let inner = items_events (type_events n) no_place (level_items (level_of type)) in
    flat_map-append event_names inner (ends type ∷ [])
    ∙ ap₂ (λ (a b : List QName). a ++ (b ++ [])) (items_names (type_events n) no_place (level_items (level_of type)) ∙ ap (flat_map (λ t. names_of (type_events n t))) (level_types (level_of type))) leaf
    ∙ append-nil (flat_map (λ t. names_of (type_events n t)) (parts type))
    ∙ same_over (λ t. names_of (type_events n t)) referred (parts type) (λ part held. each part (omega (arith, small, part_falls type part held)) (proper_part type part held proper))

by_parts : (n : ℕ) (type : Tree) → IsByParts type → tree_size type ≤ suc n → IsProper type → ((part : Tree) → tree_size part ≤ n → IsProper part → Meets n part) → leaf_names type ≡ []
    → type_events (suc n) type ≡ items_events (type_events n) no_place (level_items (level_of type)) ++ ends type ∷ [] → Meets (suc n) type
by_parts n type is small proper each leaf events =
    ap names_of events ∙ parts_meet n type small proper each leaf
    ∙ sym (map_flat (λ (r : Reference). r.name) tree_references (parts type))
    ∙ ap (map (λ (r : Reference). r.name)) (sym (references_of_parts type is))

base_names : (base : Tree) (count : ℕ) → IsGeneric base → map (λ (r : Reference). r.name) (base_references base count) ≡ referred base
base_names (named q) count is = refl
base_names (alias q) count is = refl
base_names _ count is = absurd is

type_meets : (n : ℕ) (type : Tree) → tree_size type ≤ n → IsProper type → Meets n type
type_meets zero type small proper = absurd (omega (arith, small, size_of_parts type))
type_meets (suc n) (predeclared basic) small proper = refl
type_meets (suc n) (named q) small proper = refl
type_meets (suc n) (parameter q) small proper = refl
type_meets (suc n) (alias q) small proper = refl
type_meets (suc n) (pointer type) small proper = by_parts n (pointer type) tt small proper (type_meets n) refl refl
type_meets (suc n) (slice type) small proper = by_parts n (slice type) tt small proper (type_meets n) refl refl
type_meets (suc n) (array size type) small proper = by_parts n (array size type) tt small proper (type_meets n) refl refl
type_meets (suc n) (chan dir type) small proper = by_parts n (chan dir type) tt small proper (type_meets n) refl refl
type_meets (suc n) (map_type key type) small proper = by_parts n (map_type key type) tt small proper (type_meets n) refl refl
type_meets (suc n) (func home ins outs variadic) small proper = by_parts n (func home ins outs variadic) tt small proper (type_meets n) refl refl
type_meets (suc n) (struct home inner) small proper = by_parts n (struct home inner) tt small proper (type_meets n) refl refl
type_meets (suc n) (interface home embedded inner) small proper = by_parts n (interface home embedded inner) tt small proper (type_meets n) refl refl
type_meets (suc n) (union inner) small proper = by_parts n (union inner) tt small proper (type_meets n) refl refl
type_meets (suc n) (instance base args) small proper =
    let names : List Reference → List QName = map (λ (r : Reference). r.name) in
    let xs = type_list args in
    let generic = (proper (instance base args) (itself (instance base args))).0 in
    parts_meet n (instance base args) small proper (type_meets n) refl
    ∙ flat_map-append referred xs (base ∷ [])
    ∙ ap₂ (λ (a b : List QName). a ++ b) (sym (map_flat (λ (r : Reference). r.name) tree_references xs)) (append-nil (referred base) ∙ sym (base_names base (length xs) generic))
    ∙ sym (map-append (λ (r : Reference). r.name) (flat_map tree_references xs) (base_references base (length xs)))
    ∙ ap names (sym (references_of_instance base args))

-- ---- declarations

pub decl_meets : (basics : Basics) (decl : Decl) → IsProperDecl decl → flat_map event_names (decl_events basics decl) ≡ reference_names decl
decl_meets basics decl proper =
    items_names walk no_place (decl_items basics decl)
    ∙ ap (flat_map (λ t. names_of (walk t))) (decl_types basics decl (has_its_methods decl proper.form))
    ∙ same_over (λ t. names_of (walk t)) referred (form_types decl) (λ type held. type_meets (tree_size type) type (omega arith) (All-contains IsProper (form_types decl) type proper.types held))
    ∙ sym (map_flat (λ (r : Reference). r.name) tree_references (form_types decl))
