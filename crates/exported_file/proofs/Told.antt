-- A name to which a declaration refers is mentioned with its path as the declaration is written.
use Rattle.std.proofs.Common.{◌≡◌, ℕ, zero, suc, ◌≤◌, List, [], ◌∷◌, ◌++◌, length, refl, sym, ap, subst, arith, ◌⊎◌, inl, inr}
use Rattle.std.specs.List.{Contains, flat_map}
use Rattle.std.proofs.lemmas.List.Concat.{flat_map-append}
use Rattle.std.proofs.lemmas.List.Elements.{Contains-append_left, Contains-append_right, Contains-append_cases}
use Rattle.go_values.specs.declared.qualified.QName.{QName}
use Rattle.position_codec.specs.Place.{Place, place_of, no_place}
use Rattle.type_terms.specs.Trees.{Text, Tree, predeclared, named, parameter, alias, pointer, slice, array, chan, map_type, func, struct, interface, instance, union, type_list, level_of}
use Rattle.type_terms.specs.Parts.{parts, tree_size}
use Rattle.type_terms.specs.TreeSizes.{size_of_parts, part_falls}
use Rattle.type_terms.specs.Declarations.{Decl, form_types}
use Rattle.environments.specs.declared.mentions.Reference.{Reference}
use Rattle.environments.specs.References.{IsByParts, tree_references, base_references, references, reference_names}
use Rattle.environments.specs.ReferenceLaws.{references_of_parts, references_of_instance}
use Rattle.decl_spelling.specs.Sections.{Basics}
use Rattle.file_layout.specs.Items.{Item, a_number, a_flag, a_text, a_path, a_position, a_type, a_whole, level_items, decl_items}
use Rattle.file_layout.specs.Walk.{Event, ends, event_paths, item_events, items_events, type_events, walk, decl_events}
use Rattle.file_layout.proofs.ItemTypes.{items_types, level_types, decl_types, HasMethodsOf}
use Rattle.file_layout.proofs.Risen.{first_in, later_in, member, none_in, map_from, flat_from}

abbrev paths_of : List Event → List Text
paths_of es = flat_map event_paths es

told_left : (xs ys : List Event) (path : Text) → Contains (paths_of xs) path → Contains (paths_of (xs ++ ys)) path
told_left xs ys path has = subst (λ (ps : List Text). Contains ps path) (sym (flat_map-append event_paths xs ys)) (Contains-append_left (paths_of xs) (paths_of ys) path has)

told_right : (xs ys : List Event) (path : Text) → Contains (paths_of ys) path → Contains (paths_of (xs ++ ys)) path
told_right xs ys path has = subst (λ (ps : List Text). Contains ps path) (sym (flat_map-append event_paths xs ys)) (Contains-append_right (paths_of xs) (paths_of ys) path has)

-- what the walk of one of the types mentions is mentioned among the items
items_told : (walk : Tree → List Event) (before : Place) (xs : List Item) (type : Tree) (path : Text) → Contains (items_types xs) type → Contains (paths_of (walk type)) path → Contains (paths_of (items_events walk before xs)) path
items_told walk before [] type path has told = absurd (none_in type has)
items_told walk before (a_type t ∷ xs) type path has told = by (member t (items_types xs) type has) (λ later. items_told walk before xs type path later told)
  where
    by : (t ≡ type) ⊎ Contains (items_types xs) type → (Contains (items_types xs) type → Contains (paths_of (items_events walk before xs)) path) → Contains (paths_of (walk t ++ items_events walk before xs)) path
    by (inl is) later = told_left (walk t) (items_events walk before xs) path (subst (λ (x : Tree). Contains (paths_of (walk x)) path) (sym is) told)
    by (inr has) later = told_right (walk t) (items_events walk before xs) path (later has)
items_told walk before (a_number n ∷ xs) type path has told = items_told walk before xs type path has told
items_told walk before (a_flag x ∷ xs) type path has told = items_told walk before xs type path has told
items_told walk before (a_text text ∷ xs) type path has told = items_told walk before xs type path has told
items_told walk before (a_path p ∷ xs) type path has told = later_in p (paths_of (items_events walk before xs)) path (items_told walk before xs type path has told)
items_told walk before (a_position pos ∷ xs) type path has told =
    told_right (item_events walk before (a_position pos)) (items_events walk (place_of pos) xs) path (items_told walk (place_of pos) xs type path has told)
items_told walk before (a_whole signed max v ∷ xs) type path has told = items_told walk before xs type path has told

abbrev Told : ℕ → Tree → Type 0
Told n type = (r : Reference) → Contains (tree_references type) r → Contains (paths_of (type_events n type)) r.name.path

-- a type whose references are those of its parts
part_told : (n : ℕ) (type : Tree) → tree_size type ≤ suc n → type_events (suc n) type ≡ items_events (type_events n) no_place (level_items (level_of type)) ++ ends type ∷ [] → ((part : Tree) → tree_size part ≤ n → Told n part)
    → (part : Tree) (r : Reference) → Contains (parts type) part → Contains (tree_references part) r → Contains (paths_of (type_events (suc n) type)) r.name.path
part_told n type small events each part r held has =
    let inner = items_events (type_events n) no_place (level_items (level_of type)) in
    let told = each part (omega (arith, small, part_falls type part held)) r has in
    subst (λ (es : List Event). Contains (paths_of es) r.name.path) (sym events)
    (told_left inner (ends type ∷ []) r.name.path
    (items_told (type_events n) no_place (level_items (level_of type)) part r.name.path (subst (λ (ts : List Tree). Contains ts part) (sym (level_types (level_of type))) held) told))

by_parts : (n : ℕ) (type : Tree) → IsByParts type → tree_size type ≤ suc n → type_events (suc n) type ≡ items_events (type_events n) no_place (level_items (level_of type)) ++ ends type ∷ [] → ((part : Tree) → tree_size part ≤ n → Told n part) → Told (suc n) type
by_parts n type is small events each r has =
    let found = flat_from tree_references (parts type) r (subst (λ (rs : List Reference). Contains rs r) (references_of_parts type is) has) in
    part_told n type small events each found.0 r found.1 found.2

only : (q : QName) (r : Reference) (role : _) → Contains (record { name = q; role = role } ∷ []) r → r.name ≡ q
only q r role has = by (member (record { name = q; role = role }) [] r has)
  where
    by : (record { name = q; role = role } ≡ r) ⊎ Contains [] r → r.name ≡ q
    by (inl is) = ap (λ (x : Reference). x.name) (sym is)
    by (inr has) = absurd (none_in r has)

-- the base of an instance is mentioned as its own name
base_told : (base : Tree) (n : ℕ) (r : Reference) → Contains (base_references base n) r → (own : Reference) × Contains (tree_references base) own × (own.name ≡ r.name)
base_told (named q) n r has = (_, first_in _ [], sym (only q r _ has))
base_told (alias q) n r has = (_, first_in _ [], sym (only q r _ has))
base_told (predeclared basic) n r has = absurd (none_in r has)
base_told (parameter q) n r has = absurd (none_in r has)
base_told (pointer type) n r has = absurd (none_in r has)
base_told (slice type) n r has = absurd (none_in r has)
base_told (array size type) n r has = absurd (none_in r has)
base_told (chan dir type) n r has = absurd (none_in r has)
base_told (map_type key type) n r has = absurd (none_in r has)
base_told (func home ins outs variadic) n r has = absurd (none_in r has)
base_told (struct home inner) n r has = absurd (none_in r has)
base_told (interface home embedded inner) n r has = absurd (none_in r has)
base_told (instance base args) n r has = absurd (none_in r has)
base_told (union inner) n r has = absurd (none_in r has)

type_told : (n : ℕ) (type : Tree) → tree_size type ≤ n → Told n type
type_told zero type small r has = absurd (omega (arith, small, size_of_parts type))
type_told (suc n) (predeclared basic) small r has = absurd (none_in r has)
type_told (suc n) (named q) small r has = subst (λ (x : QName). Contains (paths_of (type_events (suc n) (named q))) x.path) (sym (only q r _ has)) (first_in q.path [])
type_told (suc n) (parameter q) small r has = subst (λ (x : QName). Contains (paths_of (type_events (suc n) (parameter q))) x.path) (sym (only q r _ has)) (first_in q.path [])
type_told (suc n) (alias q) small r has = subst (λ (x : QName). Contains (paths_of (type_events (suc n) (alias q))) x.path) (sym (only q r _ has)) (first_in q.path [])
type_told (suc n) (pointer type) small r has = by_parts n (pointer type) tt small refl (type_told n) r has
type_told (suc n) (slice type) small r has = by_parts n (slice type) tt small refl (type_told n) r has
type_told (suc n) (array size type) small r has = by_parts n (array size type) tt small refl (type_told n) r has
type_told (suc n) (chan dir type) small r has = by_parts n (chan dir type) tt small refl (type_told n) r has
type_told (suc n) (map_type key type) small r has = by_parts n (map_type key type) tt small refl (type_told n) r has
type_told (suc n) (func home ins outs variadic) small r has = by_parts n (func home ins outs variadic) tt small refl (type_told n) r has
type_told (suc n) (struct home inner) small r has = by_parts n (struct home inner) tt small refl (type_told n) r has
type_told (suc n) (interface home embedded inner) small r has = by_parts n (interface home embedded inner) tt small refl (type_told n) r has
type_told (suc n) (union inner) small r has = by_parts n (union inner) tt small refl (type_told n) r has
type_told (suc n) (instance base args) small r has =
    by (Contains-append_cases (flat_map tree_references (type_list args)) (base_references base (length (type_list args))) r (subst (λ (rs : List Reference). Contains rs r) (references_of_instance base args) has)) (part_told n (instance base args) small refl (type_told n))
  where
    by : Contains (flat_map tree_references (type_list args)) r ⊎ Contains (base_references base (length (type_list args))) r
        → ((part : Tree) (x : Reference) → Contains (parts (instance base args)) part → Contains (tree_references part) x → Contains (paths_of (type_events (suc n) (instance base args))) x.name.path)
        → Contains (paths_of (type_events (suc n) (instance base args))) r.name.path
    by (inl has) each = let found = flat_from tree_references (type_list args) r has in each found.0 r (Contains-append_left (type_list args) (base ∷ []) found.0 found.1) found.2
    by (inr has) each =
        let own = base_told base (length (type_list args)) r has in
        subst (λ (q : QName). Contains (paths_of (type_events (suc n) (instance base args))) q.path) own.2
        (each base own.0 (Contains-append_right (type_list args) (base ∷ []) base (first_in base [])) own.1)

pub decl_told : (basics : Basics) (decl : Decl) (q : QName) → HasMethodsOf decl → Contains (reference_names decl) q → Contains (flat_map event_paths (decl_events basics decl)) q.path
decl_told basics decl q methods has =
    let found = map_from (λ (r : Reference). r.name) (references decl) q has in
    let type = flat_from tree_references (form_types decl) found.0 found.1 in
    let there = subst (λ (ts : List Tree). Contains ts type.0) (sym (decl_types basics decl methods)) type.1 in
    subst (λ (x : QName). Contains (flat_map event_paths (decl_events basics decl)) x.path) found.2
    (items_told walk no_place (decl_items basics decl) type.0 found.0.name.path there (type_told (tree_size type.0) type.0 (omega arith) found.0 type.2))
