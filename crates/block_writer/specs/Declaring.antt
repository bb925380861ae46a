-- What is added for a declaration, and what is put of it.
use Rattle.std.specs.Prelude.{◌≡◌, ℕ, List, [], ◌∷◌, ◌++◌, map, slice_index_or, Option, IsTrue, false}
use Rattle.std.specs.List.{AllByRecursion}
use Rattle.go_values.specs.declared.constants.Const.{Const}
use Rattle.go_values.specs.declared.constants.Const.TheVariants.{Int as whole}
use Rattle.code_tables.specs.declared.predeclared.Basic.{Basic}
use Rattle.code_tables.specs.DeclTag.{decl_tag_code}
use Rattle.wire_bytes.specs.Whole.{IsGreatestLength, in_range}
use Rattle.position_codec.specs.Place.{no_place}
use Rattle.type_terms.specs.declared.declarations.DeclNode.{DeclNode}
use Rattle.type_terms.specs.declared.declarations.DeclNode.TheVariants.{Constant, Defined}
use Rattle.type_terms.specs.Declarations.{Decl, form_map, decl_form, decl_nodes}
use Rattle.type_terms.specs.Trees.{Text, Tree}
use Rattle.decl_spelling.specs.Sections.{Basics}
use Rattle.decl_spelling.specs.Constants.{Kind, spelled, number, basic_type}
use Rattle.decl_spelling.specs.Declarations.{has_methods}
use Rattle.file_envelope.specs.FileBytes.{text_number}
use Rattle.file_layout.specs.Items.{Item, a_whole, constant_kind, decl_items, decl_kind}
use Rattle.file_layout.specs.Bytes.{items_bytes}
use Rattle.file_writer.specs.Puts.{Puts}
use Rattle.block_writer.specs.declared.declarations.Told.{Told}
use Rattle.block_writer.specs.declared.items.Item.{Item as Put}
use Rattle.block_writer.specs.declared.values.Whole.{Whole}
use Rattle.block_writer.specs.Adding.{meant}
use Rattle.block_writer.specs.Putting.{items_texts}

-- a declaration over nodes, with the types of numbers
abbrev pub decl_over : (ℕ → Tree) → DeclNode → Decl
decl_over type decl = form_map (λ x. x) (λ x. x) type (decl_form decl)

-- What is told of a declaration is so: the basic type of a constant's type, and whether a defined type may have
-- methods.
abbrev pub IsTold : Basics → (ℕ → Tree) → Told → DeclNode → Type 0
IsTold basics type told (Constant pos ty value) = told.basic ≡ basic_type basics (type ty)
IsTold basics type told (Defined pos tparams underlying methods) = told.has_methods ≡ has_methods (type underlying)
IsTold basics type told _ = Unit {0}

-- a defined type that may have no methods has none
abbrev pub HidesNone : Told → DeclNode → Type 0
HidesNone told (Defined pos tparams underlying methods) = told.has_methods ≡ false → methods ≡ []
HidesNone told _ = Unit {0}

-- ---- a whole number, which stands last

abbrev pub last_items : Kind → Const → List Item
last_items (spelled (number signed max)) (whole x) = a_whole signed max x ∷ []
last_items kind value = []

abbrev pub last_of : Option Basic → DeclNode → List Item
last_of basic (Constant pos ty value) = last_items (constant_kind basic) value
last_of basic _ = []

abbrev pub whole_item : Whole → Item
whole_item x = a_whole x.signed x.max x.value

abbrev pub IsWhole : Whole → Type 0
IsWhole x = IsGreatestLength x.max × (x.max ≡ 64 → IsTrue x.signed)

-- a whole number is one of its type
abbrev pub IsOfType : Item → Type 0
IsOfType (a_whole signed max v) = IsTrue (in_range signed max v)
IsOfType _ = Unit {0}

-- ---- what is added

-- Items were added but for the last of them, whatever types the numbers stand for.
abbrev pub AddsFront : List Put → List Put → ((ℕ → Tree) → List Item) → List Item → Type 0
AddsFront old new items last = (type : ℕ → Tree) → map (meant type) new ++ last ≡ map (meant type) old ++ items type

abbrev pub AddsDecl : Told → DeclNode → List Put → List Put → Type 0
AddsDecl told decl old new = (type : ℕ → Tree) (basics : Basics) → IsTold basics type told decl
    → map (meant type) new ++ last_of told.basic decl ≡ map (meant type) old ++ decl_items basics (decl_over type decl)

-- A declaration was put, whatever types the numbers of nodes stand for, where each has the number at its node's place.
abbrev pub PutsDecl : Text → List ℕ → Told → DeclNode → List Text → List Text → List ℕ → List ℕ → Type 0
PutsDecl own numbers told decl a b u v = (type : ℕ → Tree) (number : Tree → ℕ) (basics : Basics)
    → IsTold basics type told decl
    → AllByRecursion (λ id. number (type id) ≡ slice_index_or numbers id 0) (decl_nodes decl)
    → Puts (items_texts own no_place (decl_items basics (decl_over type decl)))
    (λ texts. decl_tag_code (decl_kind (decl_over type decl))
    ∷ items_bytes own (text_number texts) number no_place (decl_items basics (decl_over type decl))) a b u v
