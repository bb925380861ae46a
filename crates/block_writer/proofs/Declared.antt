-- Declarations whose items were added.
use Rattle.std.proofs.Common.{◌≡◌, ℕ, Bool, List, [], ◌∷◌, ◌++◌, map, Result, refl, sym, ap, subst, ◌∙◌, append_assoc, append-nil}
use Rattle.std.specs.Prelude.{OnOk, Option}
use Rattle.code_tables.specs.declared.predeclared.Basic.{Basic}
use Rattle.go_values.specs.declared.constants.Const.{Const}
use Rattle.go_values.specs.declared.constants.Const.TheVariants.{Bool as truth, Int as whole, Str as chars}
use Rattle.go_values.specs.declared.positions.Pos.{Pos}
use Rattle.type_terms.specs.declared.declarations.DeclNode.{DeclNode}
use Rattle.type_terms.specs.declared.declarations.DeclNode.TheVariants.{Constant}
use Rattle.type_terms.specs.Trees.{Tree}
use Rattle.decl_spelling.specs.Sections.{Basics}
use Rattle.decl_spelling.specs.Constants.{spelled, flag, offset, number}
use Rattle.block_reader.specs.declared.values.Spelling.{Spelling}
use Rattle.block_reader.specs.declared.values.Spelling.TheVariants.{Flag, Offset, Number}
use Rattle.block_reader.specs.Spellings.{spelling_shape}
use Rattle.file_writer.proofs.PutLemmas.{on_ok}
use Rattle.file_layout.specs.Items.{Item, a_position, a_type, constant_kind, spelled_items, value_items, decl_items}
use Rattle.block_writer.specs.declared.declarations.Told.{Told}
use Rattle.block_writer.specs.declared.items.Item.{Item as Put}
use Rattle.block_writer.specs.Adding.{meant, Adds}
use Rattle.block_writer.specs.Declaring.{decl_over, IsTold, last_of, last_items, AddsFront, AddsDecl}

module _ {X E : Type 0} (result : Result X E) (old new : List Put) (told : Told) where
  -- a declaration of a kind whose items are all added
  pub decl_added : (decl kind : DeclNode) (f : (ℕ → Tree) → List Item) → decl ≡ kind → last_of told.basic kind ≡ []
      → ((type : ℕ → Tree) (basics : Basics) → IsTold basics type told kind → f type ≡ decl_items basics (decl_over type kind)) → OnOk result (Adds old new f) → OnOk result (AddsDecl told decl old new)
  decl_added decl kind f is none same adds =
      subst (λ (d : DeclNode). OnOk result (AddsDecl told d old new)) (sym is)
      (on_ok result _ _ (λ (added : Adds old new f). λ type basics so.
      ap (λ (last : List Item). map (meant type) new ++ last) none ∙ append-nil (map (meant type) new) ∙ added type ∙ ap (λ (items : List Item). map (meant type) old ++ items) (same type basics so)) adds)

  pub constant_added : (decl : DeclNode) (pos : Pos) (ty : ℕ) (value : Const) → decl ≡ Constant pos ty value
      → OnOk result (AddsFront old new (λ type. a_position pos ∷ a_type (type ty) ∷ value_items (constant_kind told.basic) value) (last_items (constant_kind told.basic) value)) → OnOk result (AddsDecl told decl old new)
  constant_added decl pos ty value is adds =
      subst (λ (d : DeclNode). OnOk result (AddsDecl told d old new)) (sym is)
      (on_ok result _ _ (λ (added : AddsFront old new (λ type. a_position pos ∷ a_type (type ty) ∷ value_items (constant_kind told.basic) value) (last_items (constant_kind told.basic) value)). λ type basics so.
      added type ∙ ap (λ (basic : Option Basic). map (meant type) old ++ a_position pos ∷ a_type (type ty) ∷ value_items (constant_kind basic) value) so) adds)

-- what stands behind other items, where a last one isn't added
pub front_behind : {X E : Type 0} (result : Result X E) (first old new : List Put) (f g : (ℕ → Tree) → List Item) (last : List Item) → Adds first old f → OnOk result (AddsFront old new g last) → OnOk result (AddsFront first new (λ type. f type ++ g type) last)
front_behind result first old new f g last front =
    on_ok result _ _ (λ (added : AddsFront old new g last). λ type.
    added type ∙ ap (λ (items : List Item). items ++ g type) (front type) ∙ append_assoc (map (meant type) first) (f type) (g type))

-- ---- values

no_last : {X E : Type 0} (result : Result X E) (old new : List Put) (f : (ℕ → Tree) → List Item) → OnOk result (Adds old new f) → OnOk result (AddsFront old new f [])
no_last result old new f = on_ok result _ _ (λ (added : Adds old new f). λ type. append-nil (map (meant type) new) ∙ added type)

nothing_added : (old : List Put) (f : (ℕ → Tree) → List Item) (last : List Item) → ((type : ℕ → Tree) → last ≡ f type) → AddsFront old old f last
nothing_added old f last same type = ap (λ (items : List Item). map (meant type) old ++ items) (same type)

pub number_last : (signed : Bool) (max : ℕ) (value : Const) → last_items (spelled (number signed max)) value ≡ spelled_items (number signed max) value
number_last signed max (truth x) = refl
number_last signed max (whole x) = refl
number_last signed max (chars x) = refl

module _ {X E : Type 0} (result : Result X E) (old new : List Put) (spelling : Spelling) (value : Const) where
  abbrev Spelled : Spelling → Type 0
  Spelled s = OnOk result (AddsFront old new (λ type. spelled_items (spelling_shape s) value) (last_items (spelled (spelling_shape s)) value))

  pub truth_added : spelling ≡ Flag → OnOk result (Adds old new (λ type. spelled_items flag value)) → Spelled spelling
  truth_added is adds = subst Spelled (sym is) (no_last result old new (λ type. spelled_items flag value) adds)

  pub text_added : spelling ≡ Offset → OnOk result (Adds old new (λ type. spelled_items offset value)) → Spelled spelling
  text_added is adds = subst Spelled (sym is) (no_last result old new (λ type. spelled_items offset value) adds)

pub number_added : (old : List Put) (spelling : Spelling) (signed : Bool) (max : ℕ) (value : Const) → spelling ≡ Number signed max
    → AddsFront old old (λ type. spelled_items (spelling_shape spelling) value) (last_items (spelled (spelling_shape spelling)) value)
number_added old spelling signed max value is =
    subst (λ (s : Spelling). AddsFront old old (λ type. spelled_items (spelling_shape s) value) (last_items (spelled (spelling_shape s)) value)) (sym is)
    (nothing_added old (λ type. spelled_items (number signed max) value) (last_items (spelled (number signed max)) value) (λ type. number_last signed max value))
