-- Blocks and declarations that are laid spell what they were laid for.
use Rattle.std.proofs.Common.{◌≡◌, ℕ, ◌+◌, ◌^◌, ◌≤◌, ◌<◌, true, false, List, [], ◌∷◌, ◌++◌, length, map, drop, Option, Some, None, refl, sym, ap, subst, ◌∙◌, arith, length-append, inl, inr}
use Rattle.std.specs.Prelude.{IsTrue}
use Rattle.std.specs.List.{Contains, AllByRecursion}
use Rattle.std.proofs.lemmas.List.Elements.{All-from_recursion}
use Rattle.std.proofs.Math.Seq.{drop-append_seam}
use Rattle.go_values.specs.declared.qualified.QName.{QName}
use Rattle.code_tables.specs.declared.predeclared.Basic.{Basic}
use Rattle.code_tables.specs.declared.predeclared.Basic.TheVariants as basics
use Rattle.code_tables.specs.declared.declarations.DeclTag.{DeclTag}
use Rattle.code_tables.specs.declared.declarations.DeclTag.TheVariants as kinds
use Rattle.code_tables.specs.Basic.{basic_code}
use Rattle.code_tables.specs.DeclTag.{decl_tag_code}
use Rattle.wire_bytes.specs.Section.{section_of}
use Rattle.position_codec.specs.Place.{Place, place_of, no_place}
use Rattle.type_terms.specs.Shapes.{instance_of, shape_types, retype, predeclared_of, named_of, parameter_of, alias_of, pointer_of, slice_of, array_of, chan_of, map_of, func_of, struct_of, interface_of, union_of}
use Rattle.type_terms.specs.ShapeLaws.{shape_types_map}
use Rattle.type_terms.specs.Trees.{Text, Tree, Level, predeclared, named, parameter, alias, pointer, slice, array, chan, map_type, func, struct, interface, instance, union, level_of, tree_of}
use Rattle.type_terms.specs.TreeLevels.{tree_of-level_of}
use Rattle.type_terms.specs.Parts.{IsGeneric}
use Rattle.type_terms.specs.Declarations.{Decl, var_of, function_of, constant_of, defined_of, renamed_of, type_parameter_of, form_types}
use Rattle.type_terms.specs.DeclarationRules.{IsProperLevel, IsProperForm}
use Rattle.decl_spelling.specs.declared.mention.TheConstants.{FIRST_DESCRIPTOR}
use Rattle.decl_spelling.specs.Sections.{Sections, Basics}
use Rattle.decl_spelling.specs.Spelled.{SpelledText, SpelledPath, SpelledPos, SpelledShape, SpelledForm, pos_meant, text_meant, path_meant, meant, form_meant}
use Rattle.decl_spelling.specs.Codes.{basic_of, decl_tag_of}
use Rattle.decl_spelling.specs.Descent.{is_generic}
use Rattle.decl_spelling.specs.Descriptors.{Flat}
use Rattle.decl_spelling.specs.Grammar.{Here, InTurn, IsDescriptor}
use Rattle.decl_spelling.specs.Spelling.{Block, Known, Names, AllNamed, here, IsInstanceOf, Says, Sound, number_of, kind_of_decl, SpellsDecl}
use Rattle.decl_spelling.proofs.MapLemmas.{all_map, all_unmap, all_weaker}
use Rattle.decl_spelling.proofs.RetypeLemmas.{retype_twice, form_twice}
use Rattle.decl_spelling.proofs.Forms.{generic_same, form_types_map}
use Rattle.file_envelope.specs.FileBytes.{text_number}
use Rattle.file_layout.specs.Items.{Item, a_number, a_flag, a_text, a_path, a_position, a_type, a_whole, level_items, decl_items, decl_kind}
use Rattle.file_layout.specs.Bytes.{items_bytes}
use Rattle.file_layout.specs.Walk.{is_made}
use Rattle.file_layout.specs.Places.{start_of, number_in, number_from, Line, Written}
use Rattle.file_layout.proofs.Numbers.{NumbersFit, each_item_has_a_byte, level_numbers, decl_numbers}
use Rattle.file_layout.proofs.ItemsStand.{IsItem, AllMayStand, last_place, here_with, items_here}
use Rattle.file_layout.proofs.MeantTwice.{meant_twice, form_twice as form_meant_twice}
use Rattle.file_layout.proofs.DescriptorsHere.{TypeAt, shape_tree, spell, level_there}
use Rattle.file_layout.proofs.FormsHere.{tree_at, form_tree, known, known_form, form_there, no_methods}
use Rattle.file_layout.proofs.ItemTypes.{items_types, level_types, decl_types, HasMethodsOf}
use Rattle.file_layout.proofs.Laying.{Placed, block_of, Lies, BlockLies, LineLies, Good}

-- ---- codes

code_small : (basic : Basic) → basic_code basic < 32
code_small basics.Comparable = omega arith
code_small basics.Any = omega arith
code_small _ = omega arith

code_back : (basic : Basic) → basic_of 2 (basic_code basic) ≡ Some basic
code_back basics.Bool = refl
code_back _ = refl

kind_back : (kind : DeclTag) → decl_tag_of 2 (decl_tag_code kind) ≡ Some kind
kind_back kinds.Var = refl
kind_back _ = refl

-- a type that has no descriptor is predeclared
basic_is : (type : Tree) → is_made type ≡ false → (basic : Basic) × (type ≡ predeclared basic)
basic_is (predeclared basic) made = (basic, refl)
basic_is _ made = absurd cc

made_number : (type : Tree) (start : ℕ) → is_made type ≡ true → number_from type start ≡ FIRST_DESCRIPTOR + start
made_number (predeclared basic) start made = absurd cc
made_number _ start made = refl

some_items : (type : Tree) → is_made type ≡ true → level_items (level_of type) ≡ [] → ⊥
some_items (predeclared basic) made none = absurd cc
some_items _ made none = absurd cc

generic_is : (type : Tree) → IsGeneric type → IsTrue (is_generic type)
generic_is (named q) is = refl
generic_is (alias q) is = refl
generic_is (predeclared basic) is = elim is [ ]
generic_is (parameter q) is = elim is [ ]
generic_is (pointer type) is = elim is [ ]
generic_is (slice type) is = elim is [ ]
generic_is (array size type) is = elim is [ ]
generic_is (chan dir type) is = elim is [ ]
generic_is (map_type key type) is = elim is [ ]
generic_is (func home ins outs variadic) is = elim is [ ]
generic_is (struct home inner) is = elim is [ ]
generic_is (interface home embedded inner) is = elim is [ ]
generic_is (instance base args) is = elim is [ ]
generic_is (union inner) is = elim is [ ]

all_known : (own : Text) (paths texts : List Text) (number : Tree → ℕ) (before : Place) (xs : List Item) → AllMayStand own paths texts (λ (type : Tree). 0) before xs → AllByRecursion (λ t. number t < 2 ^ 64) (items_types xs)
    → AllMayStand own paths texts number before xs
all_known own paths texts number before [] may all = tt
all_known own paths texts number before (a_type type ∷ xs) may all = (all.0, all_known own paths texts number before xs may.1 all.1)
all_known own paths texts number before (a_number n ∷ xs) may all = (may.0, all_known own paths texts number before xs may.1 all)
all_known own paths texts number before (a_flag x ∷ xs) may all = (may.0, all_known own paths texts number before xs may.1 all)
all_known own paths texts number before (a_text text ∷ xs) may all = (may.0, all_known own paths texts number before xs may.1 all)
all_known own paths texts number before (a_path path ∷ xs) may all = (may.0, all_known own paths texts number before xs may.1 all)
all_known own paths texts number before (a_position pos ∷ xs) may all = (may.0, all_known own paths texts number (place_of pos) xs may.1 all)
all_known own paths texts number before (a_whole signed max v ∷ xs) may all = (may.0, all_known own paths texts number before xs may.1 all)

pub has_its_methods : (decl : Decl) → IsProperForm decl → HasMethodsOf decl
has_its_methods (defined_of pos tparams underlying methods) proper = no_methods underlying methods proper.2
has_its_methods (var_of pos type) proper = tt
has_its_methods (function_of pos tparams sig) proper = tt
has_its_methods (constant_of pos type value) proper = tt
has_its_methods (renamed_of pos tparams type) proper = tt
has_its_methods (type_parameter_of pos implicit constraint) proper = tt

-- ---- in a file of these sections

module _ (own : Text) (paths texts : List Text) (basics : Basics) (decls : QName → Option Decl) (src : Sections) (w : Written) (good : Good own paths texts basics decls w)
    (body_is : src.body ≡ w.bytes) (strings_are : src.strings ≡ section_of texts) (version : src.version ≡ 2) (own_is : src.own ≡ own) (paths_are : src.paths ≡ paths)
    (strings_fit : length (section_of texts) < 2 ^ 64) (body_fits : length w.bytes + 32 < 2 ^ 64) where
  abbrev Lying : ℕ → ℕ → (List Block → List ℕ) → List Item → Type 0
  Lying = Lies own paths texts basics decls w.bytes w.blocks

  abbrev number : List Block → Tree → ℕ
  number before = number_in before

  -- the piece starts inside the data section
  starts_inside : {start end : ℕ} {piece : List Block → List ℕ} {items : List Item} → (lies : Lying start end piece items) → (start ≤ length w.bytes) × (end + length lies.rest ≡ length w.bytes)
  starts_inside {piece = piece} lies =
      let size : length w.bytes ≡ length lies.front + (length (piece lies.before) + length lies.rest) =
      ap length lies.stands ∙ length-append lies.front (piece lies.before ++ lies.rest) ∙ ap (λ (n : ℕ). length lies.front + n) (length-append (piece lies.before) lies.rest)
      in (omega (arith, size, lies.starts), omega (arith, size, lies.starts, lies.ends))

  number_small : {start end : ℕ} {piece : List Block → List ℕ} {items : List Item} → (lies : Lying start end piece items) → (type : Tree) → Placed lies.before type → number_in lies.before type < 2 ^ 64
  number_small lies type (inl made) =
      let basic = basic_is type made in
      let is : number_in lies.before type ≡ basic_code basic.0 = ap (λ (t : Tree). number_from t (start_of lies.before type)) basic.1 in
      omega (arith, is, code_small basic.0)
  number_small lies type (inr placed) =
      let found = block_of lies.before type placed.1 in
      let early = lies.early found.block found.there in
      let inside = (starts_inside lies).0 in
      omega (arith, made_number type (start_of lies.before type) placed.0, found.start, early.0, early.1, inside, body_fits)

  names : {start end : ℕ} {piece : List Block → List ℕ} {items : List Item} → (lies : Lying start end piece items) → (type : Tree) → Placed lies.before type
      → Names src w.blocks start (record { number = number_in lies.before type; pos = None; tree = type })
  names lies type (inl made) =
      let basic = basic_is type made in
      let is : number_in lies.before type ≡ basic_code basic.0 = ap (λ (t : Tree). number_from t (start_of lies.before type)) basic.1 in
      inl (
        omega (arith, is, code_small basic.0),
        basic.0,
        ap (basic_of src.version) is ∙ ap (λ (v : ℕ). basic_of v (basic_code basic.0)) version ∙ code_back basic.0,
        basic.1,
      )
  names lies type (inr placed) =
      let found = block_of lies.before type placed.1 in
      inr (
        found.block,
        lies.within found.block found.there,
        made_number type (start_of lies.before type) placed.0 ∙ ap (λ (n : ℕ). FIRST_DESCRIPTOR + n) found.start,
        (lies.early found.block found.there).1,
        found.tree,
      )

  names_all : {start end : ℕ} {piece : List Block → List ℕ} {items : List Item} → (lies : Lying start end piece items) → (ys : List TypeAt) → AllByRecursion (Placed lies.before) (map tree_at ys)
      → AllNamed src w.blocks start (map (known src (number_in lies.before)) ys)
  names_all {start} lies ys placed =
      All-from_recursion (Names src w.blocks start) (map (known src (number_in lies.before)) ys)
      (all_map (Names src w.blocks start) (known src (number_in lies.before)) ys
      (all_weaker (λ (t : TypeAt). Placed lies.before t.tree) (λ (t : TypeAt). Names src w.blocks start (known src (number_in lies.before) t)) (λ t there. names lies t.tree there) ys (all_unmap (Placed lies.before) tree_at ys placed)))

  -- the bytes of the items stand behind some first ones
  abbrev items_of : List Block → List Item → List ℕ
  items_of before items = items_bytes own (text_number texts) (number_in before) no_place items

  -- There are no more items than bytes, and these stand in the data section.
  few_items : {start end : ℕ} {piece : List Block → List ℕ} {items : List Item} → (lies : Lying start end piece items) → length (items_of lies.before items) ≤ length (piece lies.before) → length items < 2 ^ 64
  few_items {items = items} lies held =
      omega (arith, each_item_has_a_byte own (text_number texts) (number_in lies.before) no_place items, held, lies.ends, (starts_inside lies).1, body_fits)

  items_there : {start end : ℕ} {piece : List Block → List ℕ} {items : List Item} → (lies : Lying start end piece items) → (rest : List ℕ) → NumbersFit items
      → (name : Option ℕ) × InTurn (IsItem src (number_in lies.before)) (here_with (items_of lies.before items ++ rest) no_place None) items (here_with rest (last_place no_place items) name)
  items_there {items = items} lies rest small =
      let may = all_known own paths texts (number_in lies.before) no_place items lies.may (all_weaker (Placed lies.before) (λ t. number_in lies.before t < 2 ^ 64) (number_small lies) (items_types items) lies.placed) in
      let may' : AllMayStand src.own src.paths texts (number_in lies.before) no_place items =
      subst (λ (o : Text). AllMayStand o src.paths texts (number_in lies.before) no_place items) (sym own_is)
      (subst (λ (ps : List Text). AllMayStand own ps texts (number_in lies.before) no_place items) (sym paths_are) may)
      in
      subst (λ (o : Text). (name : Option ℕ) × InTurn (IsItem src (number_in lies.before)) (here_with (items_bytes o (text_number texts) (number_in lies.before) no_place items ++ rest) no_place None) items (here_with rest (last_place no_place items) name)) own_is
      (items_here src texts (number_in lies.before) strings_are strings_fit no_place None items rest (omega arith, omega arith) small may')

  piece_there : {start end : ℕ} {piece : List Block → List ℕ} {items : List Item} → (lies : Lying start end piece items) → drop start src.body ≡ piece lies.before ++ lies.rest
  piece_there {start} {piece = piece} lies =
      ap (drop start) (body_is ∙ lies.stands)
      ∙ ap (λ (n : ℕ). drop n (lies.front ++ (piece lies.before ++ lies.rest))) (sym lies.starts)
      ∙ drop-append_seam lies.front (piece lies.before ++ lies.rest)

  base_is : (number' : Tree → ℕ) (y : SpelledShape TypeAt) → IsProperLevel (shape_tree y) → IsInstanceOf (retype (known src number') y)
  base_is number' (instance_of base args) proper = generic_is base.tree proper.0
  base_is number' (predeclared_of basic) proper = tt
  base_is number' (named_of name path) proper = tt
  base_is number' (parameter_of name path) proper = tt
  base_is number' (alias_of name path) proper = tt
  base_is number' (pointer_of type) proper = tt
  base_is number' (slice_of type) proper = tt
  base_is number' (array_of size type) proper = tt
  base_is number' (chan_of dir type) proper = tt
  base_is number' (map_of key type) proper = tt
  base_is number' (func_of home sig) proper = tt
  base_is number' (struct_of home fields) proper = tt
  base_is number' (interface_of home embedded methods) proper = tt
  base_is number' (union_of terms) proper = tt

  -- the types of what is spelled are those of what is meant
  shape_trees : (y : SpelledShape TypeAt) (level : Level) → shape_tree y ≡ level → shape_types level ≡ map tree_at (shape_types y)
  shape_trees y level is = ap shape_types (sym is) ∙ shape_types_map pos_meant text_meant path_meant tree_at y

  form_trees : (y : SpelledForm TypeAt) (decl : Decl) → form_tree y ≡ decl → form_types decl ≡ map tree_at (form_types y)
  form_trees y decl is = ap form_types (sym is) ∙ form_types_map pos_meant text_meant tree_at y

  block_says : (b : Block) → BlockLies own paths texts basics decls w.bytes w.blocks b → Says src w.blocks b
  block_says b there =
      let lies = there.lies in
      let level = level_of b.tree in
      let items = level_items level in
      let number' = number_in lies.before in
      let a = here_with (items_of lies.before items ++ lies.rest) no_place None in
      let stand = items_there lies lies.rest (level_numbers level there.fits.proper (few_items lies (omega arith))) in
      let after = here_with lies.rest (last_place no_place items) stand.0 in
      let descriptor = level_there src number' level a after version there.fits.proper there.fits.no_origin stand.1 (some_items b.tree there.made) in
      let y = descriptor.0 in
      let at : a ≡ here src b.start = ap (λ (bs : List ℕ). here_with bs no_place None) (sym (piece_there lies)) in
      let trees : meant (retype (λ (x : Known). x.tree) (retype (known src number') y)) ≡ level
      = ap meant (retype_twice (known src number') (λ (x : Known). x.tree) SpelledPos SpelledText SpelledPath y) ∙ meant_twice tree_at y ∙ descriptor.1 in
      record {
        parts = retype (known src number') y;
        after = after;
        stands =
            subst (λ (flat : Flat). IsDescriptor src (here src b.start) flat after) (sym (retype_twice (known src number') number_of SpelledPos SpelledText SpelledPath y))
            (subst (λ (h : Here). IsDescriptor src h (retype (spell src number') y) after) at descriptor.2);
        ends = (starts_inside lies).1 ∙ sym (ap length body_is);
        type = sym (ap tree_of trees ∙ tree_of-level_of b.tree);
        named =
            subst (AllNamed src w.blocks b.start) (sym (shape_types_map (λ (p : SpelledPos). p) (λ (s : SpelledText). s) (λ (q : SpelledPath). q) (known src number') y))
            (names_all lies (shape_types y) (subst (AllByRecursion (Placed lies.before)) (level_types level ∙ shape_trees y level descriptor.1) lies.placed));
        generic = base_is number' y (subst IsProperLevel (sym descriptor.1) there.fits.proper);
      }

  pub sound : Sound src w.blocks
  sound = record { each = λ b has. block_says b (good.blocks b has); apart = good.apart }

  -- ---- declarations

  kind_is : (number' : Tree → ℕ) (y : SpelledForm TypeAt) → kind_of_decl (known_form src number' y) ≡ decl_kind (form_tree y)
  kind_is number' (var_of pos type) = refl
  kind_is number' (function_of pos tparams sig) = generic_same (known src number') tparams kinds.GenericFunc kinds.Func ∙ sym (generic_same tree_at tparams kinds.GenericFunc kinds.Func)
  kind_is number' (constant_of pos type value) = refl
  kind_is number' (defined_of pos tparams underlying methods) = generic_same (known src number') tparams kinds.GenericDefined kinds.Defined ∙ sym (generic_same tree_at tparams kinds.GenericDefined kinds.Defined)
  kind_is number' (renamed_of pos tparams type) = generic_same (known src number') tparams kinds.GenericAlias kinds.Alias ∙ sym (generic_same tree_at tparams kinds.GenericAlias kinds.Alias)
  kind_is number' (type_parameter_of pos implicit constraint) = refl

  line_spells : (l : Line) → (there : LineLies own paths texts basics decls w.bytes w.blocks l) → SpellsDecl src basics l.start there.decl
  line_spells l there =
      let lies = there.lies in
      let decl = there.decl in
      let items = decl_items basics decl in
      let number' = number_in lies.before in
      let bytes = items_of lies.before items ++ lies.rest in
      let stand = items_there lies lies.rest (decl_numbers basics decl (few_items lies (omega arith))) in
      let after = here_with lies.rest (last_place no_place items) stand.0 in
      let form = form_there src number' basics decl (here_with bytes no_place None) after version there.fits.proper there.fits.constant stand.1 in
      let y = form.0 in
      let is : form_tree y ≡ decl = form.2 in
      let kind : kind_of_decl (known_form src number' y) ≡ decl_kind decl = kind_is number' y ∙ ap decl_kind is in
      record {
        blocks = w.blocks;
        sound = sound;
        parts = known_form src number' y;
        value = form.1;
        rest = bytes;
        after = after;
        kind = piece_there lies ∙ ap (λ (kind : DeclTag). decl_tag_code kind ∷ bytes) (sym kind);
        known = ap (λ (v : ℕ). decl_tag_of v (decl_tag_code (kind_of_decl (known_form src number' y)))) version ∙ kind_back (kind_of_decl (known_form src number' y));
        stands = form.3;
        named =
            subst (AllNamed src w.blocks l.start) (sym (form_types_map (λ (p : SpelledPos). p) (λ (s : SpelledText). s) (known src number') y))
            (names_all lies (form_types y) (subst (AllByRecursion (Placed lies.before)) (decl_types basics decl (has_its_methods decl there.fits.proper) ∙ form_trees y decl is) lies.placed));
        meant = sym (ap form_meant (form_twice (known src number') (λ (x : Known). x.tree) SpelledPos SpelledText y) ∙ form_meant_twice tree_at y ∙ is);
      }

  -- each line is the place of the declaration of its name
  pub line_is : (l : Line) → Contains w.lines l → (decl : Decl) × (decls l.name ≡ Some decl) × SpellsDecl src basics l.start decl
  line_is l has = let there = good.lines l has in (there.decl, there.is, line_spells l there)
