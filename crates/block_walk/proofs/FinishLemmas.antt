-- What is put where a descriptor is finished, and what the section stands for then.
use Rattle.std.proofs.Common.{◌≡◌, ℕ, ◌+◌, ◌<◌, Bool, true, false, cond, List, [], ◌∷◌, ◌++◌, length, refl, ap, sym, subst, ◌∙◌, inl, inr, arith, append_assoc, append-nil}
use Rattle.std.specs.Prelude.{◌||◌, is_some, fold, slice_index_or}
use Rattle.std.specs.List.{AllByRecursion}
use Rattle.std.proofs.lemmas.Bool.{cases_eq}
use Rattle.std.proofs.lemmas.List.{length-set, get_or-set_same, get_or-set_other}
use Rattle.code_tables.specs.declared.predeclared.Basic.TheVariants.{Bool as bool_type}
use Rattle.wire_bytes.specs.Section.{offset_in, with_text}
use Rattle.position_codec.specs.Place.{no_place}
use Rattle.type_terms.specs.declared.descriptors.Node.{Node}
use Rattle.type_terms.specs.declared.descriptors.Node.TheVariants.{Predeclared, Named, Param, AliasName, Pointer, Slice, Array, Chan, MapOf, FuncOf, StructOf, Iface, Instance, Union}
use Rattle.type_terms.specs.Denotation.{tree}
use Rattle.type_terms.specs.Denoted.{tree_told}
use Rattle.type_terms.specs.NodeShapes.{node_shape, children}
use Rattle.type_terms.specs.Shapes.{retype}
use Rattle.type_terms.specs.TreeEquality.{same_tree, same_told, same_itself}
use Rattle.type_terms.specs.TreeLevels.{level_of-tree_of}
use Rattle.type_terms.specs.Trees.{Text, Tree, predeclared, named, parameter, alias, pointer, slice, array, chan, map_type, func, struct, interface, instance, union, level_of, tree_of}
use Rattle.decl_spelling.specs.declared.mention.TheConstants.{FIRST_DESCRIPTOR}
use Rattle.decl_spelling.specs.Spelling.{Block}
use Rattle.file_envelope.specs.FileBytes.{text_number}
use Rattle.file_layout.specs.Items.{level_items}
use Rattle.file_layout.specs.Bytes.{items_bytes}
use Rattle.file_layout.specs.Walk.{is_made}
use Rattle.file_layout.specs.Places.{is_placed, start_of, number_from, number_in, place_type}
use Rattle.block_writer.specs.Putting.{items_texts}
use Rattle.block_walk.specs.declared.section.Section.{Section}
use Rattle.block_walk.specs.Steps.{Step, finish}
use Rattle.block_walk.specs.Going.{Out, leaf_names, with_names, put_type, with_steps, went}
use Rattle.block_walk.specs.Labels.{Labels, IsLabelled}
use Rattle.block_walk.specs.NodeNames.{node_names}
use Rattle.block_walk.specs.Standing.{Stands, HasRoom, Goes}
use Rattle.block_walk.specs.Finishing.{IsPut}
use Rattle.block_walk.proofs.KnownLemmas.{placed_cases}

-- ---- numbers of types

pub number_made : (type : Tree) (start : ℕ) → is_made type ≡ true → number_from type start ≡ FIRST_DESCRIPTOR + start
number_made (predeclared basic) start is = absurd cc
number_made (named q) start is = refl
number_made (parameter q) start is = refl
number_made (alias q) start is = refl
number_made (pointer type) start is = refl
number_made (slice type) start is = refl
number_made (array size type) start is = refl
number_made (chan dir type) start is = refl
number_made (map_type key type) start is = refl
number_made (func home ins outs variadic) start is = refl
number_made (struct home inner) start is = refl
number_made (interface home embedded inner) start is = refl
number_made (instance base args) start is = refl
number_made (union inner) start is = refl

number_code : (type : Tree) (start other : ℕ) → is_made type ≡ false → number_from type start ≡ number_from type other
number_code (predeclared basic) start other is = refl
number_code (named q) start other is = absurd cc
number_code (parameter q) start other is = absurd cc
number_code (alias q) start other is = absurd cc
number_code (pointer type) start other is = absurd cc
number_code (slice type) start other is = absurd cc
number_code (array size type) start other is = absurd cc
number_code (chan dir type) start other is = absurd cc
number_code (map_type key type) start other is = absurd cc
number_code (func home ins outs variadic) start other is = absurd cc
number_code (struct home inner) start other is = absurd cc
number_code (interface home embedded inner) start other is = absurd cc
number_code (instance base args) start other is = absurd cc
number_code (union inner) start other is = absurd cc

leaf_is : (type : ℕ → Tree) (node : Node) → node_names node ≡ leaf_names (tree_of (retype type (node_shape node)))
leaf_is type (Predeclared basic) = refl
leaf_is type (Named q) = refl
leaf_is type (Param q) = refl
leaf_is type (AliasName q) = refl
leaf_is type (Pointer id) = refl
leaf_is type (Slice id) = refl
leaf_is type (Array size id) = refl
leaf_is type (Chan dir id) = refl
leaf_is type (MapOf key id) = refl
leaf_is type (FuncOf home sig) = refl
leaf_is type (StructOf home inner) = refl
leaf_is type (Iface home embedded inner) = refl
leaf_is type (Instance base args) = refl
leaf_is type (Union inner) = refl

-- ---- one more block

start_other : (type : Tree) (blocks : List Block) (block : Block) → same_tree type block.tree ≡ false → start_of (blocks ++ block ∷ []) type ≡ start_of blocks type
start_other type [] block is = ap (λ c. cond c block.start 0) is
start_other type (b ∷ bs) block is = ap (λ n. cond (same_tree type b.tree) b.start n) (start_other type bs block is)

start_new : (type : Tree) (blocks : List Block) (block : Block) → same_tree type block.tree ≡ true → is_placed blocks type ≡ false → start_of (blocks ++ block ∷ []) type ≡ block.start
start_new type [] block is none = ap (λ c. cond c block.start 0) is
start_new type (b ∷ bs) block is none = by (same_tree type b.tree) none (start_new type bs block is)
  where
    by : (c : Bool) → (c || is_placed bs type) ≡ false → (is_placed bs type ≡ false → start_of (bs ++ block ∷ []) type ≡ block.start) → cond c b.start (start_of (bs ++ block ∷ []) type) ≡ block.start
    by true none later = absurd cc
    by false none later = later none

placed_other : (type : Tree) (blocks : List Block) (block : Block) → same_tree type block.tree ≡ false → is_placed (blocks ++ block ∷ []) type ≡ is_placed blocks type
placed_other type [] block is = ap (λ c. c || false) is
placed_other type (b ∷ bs) block is = ap (λ c. same_tree type b.tree || c) (placed_other type bs block is)

placed_new : (type : Tree) (blocks : List Block) (block : Block) → same_tree type block.tree ≡ true → is_placed (blocks ++ block ∷ []) type ≡ true
placed_new type [] block is = ap (λ c. c || false) is
placed_new type (b ∷ bs) block is = by (same_tree type b.tree) (placed_new type bs block is)
  where
    by : (c : Bool) → is_placed (bs ++ block ∷ []) type ≡ true → (c || is_placed (bs ++ block ∷ []) type) ≡ true
    by true later = refl
    by false later = later

-- ---- texts

text_grows : (old : List Text) (t : Text) → (more : List Text) × (with_text old t ≡ old ++ more)
text_grows old t = by (is_some (offset_in old t))
  where
    by : (b : Bool) → (more : List Text) × (cond b old (old ++ t ∷ []) ≡ old ++ more)
    by true = ([], sym (append-nil old))
    by false = (t ∷ [], refl)

pub texts_grow : (old ts : List Text) → (more : List Text) × (fold with_text old ts ≡ old ++ more)
texts_grow old [] = ([], sym (append-nil old))
texts_grow old (t ∷ ts) = joined (text_grows old t) (texts_grow (with_text old t) ts)
  where
    joined : (more : List Text) × (with_text old t ≡ old ++ more) → (more : List Text) × (fold with_text (with_text old t) ts ≡ with_text old t ++ more) → (more : List Text) × (fold with_text old (t ∷ ts) ≡ old ++ more)
    joined first rest = (first.0 ++ rest.0, rest.1 ∙ ap (λ (xs : List Text). xs ++ rest.0) first.1 ∙ append_assoc old first.0 rest.0)

-- types for numbers, from which these are got back
abbrev pub sized : ℕ → Tree
sized n = array n (predeclared bool_type)

abbrev pub size_of : Tree → ℕ
size_of (array n type) = n
size_of _ = 0

-- ---- the section

-- where the codes of types are set, their numbers are right
pub all_numbered : (nodes : List Node) (old : Section) (labels : List ℕ) → Labels nodes old.numbers.items labels → (out : Out) → Stands nodes old out → (ids : List ℕ) → AllByRecursion (λ c. c < length nodes) ids
    → AllByRecursion (IsLabelled nodes labels) ids → AllByRecursion (λ c. number_in out.written.blocks (tree nodes c) ≡ slice_index_or labels c 0) ids
all_numbered nodes old labels set out stands [] below all = tt
all_numbered nodes old labels set out stands (c ∷ cs) below all = (each (is_made (tree nodes c)) refl, all_numbered nodes old labels set out stands cs below.1 all.1)
  where
    each : (b : Bool) → is_made (tree nodes c) ≡ b → number_in out.written.blocks (tree nodes c) ≡ slice_index_or labels c 0
    each true is = sym (stands.numbers c below.0 is) ∙ sym (set.kept c is)
    each false is = number_code (tree nodes c) (start_of out.written.blocks (tree nodes c)) 0 is ∙ sym (all.0 is)

module _ (nodes : List Node) (own : Text) (id : ℕ) where
  -- a descriptor that is placed is let be
  pub goes_placed : (section : Section) → HasRoom nodes section → id < length nodes → slice_index_or section.placed.items id false ≡ true → (left : List Step)
      → Goes nodes own section section (finish (tree nodes id) ∷ left) left
  goes_placed section room there is left = record {
    texts = [];
    grown = sym (append-nil section.strings);
    room = room;
    comes = λ more out stands.
        let offset = text_number (section.strings ++ more) in
        let placed : is_placed out.written.blocks (tree nodes id) ≡ true = sym (stands.placed id there) ∙ is in
        (out, stands, ap (λ b. with_steps own offset (went own offset) (cond b out (put_type own offset out (tree nodes id))) left) placed);
  }

  module _ (old new : Section) (put : IsPut nodes own id old new) (room : HasRoom nodes old) (there : id < length nodes) (none : slice_index_or old.placed.items id false ≡ false) where
    type : Tree
    type = tree nodes id

    other_tree : (j : ℕ) → j < length nodes → (j ≡ id → ⊥) → same_tree (tree nodes j) (tree nodes id) ≡ false
    other_tree j below other = by (same_tree (tree nodes j) (tree nodes id)) refl
      where
        by : (b : Bool) → same_tree (tree nodes j) (tree nodes id) ≡ b → b ≡ false
        by false is = refl
        by true is = absurd (other (tree_told nodes put.arena j id below there (same_told (tree nodes j) (tree nodes id) is)))

    stands_now : (more : List Text) (out : Out) → Stands nodes old out
        → Stands nodes new (put_type own (text_number (new.strings ++ more)) out (tree nodes id))
    unfolding place_type
    stands_now more out stands =
        let offset = text_number (new.strings ++ more) in
        let blocks = out.written.blocks in
        let level = ap level_of put.denotes ∙ level_of-tree_of (retype (tree nodes) (node_shape put.node)) in
        let puts = put.put (tree nodes) (number_in blocks) (all_numbered nodes old put.labels put.labelled out stands (children put.node) put.below put.children) in
        let unplaced : is_placed blocks (tree nodes id) ≡ false = sym (stands.placed id there) ∙ none in
        let itself = same_itself (tree nodes id) in
        let full : id < length put.labels = omega (arith, put.labelled.same, room.numbers, there) in
        let marked : id < length old.placed.items = omega (arith, room.marks, there) in
        record {
          bytes =
              puts.added more
              ∙ (λ i. stands.bytes i ++ items_bytes own offset (number_in blocks) no_place (level_items (sym level i)));
          texts = puts.said ∙ (λ i. fold with_text (stands.texts i) (items_texts own no_place (level_items (sym level i))));
          paths = put.paths ∙ stands.paths;
          names =
              put.names
              ∙ (λ i. with_names (stands.names i) (leaf_is (tree nodes) put.node i))
              ∙ ap (λ t. with_names out.names (leaf_names t)) (sym put.denotes);
          numbers = λ j low made. elim (cases_eq j id) [
            | inl same ↦
                let here : slice_index_or new.numbers.items id 0 ≡ FIRST_DESCRIPTOR + length old.body =
                ap (λ ns. slice_index_or ns id 0) put.numbers ∙ get_or-set_same put.labels id (FIRST_DESCRIPTOR + length old.body) 0 full in
                let own_made : is_made (tree nodes id) ≡ true = subst (λ n. is_made (tree nodes n) ≡ true) same made in
                subst (λ n. slice_index_or new.numbers.items n 0 ≡ number_in (put_type own offset out (tree nodes id)).written.blocks (tree nodes n)) (sym same)
                (here ∙ ap (λ (bs : List ℕ). FIRST_DESCRIPTOR + length bs) stands.bytes
                ∙ sym (number_made (tree nodes id) (start_of (put_type own offset out (tree nodes id)).written.blocks (tree nodes id)) own_made ∙ ap (λ n. FIRST_DESCRIPTOR + n) (start_new (tree nodes id) blocks _ itself unplaced)))
            | inr other ↦
                ap (λ ns. slice_index_or ns j 0) put.numbers ∙ get_or-set_other put.labels id j (FIRST_DESCRIPTOR + length old.body) 0 other
                ∙ put.labelled.kept j made ∙ stands.numbers j low made
                ∙ sym (ap (number_from (tree nodes j)) (start_other (tree nodes j) blocks _ (other_tree j low other)))
          ];
          denoted = λ t e. elim (placed_cases t blocks _ e) [ inl was ↦ stands.denoted t was | inr same ↦ (id, there, sym same) ];
          placed = λ j low. elim (cases_eq j id) [
            | inl same ↦
                subst (λ n. slice_index_or new.placed.items n false ≡ is_placed (put_type own offset out (tree nodes id)).written.blocks (tree nodes n)) (sym same)
                (ap (λ ms. slice_index_or ms id false) put.placed ∙ get_or-set_same old.placed.items id true false marked ∙ sym (placed_new (tree nodes id) blocks _ itself))
            | inr other ↦
                ap (λ ms. slice_index_or ms j false) put.placed ∙ get_or-set_other old.placed.items id j true false other
                ∙ stands.placed j low ∙ sym (placed_other (tree nodes j) blocks _ (other_tree j low other))
          ];
        }

    all_sized : (ids : List ℕ) → AllByRecursion (λ c. slice_index_or put.labels (size_of (sized c)) 0 ≡ slice_index_or put.labels c 0) ids
    all_sized [] = tt
    all_sized (c ∷ cs) = (refl, all_sized cs)

    grows : (ts : List Text) × (new.strings ≡ old.strings ++ ts)
    grows =
        let puts = put.put sized (λ t. slice_index_or put.labels (size_of t) 0) (all_sized (children put.node)) in
        let texts = items_texts own no_place (level_items (retype sized (node_shape put.node))) in
        let more = texts_grow old.strings texts in
        (more.0, puts.said ∙ more.1)

    room_now : HasRoom nodes new
    room_now = record {
      numbers = ap length put.numbers ∙ length-set put.labels id (FIRST_DESCRIPTOR + length old.body) ∙ put.labelled.same ∙ room.numbers;
      marks = ap length put.placed ∙ length-set old.placed.items id true ∙ room.marks;
    }

    pub goes_put : (left : List Step) → Goes nodes own old new (finish (tree nodes id) ∷ left) left
    goes_put left = record {
      texts = grows.0;
      grown = grows.1;
      room = room_now;
      comes = λ more out stands.
          let offset = text_number (new.strings ++ more) in
          let unplaced : is_placed out.written.blocks (tree nodes id) ≡ false = sym (stands.placed id there) ∙ none in
          (put_type own offset out (tree nodes id), stands_now more out stands, ap (λ b. with_steps own offset (went own offset) (cond b out (put_type own offset out (tree nodes id))) left) unplaced);
    }

pub below_weaker : (n m : ℕ) (ids : List ℕ) → n < m → AllByRecursion (λ c. c < n) ids → AllByRecursion (λ c. c < m) ids
below_weaker n m [] less all = tt
below_weaker n m (c ∷ cs) less all = (omega (arith, less, all.0), below_weaker n m cs less all.1)
