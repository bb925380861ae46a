-- Blocks that are laid one behind the other: each stands where it is said to, and those that it names stand before it.
use Rattle.std.proofs.Common.{◌≡◌, ℕ, zero, suc, ◌+◌, ◌≤◌, Bool, true, false, cond, List, [], ◌∷◌, ◌++◌, length, Option, Some, refl, sym, ap, subst, ◌∙◌, arith, length-append, append_assoc, append-nil, ◌⊎◌, inl, inr}
use Rattle.std.specs.Prelude.{◌||◌}
use Rattle.std.specs.List.{Contains, AllByRecursion}
use Rattle.std.proofs.lemmas.List.Elements.{Contains-append_left, Contains-append_right, Contains-push_cases}
use Rattle.std.proofs.lemmas.Bool.{or_left, or_right}
use Rattle.go_values.specs.declared.qualified.QName.{QName}
use Rattle.position_codec.specs.Place.{Place, place_of, no_place}
use Rattle.file_parts.specs.Paths.{IsPathFor}
use Rattle.type_terms.specs.Trees.{Text, Tree, level_of}
use Rattle.type_terms.specs.TreeEquality.{same_tree, same_told, same_itself}
use Rattle.type_terms.specs.Parts.{itself, inside, parts, tree_size}
use Rattle.type_terms.specs.TreeSizes.{size_of_parts, part_falls}
use Rattle.type_terms.specs.Replaced.{all_left, all_right, all_append}
use Rattle.type_terms.specs.Declarations.{Decl}
use Rattle.decl_spelling.specs.Sections.{Basics}
use Rattle.decl_spelling.specs.Spelling.{Block, Apart}
use Rattle.file_envelope.specs.FileBytes.{text_number}
use Rattle.file_layout.specs.Items.{Item, a_number, a_flag, a_text, a_path, a_position, a_type, a_whole, level_items, decl_items}
use Rattle.file_layout.specs.Bytes.{same_file, path_text}
use Rattle.file_layout.specs.Walk.{Event, says, tells, ends, is_made, items_events, type_events, walk, decl_events}
use Rattle.file_layout.specs.Places.{is_placed, start_of, Line, Written, type_bytes, decl_bytes, place_type, happen, happen_all, place_decl, write_decl}
use Rattle.file_layout.specs.Conditions.{ItemFits, LevelFits, TypeFits, DeclFits}
use Rattle.file_layout.proofs.ItemsStand.{AllMayStand}
use Rattle.file_layout.proofs.ItemTypes.{items_types, level_types}

-- the type is predeclared, or has a block
abbrev pub Placed : List Block → Tree → Type 0
Placed blocks type = (is_made type ≡ false) ⊎ ((is_made type ≡ true) × (is_placed blocks type ≡ true))

any_more : (type : Tree) (blocks more : List Block) → is_placed blocks type ≡ true → is_placed (blocks ++ more) type ≡ true
any_more type [] more e = absurd cc
any_more type (b ∷ bs) more e = by (same_tree type b.tree) (λ later. any_more type bs more later) e
  where
    by : (c : Bool) → (is_placed bs type ≡ true → is_placed (bs ++ more) type ≡ true) → (c || is_placed bs type) ≡ true → (c || is_placed (bs ++ more) type) ≡ true
    by true later e = refl
    by false later e = later e

placed_last : (type : Tree) (blocks : List Block) (block : Block) → block.tree ≡ type → is_placed (blocks ++ block ∷ []) type ≡ true
placed_last type [] block is = or_left (same_tree type block.tree) false (subst (λ (t : Tree). same_tree type t ≡ true) (sym is) (same_itself type))
placed_last type (b ∷ bs) block is = or_right (same_tree type b.tree) (is_placed (bs ++ block ∷ []) type) (placed_last type bs block is)

pub placed_more : (blocks more : List Block) (type : Tree) → Placed blocks type → Placed (blocks ++ more) type
placed_more blocks more type (inl basic) = inl basic
placed_more blocks more type (inr is) = inr (is.0, any_more type blocks more is.1)

all_placed_more : (blocks more : List Block) (types : List Tree) → AllByRecursion (Placed blocks) types → AllByRecursion (Placed (blocks ++ more)) types
all_placed_more blocks more [] all = tt
all_placed_more blocks more (t ∷ ts) all = (placed_more blocks more t all.0, all_placed_more blocks more ts all.1)

-- the block of a type
pub record TheBlock (blocks : List Block) (type : Tree) : Type 0 where
  pub block : Block
  pub there : Contains blocks block
  pub start : start_of blocks type ≡ block.start
  pub tree : type ≡ block.tree

pub block_of : (blocks : List Block) (type : Tree) → is_placed blocks type ≡ true → TheBlock blocks type
block_of [] type e = absurd cc
block_of (b ∷ bs) type e = by (same_tree type b.tree) refl e (block_of bs type)
  where
    by : (c : Bool) → same_tree type b.tree ≡ c → (c || is_placed bs type) ≡ true → (is_placed bs type ≡ true → TheBlock bs type) → TheBlock (b ∷ bs) type
    by true is e later = record { block = b; there = (0, omega arith, refl); start = ap (λ (c : Bool). cond c b.start (start_of bs type)) is; tree = same_told type b.tree is }
    by false is e later =
        let rest = later e in
        record { block = rest.block; there = Contains-append_right (b ∷ []) bs rest.block rest.there; start = ap (λ (c : Bool). cond c b.start (start_of bs type)) is ∙ rest.start; tree = rest.tree }

no_number : Tree → ℕ
no_number type = 0

-- The own path, the paths of the index, the texts, the basic types of names and the declarations.
module _ (own : Text) (paths texts : List Text) (basics : Basics) (decls : QName → Option Decl) where
  abbrev offset : Text → ℕ
  offset = text_number texts

  -- what is mentioned is among the texts, and a path among those of the index
  abbrev pub EventKnown : Event → Type 0
  EventKnown (says text) = Contains texts text
  EventKnown (tells path) = Contains texts (path_text own path) × IsPathFor own paths (path_text own path) path
  EventKnown (ends type) = Unit {0}

  abbrev pub AllKnown : List Event → Type 0
  AllKnown = AllByRecursion EventKnown

  abbrev pub AllMay : Place → List Item → Type 0
  AllMay = AllMayStand own paths texts (λ (type : Tree). 0)

  file_known : (same : Bool) (file : Text) (rest : List Event) → AllKnown (cond same [] (says file ∷ []) ++ rest) → same ≡ false → Contains texts file
  file_known true file rest known other = absurd cc
  file_known false file rest known other = known.0

  behind_file : (same : Bool) (file : Text) (rest : List Event) → AllKnown (cond same [] (says file ∷ []) ++ rest) → AllKnown rest
  behind_file true file rest known = known
  behind_file false file rest known = known.1

  may_stand : (walk : Tree → List Event) (before : Place) (xs : List Item) → AllByRecursion ItemFits xs → AllKnown (items_events walk before xs) → AllMay before xs
  may_stand walk before [] fits known = tt
  may_stand walk before (a_number n ∷ xs) fits known = (tt, may_stand walk before xs fits.1 known)
  may_stand walk before (a_flag x ∷ xs) fits known = (tt, may_stand walk before xs fits.1 known)
  may_stand walk before (a_text text ∷ xs) fits known = (known.0, may_stand walk before xs fits.1 known.1)
  may_stand walk before (a_path path ∷ xs) fits known = (known.0, may_stand walk before xs fits.1 known.1)
  may_stand walk before (a_position pos ∷ xs) fits known =
      let same = same_file before (place_of pos) in
      let rest = items_events walk (place_of pos) xs in
      ((fits.0.0, fits.0.1, file_known same (place_of pos).file rest known), may_stand walk (place_of pos) xs fits.1 (behind_file same (place_of pos).file rest known))
  may_stand walk before (a_type type ∷ xs) fits known = (omega arith, may_stand walk before xs fits.1 (all_right EventKnown (walk type) (items_events walk before xs) known))
  may_stand walk before (a_whole signed max v ∷ xs) fits known = (fits.0, may_stand walk before xs fits.1 known)

  -- ---- what stands where

  -- The piece stands from its start to its end, and what it names stood before it.
  pub record Lies (bytes : List ℕ) (blocks : List Block) (start end : ℕ) (piece : List Block → List ℕ) (items : List Item) : Type 0 where
    pub before : List Block
    pub front : List ℕ
    pub rest : List ℕ
    pub within : (x : Block) → Contains before x → Contains blocks x
    pub early : (x : Block) → Contains before x → (x.start ≤ x.end) × (x.end ≤ start)
    pub stands : bytes ≡ front ++ (piece before ++ rest)
    pub starts : length front ≡ start
    pub ends : end ≡ start + length (piece before)
    pub placed : AllByRecursion (Placed before) (items_types items)
    pub may : AllMay no_place items

  lies_more : {bytes : List ℕ} {blocks : List Block} {start end : ℕ} {piece : List Block → List ℕ} {items : List Item} → (more : List ℕ) (others : List Block) → Lies bytes blocks start end piece items
      → Lies (bytes ++ more) (blocks ++ others) start end piece items
  lies_more {blocks = blocks} {piece = piece} more others lies = record {
    before = lies.before;
    front = lies.front;
    rest = lies.rest ++ more;
    within = λ x has. Contains-append_left blocks others x (lies.within x has);
    early = lies.early;
    stands =
        ap (λ (bs : List ℕ). bs ++ more) lies.stands ∙ append_assoc lies.front (piece lies.before ++ lies.rest) more
        ∙ ap (λ (bs : List ℕ). lies.front ++ bs) (append_assoc (piece lies.before) lies.rest more);
    starts = lies.starts;
    ends = lies.ends;
    placed = lies.placed;
    may = lies.may;
  }

  pub record BlockLies (bytes : List ℕ) (blocks : List Block) (block : Block) : Type 0 where
    pub made : is_made block.tree ≡ true
    pub fits : LevelFits (level_of block.tree)
    pub lies : Lies bytes blocks block.start block.end (λ bs. type_bytes own offset bs block.tree) (level_items (level_of block.tree))

  pub record LineLies (bytes : List ℕ) (blocks : List Block) (line : Line) : Type 0 where
    pub decl : Decl
    pub is : decls line.name ≡ Some decl
    pub fits : DeclFits basics decl
    pub end : ℕ
    pub lies : Lies bytes blocks line.start end (λ bs. decl_bytes own offset basics bs decl) (decl_items basics decl)

  pub record Good (w : Written) : Type 0 where
    pub blocks : (b : Block) → Contains w.blocks b → BlockLies w.bytes w.blocks b
    pub lines : (l : Line) → Contains w.lines l → LineLies w.bytes w.blocks l
    pub apart : Apart w.blocks
    pub within : (b : Block) → Contains w.blocks b → (b.start ≤ b.end) × (b.end ≤ length w.bytes)

  -- what is written later is added behind, and the lines stay
  pub record Later (w w' : Written) : Type 0 where
    pub bytes : List ℕ
    pub blocks : List Block
    pub bytes_are : w'.bytes ≡ w.bytes ++ bytes
    pub blocks_are : w'.blocks ≡ w.blocks ++ blocks
    pub lines_are : w'.lines ≡ w.lines

  at_once : (w : Written) → Later w w
  at_once w = record { bytes = []; blocks = []; bytes_are = sym (append-nil w.bytes); blocks_are = sym (append-nil w.blocks); lines_are = refl }

  later_again : {a b c : Written} → Later a b → Later b c → Later a c
  later_again {a = a} first second = record {
    bytes = first.bytes ++ second.bytes;
    blocks = first.blocks ++ second.blocks;
    bytes_are = second.bytes_are ∙ ap (λ (bs : List ℕ). bs ++ second.bytes) first.bytes_are ∙ append_assoc a.bytes first.bytes second.bytes;
    blocks_are = second.blocks_are ∙ ap (λ (bs : List Block). bs ++ second.blocks) first.blocks_are ∙ append_assoc a.blocks first.blocks second.blocks;
    lines_are = second.lines_are ∙ first.lines_are;
  }

  -- ---- one more block

  abbrev new_block : Written → Tree → Block
  new_block w type = record { start = length w.bytes; end = length w.bytes + length (type_bytes own offset w.blocks type); tree = type }

  block_later : (w : Written) (bytes : List ℕ) (blocks : List Block) (b : Block) → BlockLies w.bytes w.blocks b → BlockLies (w.bytes ++ bytes) (w.blocks ++ blocks) b
  block_later w bytes blocks b lies = record { made = lies.made; fits = lies.fits; lies = lies_more bytes blocks lies.lies }

  line_later : (w : Written) (bytes : List ℕ) (blocks : List Block) (l : Line) → LineLies w.bytes w.blocks l → LineLies (w.bytes ++ bytes) (w.blocks ++ blocks) l
  line_later w bytes blocks l lies = record { decl = lies.decl; is = lies.is; fits = lies.fits; end = lies.end; lies = lies_more bytes blocks lies.lies }

  -- a piece that is put at the end
  put_there : (w : Written) (piece : List Block → List ℕ) (items : List Item) (blocks : List Block) → Good w → AllByRecursion (Placed w.blocks) (items_types items) → AllMay no_place items
      → Lies (w.bytes ++ piece w.blocks) (w.blocks ++ blocks) (length w.bytes) (length w.bytes + length (piece w.blocks)) piece items
  put_there w piece items blocks good placed may = record {
    before = w.blocks;
    front = w.bytes;
    rest = [];
    within = λ x has. Contains-append_left w.blocks blocks x has;
    early = good.within;
    stands = ap (λ (bs : List ℕ). w.bytes ++ bs) (sym (append-nil (piece w.blocks)));
    starts = refl;
    ends = refl;
    placed = placed;
    may = may;
  }

  new_is : (w : Written) (type : Tree) → Good w → is_made type ≡ true → LevelFits (level_of type) → AllByRecursion (Placed w.blocks) (items_types (level_items (level_of type))) → AllMay no_place (level_items (level_of type))
      → BlockLies (w.bytes ++ type_bytes own offset w.blocks type) (w.blocks ++ new_block w type ∷ []) (new_block w type)
  new_is w type good made fits placed may = record {
    made = made;
    fits = fits;
    lies = put_there w (λ bs. type_bytes own offset bs type) (level_items (level_of type)) (new_block w type ∷ []) good placed may;
  }

  placed_good : (w : Written) (type : Tree) → Good w → is_made type ≡ true → LevelFits (level_of type) → AllByRecursion (Placed w.blocks) (items_types (level_items (level_of type))) → AllMay no_place (level_items (level_of type))
      → Good (place_type own offset w type)
  unfolding place_type
  placed_good w type good made fits placed may = record { blocks = blocks; lines = λ l has. line_later w piece (new ∷ []) l (good.lines l has); apart = apart; within = within }
    where
      piece : List ℕ
      piece = type_bytes own offset w.blocks type

      new : Block
      new = new_block w type

      longer : length (w.bytes ++ type_bytes own offset w.blocks type) ≡ length w.bytes + length (type_bytes own offset w.blocks type)
      longer = length-append w.bytes (type_bytes own offset w.blocks type)

      blocks : (b : Block) → Contains (w.blocks ++ new_block w type ∷ []) b → BlockLies (w.bytes ++ type_bytes own offset w.blocks type) (w.blocks ++ new_block w type ∷ []) b
      blocks b has = by (Contains-push_cases w.blocks (new_block w type) b has)
        where
          by : Contains w.blocks b ⊎ (new_block w type ≡ b) → BlockLies (w.bytes ++ type_bytes own offset w.blocks type) (w.blocks ++ new_block w type ∷ []) b
          by (inl old) = block_later w (type_bytes own offset w.blocks type) (new_block w type ∷ []) b (good.blocks b old)
          by (inr is) = subst (BlockLies (w.bytes ++ type_bytes own offset w.blocks type) (w.blocks ++ new_block w type ∷ [])) is (new_is w type good made fits placed may)

      apart : (a b : Block) → Contains (w.blocks ++ new_block w type ∷ []) a → Contains (w.blocks ++ new_block w type ∷ []) b → (a ≡ b) ⊎ ((a.end ≤ b.start) ⊎ (b.end ≤ a.start))
      apart a b has has' = by (Contains-push_cases w.blocks (new_block w type) a has) (Contains-push_cases w.blocks (new_block w type) b has')
        where
          by : Contains w.blocks a ⊎ (new_block w type ≡ a) → Contains w.blocks b ⊎ (new_block w type ≡ b) → (a ≡ b) ⊎ ((a.end ≤ b.start) ⊎ (b.end ≤ a.start))
          by (inl old) (inl old') = good.apart a b old old'
          by (inl old) (inr is) = inr (inl (subst (λ (x : Block). a.end ≤ x.start) is (good.within a old).1))
          by (inr is) (inl old') = inr (inr (subst (λ (x : Block). b.end ≤ x.start) is (good.within b old').1))
          by (inr is) (inr is') = inl (sym is ∙ is')

      within : (b : Block) → Contains (w.blocks ++ new_block w type ∷ []) b → (b.start ≤ b.end) × (b.end ≤ length (w.bytes ++ type_bytes own offset w.blocks type))
      within b has = by (Contains-push_cases w.blocks (new_block w type) b has)
        where
          by : Contains w.blocks b ⊎ (new_block w type ≡ b) → (b.start ≤ b.end) × (b.end ≤ length (w.bytes ++ type_bytes own offset w.blocks type))
          by (inl old) = ((good.within b old).0, omega (arith, (good.within b old).1, longer))
          by (inr is) = subst (λ (x : Block). (x.start ≤ x.end) × (x.end ≤ length (w.bytes ++ type_bytes own offset w.blocks type))) is (omega arith, omega (arith, longer))

  placed_later : (w : Written) (type : Tree) → Later w (place_type own offset w type)
  unfolding place_type
  placed_later w type = record { bytes = type_bytes own offset w.blocks type; blocks = new_block w type ∷ []; bytes_are = refl; blocks_are = refl; lines_are = refl }

  placed_itself : (w : Written) (type : Tree) → is_placed (place_type own offset w type).blocks type ≡ true
  unfolding place_type
  placed_itself w type = placed_last type w.blocks (new_block w type) refl

  -- ---- the walk

  abbrev after : Written → List Event → Written
  after w es = happen_all own offset w es

  pub after_both : (w : Written) (xs ys : List Event) → after w (xs ++ ys) ≡ after (after w xs) ys
  after_both w [] ys = refl
  after_both w (x ∷ xs) ys = after_both (happen own offset w x) xs ys

  behind_says : (w : Written) (same : Bool) (file : Text) (rest : List Event) → after w (cond same [] (says file ∷ []) ++ rest) ≡ after w rest
  behind_says w true file rest = refl
  behind_says w false file rest = refl

  pub record Laid (w w' : Written) (types : List Tree) : Type 0 where
    pub good : Good w'
    pub later : Later w w'
    pub placed : AllByRecursion (Placed w'.blocks) types

  then_laid : {a b c : Written} {xs ys : List Tree} → Laid a b xs → Laid b c ys → Laid a c (xs ++ ys)
  then_laid {xs = xs} {ys = ys} first second = record {
    good = second.good;
    later = later_again first.later second.later;
    placed = all_append (Placed _) xs ys (subst (λ (bs : List Block). AllByRecursion (Placed bs) xs) (sym second.later.blocks_are) (all_placed_more _ second.later.blocks xs first.placed)) second.placed;
  }

  -- a walk that lays the types of which something holds
  abbrev Lays : (Tree → List Event) → (Tree → Type 0) → Type 0
  Lays walk P = (type : Tree) (w : Written) → P type → AllKnown (walk type) → Good w → Laid w (after w (walk type)) (type ∷ [])

  items_laid : (walk : Tree → List Event) (P : Tree → Type 0) → Lays walk P → (before : Place) (xs : List Item) (w : Written) → AllByRecursion P (items_types xs) → AllKnown (items_events walk before xs) → Good w
      → Laid w (after w (items_events walk before xs)) (items_types xs)
  items_laid walk P lays before [] w all known good = record { good = good; later = at_once w; placed = tt }
  items_laid walk P lays before (a_number n ∷ xs) w all known good = items_laid walk P lays before xs w all known good
  items_laid walk P lays before (a_flag x ∷ xs) w all known good = items_laid walk P lays before xs w all known good
  items_laid walk P lays before (a_text text ∷ xs) w all known good = items_laid walk P lays before xs w all known.1 good
  items_laid walk P lays before (a_path path ∷ xs) w all known good = items_laid walk P lays before xs w all known.1 good
  items_laid walk P lays before (a_position pos ∷ xs) w all known good =
      let same = same_file before (place_of pos) in
      let rest = items_events walk (place_of pos) xs in
      subst (λ (w' : Written). Laid w w' (items_types xs)) (sym (behind_says w same (place_of pos).file rest))
      (items_laid walk P lays (place_of pos) xs w all (behind_file same (place_of pos).file rest known) good)
  items_laid walk P lays before (a_type type ∷ xs) w all known good =
      let rest = items_events walk before xs in
      let first = lays type w all.0 (all_left EventKnown (walk type) rest known) good in
      subst (λ (w' : Written). Laid w w' (type ∷ items_types xs)) (sym (after_both w (walk type) rest))
      (then_laid first (items_laid walk P lays before xs (after w (walk type)) all.1 (all_right EventKnown (walk type) rest known) first.good))
  items_laid walk P lays before (a_whole signed max v ∷ xs) w all known good = items_laid walk P lays before xs w all known good

  all_parts : (P : Tree → Type 0) (xs : List Tree) → ((x : Tree) → Contains xs x → P x) → AllByRecursion P xs
  all_parts P [] each = tt
  all_parts P (x ∷ xs) each = (each x (0, omega arith, refl), all_parts P xs (λ y has. each y (Contains-append_right (x ∷ []) xs y has)))

  abbrev Small : ℕ → Tree → Type 0
  Small n type = (tree_size type ≤ n) × TypeFits type

  smaller : (n : ℕ) (type : Tree) → Small (suc n) type → AllByRecursion (Small n) (items_types (level_items (level_of type)))
  smaller n type small =
      subst (AllByRecursion (Small n)) (sym (level_types (level_of type)))
      (all_parts (Small n) (parts type) (λ part has. (omega (arith, small.0, part_falls type part has), λ below held. small.1 below (inside type part below has held))))

  -- a descriptor ends: it is there, or is placed
  ended : (w : Written) (type : Tree) → Good w → is_made type ≡ true → LevelFits (level_of type) → AllByRecursion (Placed w.blocks) (items_types (level_items (level_of type))) → AllMay no_place (level_items (level_of type))
      → Laid w (happen own offset w (ends type)) (type ∷ [])
  ended w type good made fits placed may = by (is_placed w.blocks type) refl
    where
      by : (b : Bool) → is_placed w.blocks type ≡ b → Laid w (cond b w (place_type own offset w type)) (type ∷ [])
      by true there = record { good = good; later = at_once w; placed = (inr (made, there), tt) }
      by false there = record { good = placed_good w type good made fits placed may; later = placed_later w type; placed = (inr (made, placed_itself w type), tt) }

  type_laid : (n : ℕ) → Lays (type_events n) (Small n)
  type_laid zero type w small known good = absurd (omega (arith, small.0, size_of_parts type))
  type_laid (suc n) type w small known good = by (is_made type) refl known (type_laid n)
    where
      items : List Item
      items = level_items (level_of type)

      by : (made : Bool) → is_made type ≡ made → AllKnown (cond made (items_events (type_events n) no_place (level_items (level_of type)) ++ ends type ∷ []) []) → Lays (type_events n) (Small n)
          → Laid w (after w (cond made (items_events (type_events n) no_place (level_items (level_of type)) ++ ends type ∷ []) [])) (type ∷ [])
      by false e known lays = record { good = good; later = at_once w; placed = (inl e, tt) }
      by true e known lays =
          let inner = items_events (type_events n) no_place (level_items (level_of type)) in
          let inner_known = all_left EventKnown inner (ends type ∷ []) known in
          let fits = small.1 type (itself type) in
          let laid = items_laid (type_events n) (Small n) lays no_place (level_items (level_of type)) w (smaller n type small) inner_known good in
          let may = may_stand (type_events n) no_place (level_items (level_of type)) fits.items inner_known in
          let end = ended (after w inner) type laid.good e fits laid.placed may in
          subst (λ (w' : Written). Laid w w' (type ∷ [])) (sym (after_both w inner (ends type ∷ [])))
          (record { good = end.good; later = later_again laid.later end.later; placed = end.placed })

  walk_laid : Lays walk TypeFits
  walk_laid type w fits known good = type_laid (tree_size type) type w (omega arith, fits) known good

  -- ---- declarations

  abbrev new_line : Written → QName → Line
  new_line w q = record { name = q; start = length w.bytes }

  decl_placed : (w : Written) (q : QName) (decl : Decl) → Good w → decls q ≡ Some decl → DeclFits basics decl → AllByRecursion (Placed w.blocks) (items_types (decl_items basics decl)) → AllMay no_place (decl_items basics decl)
      → Good (place_decl own offset basics w q decl)
  unfolding place_decl
  decl_placed w q decl good is fits placed may = record { blocks = blocks; lines = lines; apart = good.apart; within = within }
    where
      longer : length (w.bytes ++ decl_bytes own offset basics w.blocks decl) ≡ length w.bytes + length (decl_bytes own offset basics w.blocks decl)
      longer = length-append w.bytes (decl_bytes own offset basics w.blocks decl)

      blocks : (b : Block) → Contains w.blocks b → BlockLies (w.bytes ++ decl_bytes own offset basics w.blocks decl) w.blocks b
      blocks b has =
          subst (λ (bs : List Block). BlockLies (w.bytes ++ decl_bytes own offset basics w.blocks decl) bs b) (append-nil w.blocks)
          (block_later w (decl_bytes own offset basics w.blocks decl) [] b (good.blocks b has))

      lines : (l : Line) → Contains (w.lines ++ new_line w q ∷ []) l → LineLies (w.bytes ++ decl_bytes own offset basics w.blocks decl) w.blocks l
      lines l has = by (Contains-push_cases w.lines (new_line w q) l has)
        where
          by : Contains w.lines l ⊎ (new_line w q ≡ l) → LineLies (w.bytes ++ decl_bytes own offset basics w.blocks decl) w.blocks l
          by (inl old) =
              subst (λ (bs : List Block). LineLies (w.bytes ++ decl_bytes own offset basics w.blocks decl) bs l) (append-nil w.blocks)
              (line_later w (decl_bytes own offset basics w.blocks decl) [] l (good.lines l old))
          by (inr new) = subst (LineLies (w.bytes ++ decl_bytes own offset basics w.blocks decl) w.blocks) new (record {
            decl = decl;
            is = is;
            fits = fits;
            end = length w.bytes + length (decl_bytes own offset basics w.blocks decl);
            lies =
                subst (λ (bs : List Block). Lies (w.bytes ++ decl_bytes own offset basics w.blocks decl) bs (length w.bytes) (length w.bytes + length (decl_bytes own offset basics w.blocks decl)) (λ bs. decl_bytes own offset basics bs decl) (decl_items basics decl)) (append-nil w.blocks)
                (put_there w (λ bs. decl_bytes own offset basics bs decl) (decl_items basics decl) [] good placed may);
          })

      within : (b : Block) → Contains w.blocks b → (b.start ≤ b.end) × (b.end ≤ length (w.bytes ++ decl_bytes own offset basics w.blocks decl))
      within b has = ((good.within b has).0, omega (arith, (good.within b has).1, longer))

  place_lines : (w : Written) (q : QName) (decl : Decl) → (place_decl own offset basics w q decl).lines ≡ w.lines ++ new_line w q ∷ []
  unfolding place_decl
  place_lines w q decl = refl

  pub record DeclLaid (w w' : Written) (q : QName) : Type 0 where
    pub good : Good w'
    pub start : ℕ
    pub lines_are : w'.lines ≡ w.lines ++ record { name = q; start = start } ∷ []

  pub decl_laid : (w : Written) (q : QName) (decl : Decl) → Good w → decls q ≡ Some decl → DeclFits basics decl → AllByRecursion TypeFits (items_types (decl_items basics decl)) → AllKnown (decl_events basics decl)
      → DeclLaid w (write_decl own offset basics w q decl) q
  decl_laid w q decl good is fits types known =
      let laid = items_laid walk TypeFits walk_laid no_place (decl_items basics decl) w types known good in
      let may = may_stand walk no_place (decl_items basics decl) fits.items known in
      record {
        good = decl_placed (after w (decl_events basics decl)) q decl laid.good is fits laid.placed may;
        start = length (after w (decl_events basics decl)).bytes;
        lines_are = place_lines (after w (decl_events basics decl)) q decl ∙ ap (λ (ls : List Line). ls ++ record { name = q; start = length (after w (decl_events basics decl)).bytes } ∷ []) laid.later.lines_are;
      }
