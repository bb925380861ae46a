-- What is finished by reading a descriptor: its block says what it spells, and shares no byte with the others.
use Rattle.std.proofs.Common.{◌≡◌, ◌≢◌, ℕ, ◌+◌, ◌<◌, ◌≤◌, ◌⊎◌, inl, inr, List, [], ◌∷◌, length, map, drop, Contains, All, Option, Some, None, refl, sym, ◌∙◌, ap, subst, arith, length-drop, length-append, ◌++◌}
use Rattle.std.specs.List.{AllByRecursion}
use Rattle.std.proofs.lemmas.Bool.Decides.{eqb_tells}
use Rattle.std.proofs.lemmas.List.Elements.{All-from_recursion, All-weaker}
use Rattle.type_terms.specs.Shapes.{shape_types, retype}
use Rattle.type_terms.specs.ShapeLaws.{shape_types_map}
use Rattle.type_terms.specs.Trees.{Tree, tree_of}
use Rattle.wire_bytes.specs.Uvarint.{IsGroups, BeginsWith}
use Rattle.code_tables.specs.TypeTag.{type_tag_code}
use Rattle.decl_spelling.specs.Sections.{Sections}
use Rattle.decl_spelling.specs.Spelled.{SpelledText, SpelledPath, SpelledPos, SpelledShape, meant}
use Rattle.decl_spelling.specs.Descriptors.{Flat}
use Rattle.decl_spelling.specs.Tables.{Finished, Table, at, with_block, free_to, type_spelled, tree_spelled}
use Rattle.decl_spelling.specs.Grammar.{Here, IsDescriptor}
use Rattle.decl_spelling.specs.Spelling.{Block, Known, Names, Says, here, number_of}
use Rattle.decl_spelling.specs.Asks.{shape_asks}
use Rattle.decl_spelling.proofs.DescriptorReaders.{flat_by_reads}
use Rattle.decl_spelling.proofs.TableLaws.{Rising, rising_new, block, blocks_of, finished_of, block_found, found_block, found_new, found_still, some_is, stop_apart}
use Rattle.decl_spelling.specs.KnownTypes.{Kept}
use Rattle.decl_spelling.proofs.KnownTypeLemmas.{known_as, known_named, names_more}
use Rattle.decl_spelling.proofs.RetypeLemmas.{retype_twice, retype_same}
use Rattle.decl_spelling.proofs.AskLemmas.{IsMet, shape_all, base_met}
use Rattle.decl_spelling.proofs.TypeTakes.{Fine, Added}
use Rattle.decl_spelling.proofs.MapLemmas.{all_map}

-- with more blocks a block says the same
pub says_more : (src : Sections) (some all : List Block) (b : Block) → ((x : Block) → Contains some x → Contains all x) → Says src some b → Says src all b
says_more src some all b more says = record {
  parts = says.parts;
  after = says.after;
  stands = says.stands;
  ends = says.ends;
  type = says.type;
  named = All-weaker (Names src some b.start) (Names src all b.start) (λ x. names_more src some all b.start x more) (shape_types says.parts) says.named;
  generic = says.generic;
}

-- the types that are known, as the relation has them
pub all_named : (src : Sections) (mid : Table) (blocks : List Block) (offset : ℕ) (x : Flat) → ((b : Block) → Contains (blocks_of mid) b → Contains blocks b) → AllByRecursion (IsMet src mid offset) (shape_asks x)
    → All (Names src blocks offset) (shape_types (retype (known_as src mid) x))
all_named src mid blocks offset x more met =
    let each : AllByRecursion (λ t. Names src blocks offset (known_as src mid t)) (shape_types x)
    = shape_all (IsMet src mid offset) (λ t. Names src blocks offset (known_as src mid t)) (λ t asked known. names_more src (blocks_of mid) blocks offset (known_as src mid t) more (known_named src mid offset t known.0)) x met in
    let types : shape_types (retype (known_as src mid) x) ≡ map (known_as src mid) (shape_types x) = shape_types_map (λ (x : SpelledPos). x) (λ (x : SpelledText). x) (λ (x : SpelledPath). x) (known_as src mid) x in
    subst (λ (xs : List Known). All (Names src blocks offset) xs) (sym types)
    (All-from_recursion (Names src blocks offset) (map (known_as src mid) (shape_types x)) (all_map (Names src blocks offset) (known_as src mid) (shape_types x) each))

-- a descriptor that was read, with its types
pub new_says : (src : Sections) (mid : Table) (blocks : List Block) (offset : ℕ) (x : Flat) (after : Here) (end : ℕ) → ((b : Block) → Contains (blocks_of mid) b → Contains blocks b)
    → AllByRecursion (IsMet src mid offset) (shape_asks x) → IsDescriptor src (here src offset) x after → end + length after.left ≡ length src.body
    → Says src blocks (block offset (record { end = end; tree = tree_spelled src.version mid x }))
new_says src mid blocks offset x after end more met stands ends =
    let numbers : retype number_of (retype (known_as src mid) x) ≡ x = retype_twice (known_as src mid) number_of SpelledPos SpelledText SpelledPath x ∙ retype_same SpelledPos SpelledText SpelledPath x in
    let trees : retype (λ (x : Known). x.tree) (retype (known_as src mid) x) ≡ retype (type_spelled src.version mid) x = retype_twice (known_as src mid) (λ (x : Known). x.tree) SpelledPos SpelledText SpelledPath x in
    record {
      parts = retype (known_as src mid) x;
      after = after;
      stands = subst (λ (flat : Flat). IsDescriptor src (here src offset) flat after) (sym numbers) stands;
      ends = ends;
      type = ap (λ (level : SpelledShape Tree). tree_of (meant level)) (sym trees);
      named = all_named src mid blocks offset x more met;
      generic = base_met src mid offset x met;
    }

new_or_old : (mid : Table) (o p : ℕ) (fin f : Finished) → at (with_block mid o fin) p ≡ Some f → ((p ≡ o) × (f ≡ fin)) ⊎ ((p ≢ o) × (at mid p ≡ Some f))
new_or_old mid o p fin f found =
    elim (eqb_tells p o) [
      | inl same ↦ inl (same.1, some_is f fin (at (with_block mid o fin) p) found (ap (at (with_block mid o fin)) same.1 ∙ found_new mid o fin))
      | inr other ↦ inr (other.1, sym (found_still mid o p fin other.1) ∙ found)
    ]

-- a number takes a byte
number_some : (bytes rest : List ℕ) (n : ℕ) → BeginsWith bytes n rest → length rest < length bytes
number_some bytes rest n begins = by begins.0 begins.1.groups begins.2
  where
    by : (front : List ℕ) → IsGroups front n → bytes ≡ front ++ rest → length rest < length bytes
    by [] groups is = absurd groups
    by (b ∷ front) groups is = omega (arith, ap (λ (bytes : List ℕ). length bytes) is, length-append (b ∷ front) rest)

module _ (src : Sections) where
  -- and so does a descriptor, for its kind
  pub descriptor_some : (a : Here) (x : Flat) (b : Here) → IsDescriptor src a x b → length b.left < length a.left
  descriptor_some a x b w = omega (arith, number_some a.left w.at_parts.left (type_tag_code w.kind) w.number.0, (flat_by_reads src w.kind).shrinks w.at_parts x b (w.its_kind, w.parts))

  -- no block is empty
  pub block_some : (blocks : List Block) (b : Block) → Says src blocks b → b.start < b.end
  block_some blocks b says =
      let fewer : length says.after.left < length (drop b.start src.body) = descriptor_some (here src b.start) (retype number_of says.parts) says.after says.stands in
      omega (arith, fewer, length-drop b.start src.body, says.ends)

  -- what is read for a block doesn't start where the block starts
  none_still : (done mid : Table) (offset : ℕ) → at done offset ≡ None → Added src offset done mid → at mid offset ≡ None
  none_still done mid offset none added = go (at mid offset) refl
    where
      go : (a : Option Finished) → at mid offset ≡ a → a ≡ None
      go None e = refl
      go (Some f) e =
          elim (added.new offset f e) [
            | inl before ↦ absurd (cc)
            | inr within ↦
                let some : offset < f.end = block_some (blocks_of mid) (block offset f) (added.fine.sound.each (block offset f) (block_found mid offset f e)) in
                absurd (omega arith)
          ]

  module _ (offset holder : ℕ) (done mid : Table) (fin : Finished) (fine : Fine src done) (none : at done offset ≡ None) (added : Added src offset done mid)
      (before : offset < holder) (some : offset < fin.end) (free : fin.end ≤ free_to offset holder done) (within : fin.end ≤ holder) where
    still : Kept mid (with_block mid offset fin)
    still o f found = found_still mid offset o fin (λ same. let is : at mid o ≡ None = ap (at mid) same ∙ none_still done mid offset none added in cc) ∙ found

    rising : Rising 0 (with_block mid offset fin)
    rising = rising_new mid 0 offset fin (omega arith) added.fine.rising

    pub more_blocks : (b : Block) → Contains (blocks_of mid) b → Contains (blocks_of (with_block mid offset fin)) b
    more_blocks b has = block_found (with_block mid offset fin) b.start (finished_of b) (still b.start (finished_of b) (found_block mid 0 b added.fine.rising has))

    where_is : (b : Block) → Contains (blocks_of (with_block mid offset fin)) b → ((b.start ≡ offset) × (finished_of b ≡ fin)) ⊎ (at mid b.start ≡ Some (finished_of b))
    where_is b has =
        elim (new_or_old mid offset b.start fin (finished_of b) (found_block (with_block mid offset fin) 0 b rising has)) [
          | inl new ↦ inl new
          | inr old ↦ inr old.1
        ]

    -- another block ends before the new one, or starts behind it
    old_apart : (b : Block) → at mid b.start ≡ Some (finished_of b) → (b.end ≤ offset) ⊎ (fin.end ≤ b.start)
    old_apart b found =
        elim (added.new b.start (finished_of b) found) [
          | inl old ↦ elim (stop_apart offset holder 0 done b.start (finished_of b) fine.rising old) [
            | inl ends ↦ inl ends
            | inr (inl starts) ↦ inr (omega arith)
            | inr (inr nothing) ↦ absurd (omega arith)
          ]
          | inr ends ↦ inl ends
        ]

    pub block_added : Says src (blocks_of (with_block mid offset fin)) (block offset fin) → Added src holder done (with_block mid offset fin)
    block_added says = record {
      fine = record {
        rising = rising;
        sound = record {
          each = λ b has. elim (where_is b has) [
            | inl new ↦ subst (λ (x : Block). Says src (blocks_of (with_block mid offset fin)) x) (λ i. block (sym new.0 i) (sym new.1 i)) says
            | inr old ↦ says_more src (blocks_of mid) (blocks_of (with_block mid offset fin)) b more_blocks (added.fine.sound.each b (block_found mid b.start (finished_of b) old))
          ];
          apart = λ a b has_a has_b. both a b (where_is a has_a) (where_is b has_b);
        };
      };
      kept = λ o f found. still o f (added.kept o f found);
      new = λ o f found. elim (new_or_old mid offset o fin f found) [
        | inl new ↦ inr (let e : f.end ≡ fin.end = ap (λ (x : Finished). x.end) new.1 in omega arith)
        | inr old ↦ elim (added.new o f old.1) [ inl first ↦ inl first | inr ends ↦ inr (omega arith) ]
      ];
    }
      where
        both : (a b : Block) → ((a.start ≡ offset) × (finished_of a ≡ fin)) ⊎ (at mid a.start ≡ Some (finished_of a)) → ((b.start ≡ offset) × (finished_of b ≡ fin)) ⊎ (at mid b.start ≡ Some (finished_of b))
            → (a ≡ b) ⊎ ((a.end ≤ b.start) ⊎ (b.end ≤ a.start))
        both a b (inl x) (inl y) = inl (λ i. block ((x.0 ∙ sym y.0) i) ((x.1 ∙ sym y.1) i))
        both a b (inl x) (inr y) =
            let at_end : a.end ≡ fin.end = ap (λ (f : Finished). f.end) x.1 in
            let at_start = x.0 in
            elim (old_apart b y) [ inl ends ↦ inr (inr (omega arith)) | inr starts ↦ inr (inl (omega arith)) ]
        both a b (inr x) (inl y) =
            let at_end : b.end ≡ fin.end = ap (λ (f : Finished). f.end) y.1 in
            let at_start = y.0 in
            elim (old_apart a x) [ inl ends ↦ inr (inl (omega arith)) | inr starts ↦ inr (inr (omega arith)) ]
        both a b (inr x) (inr y) = added.fine.sound.apart a b (block_found mid a.start (finished_of a) x) (block_found mid b.start (finished_of b) y)
