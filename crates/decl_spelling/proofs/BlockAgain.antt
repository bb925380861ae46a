-- A descriptor that is spelled is read, whatever was finished before.
use Rattle.std.proofs.Common.{◌≡◌, ℕ, zero, suc, ◌+◌, ◌<◌, ◌≤◌, inl, inr, List, length, map, Contains, Result, Ok, Some, refl, sym, ◌∙◌, ap, subst, arith, length-append}
use Rattle.std.specs.List.{AllByRecursion}
use Rattle.std.proofs.lemmas.Bool.Decides.{eqb_tells}
use Rattle.std.proofs.lemmas.List.Elements.{recursion_from_All}
use Rattle.wire_bytes.proofs.Spellings.{IsBytes}
use Rattle.type_terms.specs.Shapes.{shape_types, retype}
use Rattle.type_terms.specs.ShapeLaws.{shape_types_map, retype_agrees}
use Rattle.type_terms.specs.Trees.{Tree, tree_of}
use Rattle.decl_spelling.specs.declared.mention.Mention.{Mention}
use Rattle.decl_spelling.specs.Sections.{Sections, window}
use Rattle.decl_spelling.specs.Spelled.{SpelledText, SpelledPath, SpelledPos, SpelledType, SpelledShape, meant}
use Rattle.decl_spelling.specs.Reading.{Ahead, Stopped, start}
use Rattle.decl_spelling.specs.Descriptors.{Flat, flat_at}
use Rattle.decl_spelling.specs.Tables.{Finished, Table, at, with_block, free_to, type_named, type_spelled, tree_spelled}
use Rattle.decl_spelling.specs.Descent.{ReadsBlock, resolve_all, finish, offset_of, block_at}
use Rattle.decl_spelling.specs.Grammar.{Here, IsDescriptor}
use Rattle.decl_spelling.specs.Spelling.{Block, Known, Names, Sound, Says, number_of}
use Rattle.decl_spelling.specs.Asks.{Ask, ask_of, shape_asks}
use Rattle.decl_spelling.proofs.Took.{seen_from}
use Rattle.decl_spelling.proofs.FlatLaws.{flat_took, flat_again}
use Rattle.decl_spelling.proofs.TableLaws.{block, finished_of, all_new, found_new, found_still, free_within}
use Rattle.decl_spelling.specs.KnownTypes.{Kept, IsKnown}
use Rattle.decl_spelling.proofs.Windows.{behind, behind_length}
use Rattle.decl_spelling.proofs.RetypeLemmas.{retype_twice}
use Rattle.decl_spelling.proofs.AskLemmas.{asks_from, shape_all, shape_named}
use Rattle.decl_spelling.proofs.NewBlocks.{block_some}
use Rattle.decl_spelling.proofs.BlockTakes.{window_fits, here_is, offset_is}
use Rattle.decl_spelling.proofs.TypeAgain.{Inside, ReadsAgain, mentions_named, found_one, block_free, tree_is, all_again}
use Rattle.decl_spelling.proofs.MapLemmas.{all_map, all_unmap, all_both}

-- what holds of the typeOffs of mentions
pub all_asked : (P : ℕ → Type 0) (ms : List Mention) (asks : List Ask) → map ask_of ms ≡ asks → AllByRecursion (λ m. P m.value) ms → AllByRecursion (λ ask. P ask.0) asks
all_asked P ms asks same all = subst (AllByRecursion (λ ask. P ask.0)) same (all_map (λ ask. P ask.0) ask_of ms all)

left_length : (after : Here) (c : Ahead) (tail : List ℕ) → after ≡ seen_from c tail → length after.left ≡ length c.spot.left + length tail
left_length after c tail is = ap (λ (a : Here). length a.left) is ∙ length-append c.spot.left tail

finished_is : (end : ℕ) (b : Block) (read said : SpelledShape Tree) → end ≡ b.end → read ≡ said → b.tree ≡ tree_of (meant said) → record { end = end; tree = tree_of (meant read) } ≡ finished_of b
finished_is end b read said same_end same type = λ i. record { end = same_end i; tree = (ap (λ (level : SpelledShape Tree). tree_of (meant level)) same ∙ sym type) i }

finish_done : (src : Sections) (read : ReadsBlock) (offset : ℕ) (r : Result (Flat × Ahead) Stopped) (x : Flat × Ahead) (done known : Table) → r ≡ Ok x → resolve_all src read offset (x.1).mentions done ≡ Ok known
    → finish src read offset r done ≡ Ok (with_block known offset (record { end = offset_of src x.1; tree = tree_spelled src.version known x.0 }))
finish_done src read offset r x done known is resolved = rw (is, resolved) refl

-- The bytes of a block were read in a window, to its end.
pub record Reread (src : Sections) (b : Block) (to : ℕ) (flat : Flat) : Type 0 where
  pub ahead : Ahead
  pub read : flat_at src (start (window src b.start to)) ≡ Ok (flat, ahead)
  pub end : offset_of src ahead ≡ b.end
  pub asked : map ask_of ahead.mentions ≡ shape_asks flat

module _ (src : Sections) (strings : IsBytes src.strings) (bytes : IsBytes src.body) (all : List Block) (sound : Sound src all) where
  -- the types that are known are those that the relation names
  trees_are : (known : Table) (holder : ℕ) (parts : SpelledShape Known) → Inside src all known → AllByRecursion (Names src all holder) (shape_types parts)
      → AllByRecursion (λ ask. IsKnown src known holder ask.0) (shape_asks (retype number_of parts)) → retype (type_spelled src.version known) (retype number_of parts) ≡ retype (λ (x : Known). x.tree) parts
  trees_are known holder parts inside named is =
      let of_numbers : AllByRecursion (λ (t : SpelledType). IsKnown src known holder t.number) (shape_types (retype number_of parts)) = shape_all (λ ask. IsKnown src known holder ask.0) (λ (t : SpelledType). IsKnown src known holder t.number) (λ t asked k. k) (retype number_of parts) is in
      let types : shape_types (retype number_of parts) ≡ map number_of (shape_types parts) = shape_types_map (λ (x : SpelledPos). x) (λ (x : SpelledText). x) (λ (x : SpelledPath). x) number_of parts in
      let of_types : AllByRecursion (λ (x : Known). IsKnown src known holder x.number) (shape_types parts) = all_unmap (λ (t : SpelledType). IsKnown src known holder t.number) number_of (shape_types parts) (subst (AllByRecursion (λ (t : SpelledType). IsKnown src known holder t.number)) types of_numbers) in
      let same : AllByRecursion (λ (x : Known). type_named src.version known x.number ≡ x.tree) (shape_types parts)
      = all_both (λ (x : Known). IsKnown src known holder x.number) (Names src all holder) (λ (x : Known). type_named src.version known x.number ≡ x.tree)
      (λ x is names. tree_is src all sound known holder x inside is names) (shape_types parts) of_types named in
      retype_twice number_of (type_spelled src.version known) SpelledPos SpelledText SpelledPath parts
      ∙ retype_agrees (λ (x : Known). type_named src.version known x.number) (λ (x : Known). x.tree) SpelledPos SpelledText SpelledPath parts same

  -- the block with what is finished in reading it
  with_one : (b : Block) (fin : Finished) (known : Table) → Contains all b → fin ≡ finished_of b → Inside src all known
      → Inside src all (with_block known b.start fin) × Kept known (with_block known b.start fin) × (at (with_block known b.start fin) b.start ≡ Some (finished_of b))
  with_one b fin known has is inside =
      let there : at (with_block known b.start fin) b.start ≡ Some (finished_of b) = found_new known b.start fin ∙ ap (λ (f : Finished). Some f) is in (
        all_new (λ e. Contains all (block e.0 e.1)) known b.start fin (subst (λ (f : Finished). Contains all (block b.start f)) (sym is) has) inside,
        λ o f found. elim (eqb_tells o b.start) [
          | inl same ↦
              let one : f ≡ finished_of b = found_one src all sound known b f inside has (ap (at known) (sym same.1) ∙ found) in
              ap (at (with_block known b.start fin)) same.1 ∙ there ∙ ap (λ (f : Finished). Some f) (sym one)
          | inr other ↦ found_still known b.start o fin other.1 ∙ found
        ],
        there,
      )

  flat_reread : (b : Block) (says : Says src all b) (to : ℕ) → b.end ≤ to → to ≤ length src.body → Reread src b to (retype number_of says.parts)
  flat_reread b says to free within =
      let some : b.start < b.end = block_some src all b says in
      let flat = retype number_of says.parts in
      let s = start (window src b.start to) in
      let tail = behind src.body b.start to in
      let tail_length : length tail + to ≡ length src.body = behind_length src.body b.start to (omega arith) within in
      let stands : IsDescriptor src (seen_from s tail) flat says.after = subst (λ (a : Here). IsDescriptor src a flat says.after) (sym (here_is src b.start to)) says.stands in
      let read = flat_again src s tail flat says.after stands (omega (arith, says.ends)) in
      let went = (flat_took src strings s (window_fits src b.start to bytes) flat read.0 read.1).went in
      let left : length says.after.left ≡ length (read.0).spot.left + length tail = left_length says.after read.0 tail read.2 in
      record {
        ahead = read.0;
        read = read.1;
        end = offset_is src read.0 to went.same_end (omega (arith, says.ends)) ∙ omega (arith, says.ends);
        asked = asks_from s read.0 (shape_asks flat) refl went;
      }

  finish_again : (read : ReadsBlock) (to : ℕ) (b : Block) (done : Table) → ReadsAgain src all read b.start → (has : Contains all b) → Reread src b to (retype number_of (sound.each b has).parts) → Inside src all done
      → (known : Table) × (finish src read b.start (flat_at src (start (window src b.start to))) done ≡ Ok known) × Inside src all known × Kept done known × (at known b.start ≡ Some (finished_of b))
  finish_again read to b done reads has again inside =
      let says = sound.each b has in
      let flat = retype number_of says.parts in
      let names : AllByRecursion (Names src all b.start) (shape_types says.parts) = recursion_from_All (Names src all b.start) (shape_types says.parts) says.named in
      let mentions = mentions_named src all b.start again.ahead.mentions (shape_asks flat) again.asked (shape_named src all b.start says.parts names says.generic) in
      let resolved = all_again src all sound read b.start reads again.ahead.mentions done mentions inside in
      let known = resolved.0 in
      let fin : Finished = record { end = offset_of src again.ahead; tree = tree_spelled src.version known flat } in
      let trees : retype (type_spelled src.version known) flat ≡ retype (λ (x : Known). x.tree) says.parts
      = trees_are known b.start says.parts resolved.2 names (all_asked (IsKnown src known b.start) again.ahead.mentions (shape_asks flat) again.asked resolved.4) in
      let new = with_one b fin known has (finished_is (offset_of src again.ahead) b (retype (type_spelled src.version known) flat) (retype (λ (x : Known). x.tree) says.parts) again.end trees says.type) resolved.2 in (
        with_block known b.start fin,
        finish_done src read b.start (flat_at src (start (window src b.start to))) (flat, again.ahead) done known again.read resolved.1,
        new.0,
        λ o f found. new.1 o f (resolved.3 o f found),
        new.2,
      )

  -- The number that bounds offsets is not below the start of the holder.
  pub block_again : (n holder : ℕ) → holder ≤ n → holder ≤ length src.body → ReadsAgain src all (block_at src n) holder
  unfolding block_at
  block_again zero holder bound within b done has ends inside none = let some = block_some src all b (sound.each b has) in absurd (omega arith)
  block_again (suc n) holder bound within b done has ends inside none =
      let some = block_some src all b (sound.each b has) in
      let to = free_to b.start holder done in
      let to_within : to ≤ holder = free_within b.start holder done (omega arith) in
      let free : b.end ≤ to = block_free src all sound b holder done has ends inside none in
      finish_again (block_at src n) to b done (block_again n b.start (omega arith) (omega arith)) has (flat_reread b (sound.each b has) to free (omega arith)) inside
