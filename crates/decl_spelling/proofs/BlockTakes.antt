-- A descriptor that is read is spelled: the table of those that are finished stays sound.
use Rattle.std.proofs.Common.{◌≡◌, ℕ, zero, suc, ◌+◌, ◌-◌, ◌<◌, ◌≤◌, List, length, Result, Ok, Err, Some, None, refl, ap, subst, arith, length-append}
use Rattle.wire_bytes.proofs.Steps.{bind_ok, done_is}
use Rattle.wire_bytes.proofs.Spellings.{IsBytes}
use Rattle.wire_bytes.proofs.TextLemmas.{IsBytes-drop}
use Rattle.decl_spelling.specs.Sections.{Sections, window}
use Rattle.decl_spelling.specs.Reading.{Ahead, Stopped, start}
use Rattle.decl_spelling.specs.Descriptors.{Flat, flat_at}
use Rattle.decl_spelling.specs.Tables.{Finished, Table, at, with_block, free_to, tree_spelled}
use Rattle.decl_spelling.specs.Descent.{ReadsBlock, resolve_all, finish, offset_of, block_at}
use Rattle.decl_spelling.specs.Grammar.{Here, IsDescriptor}
use Rattle.decl_spelling.specs.Spelling.{nowhere, here}
use Rattle.decl_spelling.specs.Asks.{shape_asks}
use Rattle.decl_spelling.proofs.Took.{Fits, seen_from}
use Rattle.decl_spelling.proofs.FlatLaws.{flat_took}
use Rattle.decl_spelling.proofs.TableLaws.{blocks_of, found_new, free_within}
use Rattle.decl_spelling.proofs.Windows.{part, behind, part_behind, cut_at, IsBytes-take}
use Rattle.decl_spelling.proofs.AskLemmas.{asks_from, mentions_met}
use Rattle.decl_spelling.proofs.TypeTakes.{Fine, Added, ReadsSoundly, all_known}
use Rattle.decl_spelling.proofs.NewBlocks.{descriptor_some, new_says, more_blocks, block_added}

pub window_fits : (src : Sections) (from to : ℕ) → IsBytes src.body → Fits (start (window src from to))
window_fits src from to bytes = record { bytes = IsBytes-take (to - from) _ (IsBytes-drop from src.body bytes); line = omega arith; column = omega arith }

-- what stands from an offset on, as a window and what is behind it
pub here_is : (src : Sections) (from to : ℕ) → seen_from (start (window src from to)) (behind src.body from to) ≡ here src from
here_is src from to = ap (λ (bytes : List ℕ). record { left = bytes; before = nowhere }) (part_behind src.body from to)

-- where reading stopped in a window
pub offset_is : (src : Sections) (a : Ahead) (to : ℕ) → a.spot.end ≡ src.body_at + to → length a.spot.left ≤ to → offset_of src a ≡ to - length a.spot.left
offset_is src a to end short = omega arith

module _ (src : Sections) (strings : IsBytes src.strings) (bytes : IsBytes src.body) where
  pub finish_takes : (read : ReadsBlock) → ReadsSoundly src read → (offset holder to : ℕ) (done known : Table) → to ≡ free_to offset holder done → offset < holder → holder ≤ length src.body → Fine src done → at done offset ≡ None
      → (r : Result (Flat × Ahead) Stopped) → flat_at src (start (window src offset to)) ≡ r → finish src read offset r done ≡ Ok known
      → Added src holder done known × (f : Finished) × (at known offset ≡ Some f) × (f.end ≤ holder)
  finish_takes read reads offset holder to done known free before within fine none (Err s) e h =
      let no = bind_ok (resolve_all src read offset s.mentions done) (λ mid. Err s.fault) known h in
      absurd (let err = no.2 in cc)
  finish_takes read reads offset holder to done known free before within fine none (Ok x) e h =
      let flat = flat_took src strings (start (window src offset to)) (window_fits src offset to bytes) x.0 x.1 e in
      let fin_of : Table → Finished = λ mid. record { end = offset_of src x.1; tree = tree_spelled src.version mid x.0 } in
      let resolved = bind_ok (resolve_all src read offset (x.1).mentions done) (λ mid. Ok (with_block mid offset (fin_of mid))) known h in
      let mid = resolved.0 in
      let types = all_known src read reads offset (omega arith) (x.1).mentions done mid fine resolved.1 in
      let met = mentions_met src mid offset (x.1).mentions (shape_asks x.0) (asks_from (start (window src offset to)) x.1 (shape_asks x.0) refl flat.went) types.1 in
      let tail = behind src.body offset to in
      let stands : IsDescriptor src (here src offset) x.0 (seen_from x.1 tail) = subst (λ (a : Here). IsDescriptor src a x.0 (seen_from x.1 tail)) (here_is src offset to) (flat.stands tail) in
      let to_within : to ≤ holder = omega (arith, free, free_within offset holder done (omega arith)) in
      let less : length (x.1).spot.left < length (part src.body offset to)
      = omega (arith, descriptor_some src (seen_from (start (window src offset to)) tail) x.0 (seen_from x.1 tail) (flat.stands tail), length-append (part src.body offset to) tail, length-append (x.1).spot.left tail) in
      let cut = cut_at src.body offset to (x.1).spot.left (omega arith) less in
      let end : offset_of src x.1 ≡ to - length (x.1).spot.left = offset_is src x.1 to flat.went.same_end cut.short in
      let fin = fin_of mid in
      let some : offset < fin.end = omega (arith, end, cut.some) in
      let ends_free : fin.end ≤ free_to offset holder done = omega (arith, end, free) in
      let ends_within : fin.end ≤ holder = omega (arith, end, to_within) in
      let says = new_says src mid (blocks_of (with_block mid offset fin)) offset x.0 (seen_from x.1 tail) (offset_of src x.1)
      (more_blocks src offset holder done mid fin fine none types.0 before some ends_free ends_within) met stands (omega (arith, end, cut.all)) in
      subst (λ (t : Table). Added src holder done t × (f : Finished) × (at t offset ≡ Some f) × (f.end ≤ holder)) (done_is (with_block mid offset fin) known resolved.2)
      (block_added src offset holder done mid fin fine none types.0 before some ends_free ends_within says, fin, found_new mid offset fin, ends_within)

  pub block_takes : (n : ℕ) → ReadsSoundly src (block_at src n)
  unfolding block_at
  block_takes zero offset holder done known before within fine none e = absurd (cc)
  block_takes (suc n) offset holder done known before within fine none e =
      finish_takes (block_at src n) (block_takes n) offset holder (free_to offset holder done) done known refl before within fine none
      (flat_at src (start (window src offset (free_to offset holder done)))) refl e
