-- A section with room for more nodes stands for what it stood for.
use Rattle.std.proofs.Common.{◌≡◌, ℕ, zero, suc, ◌+◌, ◌<◌, ◌≤◌, Bool, true, false, cond, List, [], ◌∷◌, ◌++◌, length, refl, ap, sym, ◌∙◌, ◌⊎◌, inl, inr, arith, length-append}
use Rattle.std.specs.Prelude.{◌||◌, slice_index_or, Result, Ok, Err, IsOk, OnOk}
use Rattle.type_terms.specs.declared.descriptors.Node.{Node}
use Rattle.type_terms.specs.Arenas.{IsArena}
use Rattle.type_terms.specs.Denotation.{tree}
use Rattle.type_terms.specs.Denoted.{tree_stays, tree_told}
use Rattle.type_terms.specs.TreeEquality.{same_tree}
use Rattle.type_terms.specs.Trees.{Tree}
use Rattle.decl_spelling.specs.declared.mention.TheConstants.{FIRST_DESCRIPTOR}
use Rattle.decl_spelling.specs.Spelling.{Block}
use Rattle.file_layout.specs.Walk.{is_made}
use Rattle.file_layout.specs.Places.{is_placed, start_of, number_in}
use Rattle.block_walk.specs.declared.section.Section.{Section}
use Rattle.block_walk.specs.Going.{Out}
use Rattle.block_walk.specs.Standing.{Stands, HasRoom}
use Rattle.block_walk.proofs.FinishLemmas.{number_made}

start_none : (type : Tree) (blocks : List Block) → is_placed blocks type ≡ false → start_of blocks type ≡ 0
start_none type [] none = refl
start_none type (b ∷ bs) none = by (same_tree type b.tree) none (start_none type bs)
  where
    by : (c : Bool) → (c || is_placed bs type) ≡ false → (is_placed bs type ≡ false → start_of bs type ≡ 0) → cond c b.start (start_of bs type) ≡ 0
    by true none later = absurd cc
    by false none later = later none

below_or : (j n : ℕ) → (j < n) ⊎ (n ≤ j)
below_or j zero = inr (omega arith)
below_or zero (suc n) = inl (omega arith)
below_or (suc j) (suc n) = elim (below_or j n) [ inl low ↦ inl (omega arith) | inr high ↦ inr (omega arith) ]

module _ (nodes old more : List Node) (arena : IsArena nodes) (is : nodes ≡ old ++ more) (a b : Section) (room : HasRoom old a) (out : Out) (stands : Stands old a out) where
  same_tree_at : (j : ℕ) → j < length old → tree nodes j ≡ tree old j
  same_tree_at j low = ap (λ all. tree all j) is ∙ tree_stays old more j low

  longer : length nodes ≡ length old + length more
  longer = ap length is ∙ length-append old more

  unplaced : (j : ℕ) → length old ≤ j → j < length nodes → is_placed out.written.blocks (tree nodes j) ≡ false
  unplaced j high low = by (is_placed out.written.blocks (tree nodes j)) refl
    where
      by : (c : Bool) → is_placed out.written.blocks (tree nodes j) ≡ c → c ≡ false
      by false e = refl
      by true e =
          let own = stands.denoted (tree nodes j) e in
          let same : own.0 ≡ j = tree_told nodes arena own.0 j (omega (arith, own.1, longer)) low (same_tree_at own.0 own.1 ∙ own.2) in
          absurd (omega (arith, own.1))

  pub room_made : b.body ≡ a.body → b.strings ≡ a.strings → b.paths.keys ≡ a.paths.keys → b.names.keys ≡ a.names.keys
      → ((k d : ℕ) → k < length nodes → k < length a.numbers.items → slice_index_or b.numbers.items k d ≡ slice_index_or a.numbers.items k d)
      → ((k d : ℕ) → length a.numbers.items ≤ k → k < length nodes → slice_index_or b.numbers.items k d ≡ FIRST_DESCRIPTOR)
      → ((k : ℕ) (d : Bool) → k < length nodes → k < length a.placed.items → slice_index_or b.placed.items k d ≡ slice_index_or a.placed.items k d)
      → ((k : ℕ) (d : Bool) → length a.placed.items ≤ k → k < length nodes → slice_index_or b.placed.items k d ≡ false)
      → Stands nodes b out
  room_made body strings paths names kept fresh held clear = record {
    bytes = body ∙ stands.bytes;
    texts = strings ∙ stands.texts;
    paths = paths ∙ stands.paths;
    names = names ∙ stands.names;
    numbers = λ j low made. elim (below_or j (length old)) [
      | inl before ↦
          kept j 0 low (omega (arith, room.numbers))
          ∙ stands.numbers j before (ap is_made (sym (same_tree_at j before)) ∙ made)
          ∙ ap (number_in out.written.blocks) (sym (same_tree_at j before))
      | inr behind ↦
          fresh j 0 (omega (arith, room.numbers)) low
          ∙ sym (number_made (tree nodes j) (start_of out.written.blocks (tree nodes j)) made ∙ ap (λ n. FIRST_DESCRIPTOR + n) (start_none (tree nodes j) out.written.blocks (unplaced j behind low)))
    ];
    placed = λ j low. elim (below_or j (length old)) [
      | inl before ↦
          held j false low (omega (arith, room.marks))
          ∙ stands.placed j before
          ∙ ap (is_placed out.written.blocks) (sym (same_tree_at j before))
      | inr behind ↦ clear j false (omega (arith, room.marks)) low ∙ sym (unplaced j behind low)
    ];
    denoted = λ type e.
        let own = stands.denoted type e in
        (own.0, omega (arith, own.1, longer), same_tree_at own.0 own.1 ∙ own.2);
  }

pub on_ok_from : {T E P : Type 0} (result : Result T E) → (IsOk result → P) → OnOk result P
on_ok_from (Ok x) from = from refl
on_ok_from (Err e) from = tt
