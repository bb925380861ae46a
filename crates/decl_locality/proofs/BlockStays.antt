-- A descriptor is read of the bytes before its holder alone.
use Rattle.std.proofs.Common.{◌≡◌, ℕ, zero, suc, ◌+◌, ◌-◌, ◌<◌, ◌≤◌, Bool, true, false, cond, List, [], ◌∷◌, ◌++◌, length, take, drop, Result, Ok, Err, nat_lt, nat_le, refl, sym, ap, ◌∙◌, arith, inl, inr, length-append, length-drop}
use Rattle.std.proofs.lemmas.Bool.{cases_lt, ltb-true}
use Rattle.std.proofs.lemmas.List.{take_all, take-append-le, drop-append-le}
use Rattle.wire_bytes.specs.declared.fault.ByteFault.{ByteFault}
use Rattle.wire_bytes.specs.Reading.{◌>>=◌}
use Rattle.wire_bytes.specs.Local.{with_more}
use Rattle.decl_spelling.specs.declared.mention.Mention.{Mention}
use Rattle.decl_spelling.specs.Sections.{Sections, window}
use Rattle.decl_spelling.specs.Reading.{Ahead, Stopped, start}
use Rattle.decl_spelling.specs.Descriptors.{Flat, flat_at}
use Rattle.decl_spelling.specs.Tables.{Table, free_to, with_block, tree_spelled}
use Rattle.decl_spelling.specs.Descent.{ReadsBlock, resolve_all, finish, block_at, offset_of}
use Rattle.decl_spelling.proofs.Bounds.{resolve_all_same}
use Rattle.decl_locality.specs.LocalReaders.{longer}
use Rattle.decl_locality.specs.LongerFiles.{with_behind}
use Rattle.decl_locality.proofs.SameReaders.{flat_same}

-- what is free for a descriptor lies before its holder
pub free_within : (offset limit : ℕ) (done : Table) → offset ≤ limit → free_to offset limit done ≤ limit
free_within offset limit [] le = omega arith
free_within offset limit (entry ∷ rest) le = by (nat_le entry.1.end offset) (nat_le entry.0 offset) (nat_lt entry.0 limit) refl (free_within offset limit rest le)
  where
    by : (passed covers inside : Bool) → nat_lt entry.0 limit ≡ inside → free_to offset limit rest ≤ limit
        → cond passed (free_to offset limit rest) (cond covers offset (cond inside entry.0 limit)) ≤ limit
    by true covers inside e later = later
    by false true inside e later = le
    by false false true e later = let less = ltb-true entry.0 limit e in omega (arith, less)
    by false false false e later = omega arith

module _ (bytes more : List ℕ) where
  none_taken : (n : ℕ) (xs ys : List ℕ) → n ≡ 0 → take n xs ≡ take n ys
  none_taken n xs ys none = ap (λ (n : ℕ). take n xs) none ∙ ap (λ (n : ℕ). take n ys) (sym none)

  pub part_same : (from to : ℕ) → to ≤ length bytes → take (to - from) (drop from (bytes ++ more)) ≡ take (to - from) (drop from bytes)
  part_same from to within = elim (cases_lt from (length bytes)) [
    | inl less ↦
        ap (take (to - from)) (drop-append-le from bytes more (omega (arith, less)))
        ∙ take-append-le (to - from) (drop from bytes) more (omega (arith, within, length-drop from bytes))
    | inr far ↦ none_taken (to - from) (drop from (bytes ++ more)) (drop from bytes) (omega (arith, within, far))
  ]

  pub rest_longer : (from : ℕ) → from ≤ length bytes → take (length (bytes ++ more) - from) (drop from (bytes ++ more)) ≡ take (length bytes - from) (drop from bytes) ++ more
  rest_longer from within =
      take_all (length (bytes ++ more) - from) (drop from (bytes ++ more)) (omega (arith, length-drop from (bytes ++ more)))
      ∙ drop-append-le from bytes more within
      ∙ ap (λ (front : List ℕ). front ++ more) (sym (take_all (length bytes - from) (drop from bytes) (omega (arith, length-drop from bytes))))

module _ (src : Sections) (more : List ℕ) where
  window_same : (from to : ℕ) → to ≤ length src.body → window (with_behind src more) from to ≡ window src from to
  window_same from to within = ap (λ (left : List ℕ). record { end = src.body_at + to; left = left }) (part_same src.body more from to within)

  window_longer : (from : ℕ) → from ≤ length src.body → window (with_behind src more) from (length (src.body ++ more)) ≡ with_more (window src from (length src.body)) more
  window_longer from within =
      ap (λ (left : List ℕ). record { end = src.body_at + length (src.body ++ more); left = left }) (rest_longer src.body more from within)
      ∙ ap (λ (end : ℕ). record { end = end; left = take (length src.body - from) (drop from src.body) ++ more }) (omega (arith, length-append src.body more))

  -- the block of a declaration goes on
  pub start_longer : (from : ℕ) → from ≤ length src.body → start (window (with_behind src more) from (length (src.body ++ more))) ≡ longer (start (window src from (length src.body))) more
  start_longer from within = ap start (window_longer from within)

  finish_stays : (p q : ReadsBlock) (offset : ℕ) → ((inner : ℕ) (done : Table) → inner < offset → p inner offset done ≡ q inner offset done)
      → (x : Result (Flat × Ahead) Stopped) (done : Table) → finish (with_behind src more) p offset x done ≡ finish src q offset x done
  finish_stays p q offset agree (Ok x) done =
      ap (λ (r : Result Table ByteFault). r >>= λ known. Ok (with_block known offset (record { end = offset_of src x.1; tree = tree_spelled src.version known x.0 })))
      (resolve_all_same src p q offset agree (x.1).mentions done)
  finish_stays p q offset agree (Err stopped) done =
      ap (λ (r : Result Table ByteFault). r >>= λ known. Err stopped.fault) (resolve_all_same src p q offset agree stopped.mentions done)

  blocks_stay : (n offset holder : ℕ) (done : Table) → offset < holder → holder ≤ length src.body → block_at (with_behind src more) n offset holder done ≡ block_at src n offset holder done
  unfolding block_at
  blocks_stay zero offset holder done before within = refl
  blocks_stay (suc n) offset holder done before within =
      let to = free_to offset holder done in
      let free : to ≤ length src.body = omega (arith, free_within offset holder done (omega (arith, before)), within) in
      ap (λ (x : Result (Flat × Ahead) Stopped). finish (with_behind src more) (block_at (with_behind src more) n) offset x done)
      (λ i. flat_same src more i (start (window_same offset to free i)))
      ∙ finish_stays (block_at (with_behind src more) n) (block_at src n) offset (λ inner now inside. blocks_stay n inner offset now inside (omega (arith, before, within))) (flat_at src (start (window src offset to))) done

  pub resolve_stays : (offset : ℕ) → offset ≤ length src.body → (ms : List Mention) (done : Table)
      → resolve_all (with_behind src more) (block_at (with_behind src more) offset) offset ms done ≡ resolve_all src (block_at src offset) offset ms done
  resolve_stays offset within ms done =
      resolve_all_same src (block_at (with_behind src more) offset) (block_at src offset) offset (λ inner now inside. blocks_stay offset inner offset now inside within) ms done
