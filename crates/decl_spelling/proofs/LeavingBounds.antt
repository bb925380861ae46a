-- The number that bounds offsets doesn't matter for what a descriptor leaves.
use Rattle.std.proofs.Common.{◌≡◌, ℕ, zero, suc, ◌-◌, ◌<◌, List, [], ◌∷◌, ◌++◌, Bool, true, false, not, cond, Result, Ok, Err, nat_lt, is_some, refl, ◌∙◌, ap, arith}
use Rattle.std.proofs.lemmas.Bool.{ltb-true}
use Rattle.wire_bytes.specs.declared.fault.ByteFault.{ByteFault}
use Rattle.type_terms.specs.Trees.{Tree}
use Rattle.decl_spelling.specs.declared.mention.Mention.{Mention}
use Rattle.decl_spelling.specs.Sections.{Sections, window}
use Rattle.decl_spelling.specs.Reading.{Ahead, Stopped, start}
use Rattle.decl_spelling.specs.Descriptors.{Flat, flat_at}
use Rattle.decl_spelling.specs.Tables.{Table, at, free_to, tree_spelled}
use Rattle.decl_spelling.specs.Descent.{ReadsBlock, resolve, resolve_all, block_at}
use Rattle.decl_spelling.specs.Leaving.{LeavesBlock, if_well, left_by_type, left_by_types, left_by_block, left_at}
use Rattle.decl_spelling.proofs.Bounds.{resolve_same, resolve_all_same, block_same}

pub well_same : {X : Type 0} (r : Result X ByteFault) (f g : X → List Tree) → ((x : X) → f x ≡ g x) → if_well r f ≡ if_well r g
well_same (Ok x) f g same = same x
well_same (Err e) f g same = refl

-- readers that agree below the holder
module _ (src : Sections) (p q : ReadsBlock) (l k : LeavesBlock) (holder : ℕ) (agree : (offset : ℕ) (done : Table) → offset < holder → p offset holder done ≡ q offset holder done)
    (alike : (offset : ℕ) (done : Table) → offset < holder → l offset holder done ≡ k offset holder done) where
  type_alike : (number : ℕ) (done : Table) → left_by_type l holder number done ≡ left_by_type k holder number done
  type_alike number done = tested (nat_lt number 32) (nat_lt (number - 32) holder) refl
    where
      tested : (small before : Bool) → nat_lt (number - 32) holder ≡ before
          → cond (cond small false (cond before (not (is_some (at done (number - 32)))) false)) (l (number - 32) holder done) [] ≡ cond (cond small false (cond before (not (is_some (at done (number - 32)))) false)) (k (number - 32) holder done) []
      tested true before e = refl
      tested false false e = refl
      tested false true e = ap (λ (left : List Tree). cond (not (is_some (at done (number - 32)))) left []) (alike (number - 32) done (ltb-true (number - 32) holder e))

  pub types_alike : (ms : List Mention) (done : Table) → left_by_types src p l holder ms done ≡ left_by_types src q k holder ms done
  types_alike [] done = refl
  types_alike (m ∷ ms) done =
      ap (λ (left : List Tree). left ++ if_well (resolve src p holder m done) (left_by_types src p l holder ms)) (type_alike m.value done)
      ∙ ap (λ (r : Result Table ByteFault). left_by_type k holder m.value done ++ if_well r (left_by_types src p l holder ms)) (resolve_same src p q holder agree m done)
      ∙ ap (λ (left : List Tree). left_by_type k holder m.value done ++ left) (well_same (resolve src q holder m done) (left_by_types src p l holder ms) (left_by_types src q k holder ms) (types_alike ms))

  block_alike : (x : Result (Flat × Ahead) Stopped) (done : Table) → left_by_block src p l holder x done ≡ left_by_block src q k holder x done
  block_alike (Ok x) done =
      let own : Table → List Tree = λ known. tree_spelled src.version known x.0 ∷ [] in
      ap (λ (left : List Tree). left ++ if_well (resolve_all src p holder (x.1).mentions done) own) (types_alike (x.1).mentions done)
      ∙ ap (λ (r : Result Table ByteFault). left_by_types src q k holder (x.1).mentions done ++ if_well r own) (resolve_all_same src p q holder agree (x.1).mentions done)
  block_alike (Err stopped) done = types_alike stopped.mentions done

-- bounds above the offset give the same
pub left_same : (src : Sections) (n m offset holder : ℕ) (done : Table) → offset < n → offset < m → left_at src n offset holder done ≡ left_at src m offset holder done
unfolding left_at
left_same src zero m offset holder done below under = absurd (omega arith)
left_same src (suc n) zero offset holder done below under = absurd (omega arith)
left_same src (suc n) (suc m) offset holder done below under =
    block_alike src (block_at src n) (block_at src m) (left_at src n) (left_at src m) offset (λ inner now inside. block_same src n m inner offset now (omega arith) (omega arith)) (λ inner now inside. left_same src n m inner offset now (omega arith) (omega arith))
    (flat_at src (start (window src offset (free_to offset holder done)))) done

-- one step of a descriptor, with the same bound for what is inside
pub left_opens : (src : Sections) (n offset holder : ℕ) (done : Table) → offset < n
    → left_at src n offset holder done ≡ left_by_block src (block_at src n) (left_at src n) offset (flat_at src (start (window src offset (free_to offset holder done)))) done
unfolding left_at
left_opens src zero offset holder done below = absurd (omega arith)
left_opens src (suc n) offset holder done below =
    block_alike src (block_at src n) (block_at src (suc n)) (left_at src n) (left_at src (suc n)) offset (λ inner now inside. block_same src n (suc n) inner offset now (omega arith) (omega arith)) (λ inner now inside. left_same src n (suc n) inner offset now (omega arith) (omega arith))
    (flat_at src (start (window src offset (free_to offset holder done)))) done
