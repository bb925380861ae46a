-- The number that bounds offsets in the reading of descriptors doesn't matter, and how the fault of one is named.
use Rattle.std.proofs.Common.{◌≡◌, ℕ, zero, suc, ◌-◌, ◌<◌, List, [], ◌∷◌, Bool, true, false, cond, Result, Ok, Err, Option, Some, None, nat_lt, nat_le, is_some, refl, ◌∙◌, ap, arith}
use Rattle.std.proofs.lemmas.Bool.{ltb-true}
use Rattle.wire_bytes.specs.declared.fault.ByteFault.{ByteFault}
use Rattle.wire_bytes.specs.declared.fault.ByteFault.TheVariants as faults
use Rattle.wire_bytes.specs.Reading.{◌>>=◌, demand}
use Rattle.decl_spelling.specs.declared.mention.Mention.{Mention}
use Rattle.decl_spelling.specs.declared.mention.Demand.{Demand}
use Rattle.decl_spelling.specs.declared.mention.Demand.TheVariants.{Any, Parameter, Underlying, Base, NoParameter, Interface}
use Rattle.decl_spelling.specs.Sections.{Sections, window}
use Rattle.decl_spelling.specs.Codes.{basic_of}
use Rattle.decl_spelling.specs.Reading.{Ahead, Stopped, start}
use Rattle.decl_spelling.specs.Descriptors.{Flat, flat_at}
use Rattle.decl_spelling.specs.Tables.{Finished, Table, at, free_to, type_named, tree_spelled, with_block}
use Rattle.decl_spelling.specs.Descent.{ReadsBlock, meets, unmet, named_at, found_or_read, with_descriptor, with_basic, with_type, resolve, resolve_all, finish, block_at, offset_of}

pub bind_same : {E A B : Type 0} (r : Result A E) (f g : A → Result B E) → ((x : A) → f x ≡ g x) → (r >>= f) ≡ (r >>= g)
bind_same (Ok x) f g same = same x
bind_same (Err e) f g same = refl

-- ---- readers that agree below the holder

module _ (src : Sections) (p q : ReadsBlock) (holder : ℕ) (agree : (offset : ℕ) (done : Table) → offset < holder → p offset holder done ≡ q offset holder done) where
  found_same : (m : Mention) (done : Table) → m.value - 32 < holder → (a : Option Finished) → found_or_read p holder m done a ≡ found_or_read q holder m done a
  found_same m done below (Some finished) = refl
  found_same m done below None = ap (named_at m) (agree (m.value - 32) done below)

  tested_same : (m : Mention) (done : Table) (test : Bool) → nat_lt (m.value - 32) holder ≡ test
      → (demand test (faults.Range m.at m.value) >>= λ before. found_or_read p holder m done (at done (m.value - 32))) ≡ (demand test (faults.Range m.at m.value) >>= λ before. found_or_read q holder m done (at done (m.value - 32)))
  tested_same m done true e = found_same m done (ltb-true (m.value - 32) holder e) (at done (m.value - 32))
  tested_same m done false e = refl

  typed_same : (m : Mention) (done : Table) → with_type src p holder m done ≡ with_type src q holder m done
  typed_same m done = ap (λ r. cond (nat_lt m.value 32) (with_basic src.version m done) r) (tested_same m done (nat_lt (m.value - 32) holder) refl)

  pub resolve_same : (m : Mention) (done : Table) → resolve src p holder m done ≡ resolve src q holder m done
  resolve_same m done = ap (λ (r : Result Table ByteFault). r >>= λ known. demand (meets m.asked (type_named src.version known m.value)) (unmet m m.asked) >>= λ met. Ok known) (typed_same m done)

  pub resolve_all_same : (ms : List Mention) (done : Table) → resolve_all src p holder ms done ≡ resolve_all src q holder ms done
  resolve_all_same [] done = refl
  resolve_all_same (m ∷ ms) done =
      ap (λ (r : Result Table ByteFault). r >>= resolve_all src p holder ms) (resolve_same m done)
      ∙ bind_same (resolve src q holder m done) (resolve_all src p holder ms) (resolve_all src q holder ms) (resolve_all_same ms)

  finish_same : (x : Result (Flat × Ahead) Stopped) (done : Table) → finish src p holder x done ≡ finish src q holder x done
  finish_same (Ok x) done = ap (λ (r : Result Table ByteFault). r >>= λ known. Ok (with_block known holder (record { end = offset_of src x.1; tree = tree_spelled src.version known x.0 }))) (resolve_all_same (x.1).mentions done)
  finish_same (Err stopped) done = ap (λ (r : Result Table ByteFault). r >>= λ known. Err stopped.fault) (resolve_all_same stopped.mentions done)

-- bounds above the offset give the same
pub block_same : (src : Sections) (n m offset holder : ℕ) (done : Table) → offset < n → offset < m → block_at src n offset holder done ≡ block_at src m offset holder done
unfolding block_at
block_same src zero m offset holder done below under = absurd (omega arith)
block_same src (suc n) zero offset holder done below under = absurd (omega arith)
block_same src (suc n) (suc m) offset holder done below under =
    finish_same src (block_at src n) (block_at src m) offset (λ inner now inside. block_same src n m inner offset now (omega arith) (omega arith)) (flat_at src (start (window src offset (free_to offset holder done)))) done

-- one step of a descriptor, with the same bound for what is inside
pub block_opens : (src : Sections) (n offset holder : ℕ) (done : Table) → offset < n → block_at src n offset holder done ≡ finish src (block_at src n) offset (flat_at src (start (window src offset (free_to offset holder done)))) done
unfolding block_at
block_opens src zero offset holder done below = absurd (omega arith)
block_opens src (suc n) offset holder done below =
    finish_same src (block_at src n) (block_at src (suc n)) offset (λ inner now inside. block_same src n (suc n) inner offset now (omega arith) (omega arith)) (flat_at src (start (window src offset (free_to offset holder done)))) done

-- ---- a fault that stands where a type is named

-- a fault is not the end of a part
abbrev pub NotEnded : {X : Type 0} → Result X ByteFault → Type 0
NotEnded (Ok x) = Unit {0}
NotEnded (Err (faults.Ended place)) = ⊥
NotEnded (Err f) = Unit {0}

then_not_ended : {X Y : Type 0} (r : Result X ByteFault) (f : X → Result Y ByteFault) → NotEnded r → ((x : X) → NotEnded (f x)) → NotEnded (r >>= f)
then_not_ended (Ok x) f not others = others x
then_not_ended (Err (faults.Ended place)) f not others = absurd not
then_not_ended (Err (faults.Number at)) f not others = tt
then_not_ended (Err (faults.Range at value)) f not others = tt
then_not_ended (Err (faults.Tag at value)) f not others = tt
then_not_ended (Err (faults.Order at)) f not others = tt
then_not_ended (Err (faults.Version found)) f not others = tt
then_not_ended (Err (faults.Wide at)) f not others = tt
then_not_ended (Err (faults.Float at)) f not others = tt
then_not_ended (Err (faults.NotConst at)) f not others = tt
then_not_ended (Err (faults.Trailing at)) f not others = tt

demand_not_ended : (test : Bool) (f : ByteFault) → NotEnded {X = Unit {0}} (Err f) → NotEnded (demand test f)
demand_not_ended true f not = tt
demand_not_ended false f not = not

named_not_ended : (m : Mention) (r : Result Table ByteFault) → NotEnded (named_at m r)
named_not_ended m (Ok done) = tt
named_not_ended m (Err (faults.Ended place)) = tt
named_not_ended m (Err (faults.Number at)) = tt
named_not_ended m (Err (faults.Range at value)) = tt
named_not_ended m (Err (faults.Tag at value)) = tt
named_not_ended m (Err (faults.Order at)) = tt
named_not_ended m (Err (faults.Version found)) = tt
named_not_ended m (Err (faults.Wide at)) = tt
named_not_ended m (Err (faults.Float at)) = tt
named_not_ended m (Err (faults.NotConst at)) = tt
named_not_ended m (Err (faults.Trailing at)) = tt

unmet_not_ended : (m : Mention) (asked : Demand) → NotEnded {X = Unit {0}} (Err (unmet m asked))
unmet_not_ended m Any = tt
unmet_not_ended m Parameter = tt
unmet_not_ended m Underlying = tt
unmet_not_ended m Base = tt
unmet_not_ended m NoParameter = tt
unmet_not_ended m (Interface flag) = tt

module _ (src : Sections) (read : ReadsBlock) (holder : ℕ) where
  found_not_ended : (m : Mention) (done : Table) (a : Option Finished) → NotEnded (found_or_read read holder m done a)
  found_not_ended m done (Some finished) = then_not_ended (demand (nat_le finished.end holder) (faults.Range m.at m.value)) (λ u. Ok done) (demand_not_ended _ _ tt) (λ u. tt)
  found_not_ended m done None = named_not_ended m (read (m.value - 32) holder done)

  typed_not_ended : (m : Mention) (done : Table) (test : Bool) → NotEnded (cond test (with_basic src.version m done) (with_descriptor read holder m done))
  typed_not_ended m done true = then_not_ended (demand (is_some (basic_of src.version m.value)) (faults.Range m.at m.value)) (λ u. Ok done) (demand_not_ended _ _ tt) (λ u. tt)
  typed_not_ended m done false = then_not_ended (demand (nat_lt (m.value - 32) holder) (faults.Range m.at m.value)) (λ u. found_or_read read holder m done (at done (m.value - 32))) (demand_not_ended _ _ tt) (λ u. found_not_ended m done (at done (m.value - 32)))

  resolve_not_ended : (m : Mention) (done : Table) → NotEnded (resolve src read holder m done)
  resolve_not_ended m done =
      then_not_ended (with_type src read holder m done) (λ known. demand (meets m.asked (type_named src.version known m.value)) (unmet m m.asked) >>= λ met. Ok known)
      (typed_not_ended m done (nat_lt m.value 32))
      (λ known. then_not_ended (demand (meets m.asked (type_named src.version known m.value)) (unmet m m.asked)) (λ met. Ok known) (demand_not_ended _ _ (unmet_not_ended m m.asked)) (λ u. tt))

  pub not_ended : (ms : List Mention) (done : Table) → NotEnded (resolve_all src read holder ms done)
  not_ended [] done = tt
  not_ended (m ∷ ms) done = then_not_ended (resolve src read holder m done) (resolve_all src read holder ms) (resolve_not_ended m done) (not_ended ms)

-- a fault that stands elsewhere isn't named again
pub named_then : (m : Mention) (r : Result Table ByteFault) (f : Table → Result Table ByteFault) → NotEnded r → named_at m (r >>= f) ≡ (r >>= λ x. named_at m (f x))
named_then m (Ok done) f not = refl
named_then m (Err (faults.Ended place)) f not = absurd not
named_then m (Err (faults.Number at)) f not = refl
named_then m (Err (faults.Range at value)) f not = refl
named_then m (Err (faults.Tag at value)) f not = refl
named_then m (Err (faults.Order at)) f not = refl
named_then m (Err (faults.Version found)) f not = refl
named_then m (Err (faults.Wide at)) f not = refl
named_then m (Err (faults.Float at)) f not = refl
named_then m (Err (faults.NotConst at)) f not = refl
named_then m (Err (faults.Trailing at)) f not = refl
