-- What reading the types of a block adds to the table of finished descriptors.
use Rattle.std.proofs.Common.{◌≡◌, ℕ, ◌-◌, ◌<◌, ◌≤◌, ◌⊎◌, inl, inr, List, [], ◌∷◌, length, true, Result, Ok, Err, Option, Some, None, is_some, nat_lt, nat_le, refl, subst, arith}
use Rattle.std.specs.List.{AllByRecursion}
use Rattle.std.proofs.lemmas.Bool.Decides.{nat_tests}
use Rattle.wire_bytes.specs.declared.fault.ByteFault.{ByteFault}
use Rattle.wire_bytes.specs.declared.fault.ByteFault.TheVariants as faults
use Rattle.wire_bytes.specs.Reading.{◌>>=◌, demand}
use Rattle.wire_bytes.proofs.Steps.{bind_ok, demand_ok, chosen, done_is}
use Rattle.decl_spelling.specs.declared.mention.Mention.{Mention}
use Rattle.decl_spelling.specs.Sections.{Sections}
use Rattle.decl_spelling.specs.Codes.{basic_of}
use Rattle.decl_spelling.specs.Tables.{Finished, Table, at, type_named}
use Rattle.decl_spelling.specs.Descent.{ReadsBlock, meets, unmet, named_at, found_or_read, with_descriptor, with_basic, with_type, resolve, resolve_all}
use Rattle.decl_spelling.specs.Spelling.{Sound}
use Rattle.decl_spelling.proofs.TableLaws.{Rising, blocks_of}
use Rattle.decl_spelling.specs.KnownTypes.{Kept, IsKnown, IsAnswered}
use Rattle.decl_spelling.proofs.KnownTypeLemmas.{answered_still}

-- what is finished is in order, and explains itself
pub record Fine (src : Sections) (done : Table) : Type 0 where
  pub rising : Rising 0 done
  pub sound : Sound src (blocks_of done)

-- What was finished stays, and what is new ends at or before the start of the holder.
pub record Added (src : Sections) (holder : ℕ) (done known : Table) : Type 0 where
  pub fine : Fine src known
  pub kept : Kept done known
  pub new : (o : ℕ) (f : Finished) → at known o ≡ Some f → (at done o ≡ Some f) ⊎ (f.end ≤ holder)

pub added_none : (src : Sections) (holder : ℕ) (done : Table) → Fine src done → Added src holder done done
added_none src holder done fine = record { fine = fine; kept = λ o f found. found; new = λ o f found. inl found }

pub added_twice : (src : Sections) (holder : ℕ) (done mid known : Table) → Added src holder done mid → Added src holder mid known → Added src holder done known
added_twice src holder done mid known first second = record {
  fine = second.fine;
  kept = λ o f found. second.kept o f (first.kept o f found);
  new = λ o f found. elim (second.new o f found) [ inl before ↦ first.new o f before | inr within ↦ inr within ];
}

-- what is asked of a reader of descriptors
abbrev pub ReadsSoundly : Sections → ReadsBlock → Type 0
ReadsSoundly src read = (offset holder : ℕ) (done known : Table) → offset < holder → holder ≤ length src.body → Fine src done → at done offset ≡ None → read offset holder done ≡ Ok known
    → Added src holder done known × (f : Finished) × (at known offset ≡ Some f) × (f.end ≤ holder)

pub named_ok : (m : Mention) (r : Result Table ByteFault) (known : Table) → named_at m r ≡ Ok known → r ≡ Ok known
named_ok m (Ok done) known e = e
named_ok m (Err (faults.Ended place)) known e = absurd (cc)
named_ok m (Err f) known e = absurd (cc)

module _ (src : Sections) (read : ReadsBlock) (reads : ReadsSoundly src read) (holder : ℕ) (within : holder ≤ length src.body) where
  basic_known : (m : Mention) (done known : Table) → m.value < 32 → Fine src done → with_basic src.version m done ≡ Ok known → Added src holder done known × IsKnown src known holder m.value
  basic_known m done known small fine e =
      let test = bind_ok (demand (is_some (basic_of src.version m.value)) (faults.Range m.at m.value)) (λ u. Ok done) known e in
      let is : is_some (basic_of src.version m.value) ≡ true = demand_ok _ _ _ test.1 in
      subst (λ (x : Table). Added src holder done x × IsKnown src x holder m.value) (done_is done known test.2) (added_none src holder done fine, inl (small, is))

  found_known : (m : Mention) (done known : Table) → 32 ≤ m.value → m.value - 32 < holder → Fine src done → (a : Option Finished) → at done (m.value - 32) ≡ a → found_or_read read holder m done a ≡ Ok known
      → Added src holder done known × IsKnown src known holder m.value
  found_known m done known large before fine (Some finished) found e =
      let test = bind_ok (demand (nat_le finished.end holder) (faults.Range m.at m.value)) (λ u. Ok done) known e in
      let fits : nat_le finished.end holder ≡ true = demand_ok _ _ _ test.1 in
      let le : finished.end ≤ holder = grind (arith, nat_tests) in
      subst (λ (x : Table). Added src holder done x × IsKnown src x holder m.value) (done_is done known test.2) (added_none src holder done fine, inr (large, finished, found, le))
  found_known m done known large before fine None none e =
      let taken = reads (m.value - 32) holder done known before within fine none (named_ok m (read (m.value - 32) holder done) known e) in
      (taken.0, inr (large, taken.1, taken.2, taken.3))

  type_known : (m : Mention) (done known : Table) → Fine src done → with_type src read holder m done ≡ Ok known → Added src holder done known × IsKnown src known holder m.value
  type_known m done known fine e =
      elim (chosen (nat_lt m.value 32) (with_basic src.version m done) (with_descriptor read holder m done) (Ok known) e) [
        | inl small ↦ let lt : m.value < 32 = let test = small.0 in grind (arith, nat_tests) in basic_known m done known lt fine small.1
        | inr large ↦
            let le : 32 ≤ m.value = let test = large.0 in grind (arith, nat_tests) in
            let asked = bind_ok (demand (nat_lt (m.value - 32) holder) (faults.Range m.at m.value)) (λ u. found_or_read read holder m done (at done (m.value - 32))) known large.1 in
            let test : nat_lt (m.value - 32) holder ≡ true = demand_ok _ _ _ asked.1 in
            let before : m.value - 32 < holder = grind (arith, nat_tests) in
            found_known m done known le before fine (at done (m.value - 32)) refl asked.2
      ]

  pub resolve_known : (m : Mention) (done known : Table) → Fine src done → resolve src read holder m done ≡ Ok known → Added src holder done known × IsAnswered src known holder m
  resolve_known m done known fine e =
      let typed = bind_ok (with_type src read holder m done) (λ mid. demand (meets m.asked (type_named src.version mid m.value)) (unmet m m.asked) >>= λ met. Ok mid) known e in
      let mid = typed.0 in
      let met = bind_ok (demand (meets m.asked (type_named src.version mid m.value)) (unmet m m.asked)) (λ met. Ok mid) known typed.2 in
      let is : meets m.asked (type_named src.version mid m.value) ≡ true = demand_ok _ _ _ met.1 in
      let added = type_known m done mid fine typed.1 in
      subst (λ (x : Table). Added src holder done x × IsAnswered src x holder m) (done_is mid known met.2) (added.0, (added.1, is))

  pub all_known : (ms : List Mention) (done known : Table) → Fine src done → resolve_all src read holder ms done ≡ Ok known → Added src holder done known × AllByRecursion (IsAnswered src known holder) ms
  all_known [] done known fine e = subst (λ (x : Table). Added src holder done x × AllByRecursion (IsAnswered src x holder) []) (done_is done known e) (added_none src holder done fine, tt)
  all_known (m ∷ ms) done known fine e =
      let first = bind_ok (resolve src read holder m done) (resolve_all src read holder ms) known e in
      let one = resolve_known m done first.0 fine first.1 in
      let others = all_known ms first.0 known one.0.fine first.2 in
      (added_twice src holder done first.0 known one.0 others.0, (answered_still src first.0 known holder m others.0.kept one.1, others.1))
