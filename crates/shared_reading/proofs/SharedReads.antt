-- A declaration that is read with a memory is what it is by itself.
use Rattle.std.proofs.Common.{◌≡◌, ◌≢◌, ℕ, ◌<◌, ◌≤◌, ◌⊎◌, inl, inr, List, [], ◌++◌, Contains, Bool, true, false, Result, Ok, Err, refl, sym, ◌∙◌, ap, subst, arith, nat_lt}
use Rattle.std.proofs.lemmas.Bool.Decides.{eqb_tells, nat_tests}
use Rattle.wire_bytes.specs.declared.fault.ByteFault.{ByteFault}
use Rattle.wire_bytes.proofs.Steps.{done_is}
use Rattle.type_terms.specs.Declarations.{Decl}
use Rattle.decl_spelling.specs.Sections.{Sections, Basics, HoldsBytes}
use Rattle.decl_spelling.specs.Tables.{Table}
use Rattle.decl_spelling.specs.Declarations.{Read, read_at, decl_of, spelled_of, decl_at}
use Rattle.decl_spelling.specs.Spelling.{Block, Sound, Apart}
use Rattle.decl_spelling.specs.KnownTypes.{Kept}
use Rattle.decl_spelling.proofs.TableLaws.{blocks_of}
use Rattle.decl_spelling.proofs.NewBlocks.{says_more}
use Rattle.decl_spelling.proofs.DeclTakes.{fine_none}
use Rattle.decl_spelling.proofs.DeclAgain.{next_done}
use Rattle.decl_spelling.proofs.DeclAtLaws.{strings_are, body_is, one_type}
use Rattle.shared_reading.specs.Memory.{IsMemory, Overlap, Overlaps, Joins}
use Rattle.shared_reading.specs.WithMemory.{read_with, or_alone, or_same, shared_at, widened}
use Rattle.shared_reading.proofs.MemoryLemmas.{fine_memory, memory_fine, kept_blocks, inside_all, inside_has, has_front, has_back, has_either}
use Rattle.shared_reading.proofs.WholeReads.{Whole, with_whole}
use Rattle.shared_reading.proofs.Agreement.{read_agrees, same_decl}

-- ---- blocks of two lists that lie apart explain each other

pub sound_both : (src : Sections) (xs ys : List Block) → Sound src xs → Sound src ys → Apart (xs ++ ys) → Sound src (xs ++ ys)
sound_both src xs ys sound_x sound_y apart = record {
  each = λ b has. elim (has_either xs ys b has) [
    | inl front ↦ says_more src xs (xs ++ ys) b (has_front xs ys) (sound_x.each b front)
    | inr back ↦ says_more src ys (xs ++ ys) b (has_back xs ys) (sound_y.each b back)
  ];
  apart = apart;
}

pub away_or_overlap : (a b : Block) → a.start ≢ b.start → ((a.end ≤ b.start) ⊎ (b.end ≤ a.start)) ⊎ Overlap a b
away_or_overlap a b differ = by (nat_lt b.start a.end) (nat_lt a.start b.end) refl refl
  where
    by : (c d : Bool) → nat_lt b.start a.end ≡ c → nat_lt a.start b.end ≡ d → ((a.end ≤ b.start) ⊎ (b.end ≤ a.start)) ⊎ Overlap a b
    by false d c-is d-is = inl (inl (grind (arith, nat_tests)))
    by true false c-is d-is = inl (inr (grind (arith, nat_tests)))
    by true true c-is d-is =
        let less : a.start < b.end = grind (arith, nat_tests) in
        let fewer : b.start < a.end = grind (arith, nat_tests) in
        inr (differ, less, fewer)

module _ (src : Sections) (basics : Basics) (holds : HoldsBytes src) where
  apart_pair : (some others : Table) → Sound src (blocks_of some) → Sound src (blocks_of others) → (Overlaps some others → ⊥) → (a b : Block) → Contains (blocks_of some) a → Contains (blocks_of others) b
      → (a ≡ b) ⊎ ((a.end ≤ b.start) ⊎ (b.end ≤ a.start))
  apart_pair some others sound_some sound_others none a b has_a has_b =
      elim (eqb_tells a.start b.start) [
        | inl same ↦ inl (one_type src holds (blocks_of some) (blocks_of others) sound_some sound_others a b has_a has_b same.1)
        | inr other ↦ elim (away_or_overlap a b other.1) [
          | inl away ↦ inr away
          | inr overlap ↦ absurd (none (a, b, has_a, has_b, overlap))
        ]
      ]

  turned : (a b : Block) → (a ≡ b) ⊎ ((a.end ≤ b.start) ⊎ (b.end ≤ a.start)) → (b ≡ a) ⊎ ((b.end ≤ a.start) ⊎ (a.end ≤ b.start))
  turned a b (inl same) = inl (sym same)
  turned a b (inr (inl before)) = inr (inr before)
  turned a b (inr (inr behind)) = inr (inl behind)

  pub apart_both : (memory alone : Table) → Sound src (blocks_of memory) → Sound src (blocks_of alone) → (Overlaps alone memory → ⊥) → Apart (blocks_of memory ++ blocks_of alone)
  apart_both memory alone sound_m sound_a none a b has_a has_b =
      elim (has_either (blocks_of memory) (blocks_of alone) a has_a) [
        | inl am ↦ elim (has_either (blocks_of memory) (blocks_of alone) b has_b) [
          | inl bm ↦ sound_m.apart a b am bm
          | inr ba ↦ turned b a (apart_pair alone memory sound_a sound_m none b a ba am)
        ]
        | inr aa ↦ elim (has_either (blocks_of memory) (blocks_of alone) b has_b) [
          | inl bm ↦ apart_pair alone memory sound_a sound_m none a b aa bm
          | inr ba ↦ sound_a.apart a b aa ba
        ]
      ]

  -- by itself it is read with nothing finished
  pub alone_is : (offset : ℕ) (r : Result Read ByteFault) → read_with src basics [] offset ≡ r → read_at src basics offset ≡ r
  unfolding read_with read_at
  alone_is offset r e = e

  pub alone_with : (offset : ℕ) (r : Result Read ByteFault) → read_at src basics offset ≡ r → read_with src basics [] offset ≡ r
  unfolding read_with read_at
  alone_with offset r e = e

  -- ---- what was read with a memory is read by itself

  pub record Alone (memory : Table) (offset : ℕ) (read : Read) : Type 0 where
    pub alone : Read
    pub is : read_at src basics offset ≡ Ok alone
    pub decl : decl_of src alone ≡ decl_of src read
    pub spelled : spelled_of alone ≡ spelled_of read
    pub end : alone.end ≡ read.end
    pub has_memory : (b : Block) → Contains (blocks_of memory) b → Contains (blocks_of read.table) b
    pub has_alone : (b : Block) → Contains (blocks_of alone.table) b → Contains (blocks_of read.table) b
    pub whole : Whole src offset memory read
    pub whole_alone : Whole src offset [] alone

  pub read_alone : (memory : Table) (offset : ℕ) (read : Read) → IsMemory src memory → read_with src basics memory offset ≡ Ok read → Alone memory offset read
  read_alone memory offset read is e =
      let strings = strings_are src holds in
      let bytes = body_is src holds in
      let fine = fine_memory src memory is in
      let w = with_whole src basics strings bytes memory offset read fine e in
      let all = blocks_of read.table in
      let agrees = read_agrees src basics strings bytes all w.added.fine.sound offset memory [] read fine e (λ b has. has) tt in
      let v = with_whole src basics strings bytes [] offset agrees.y (fine_none src) agrees.is in
      let inside = inside_all src all read.table (λ b has. has) in
      record {
        alone = agrees.y;
        is = alone_is offset (Ok agrees.y) agrees.is;
        decl = same_decl src basics strings bytes all w.added.fine.sound offset memory [] read agrees.y w v inside agrees.inside agrees.form;
        spelled = λ i. record { form = agrees.form i; value = agrees.value i };
        end = agrees.end;
        has_memory = kept_blocks memory read.table 0 fine.rising w.added.kept;
        has_alone = inside_has src all agrees.y.table agrees.inside;
        whole = w;
        whole_alone = v;
      }

  pub no_overlap : (memory : Table) (offset : ℕ) (read : Read) → (a : Alone memory offset read) → Overlaps (a.alone).table memory → ⊥
  no_overlap memory offset read a o =
      let b = o.0 in
      let c = o.1 in
      elim (a.whole.added.fine.sound.apart b c (a.has_alone b o.2) (a.has_memory c o.3)) [
        | inl same ↦ o.4.0 (ap (λ (x : Block). x.start) same)
        | inr (inl before) ↦ let fewer = o.4.2 in omega arith
        | inr (inr behind) ↦ let less = o.4.1 in omega arith
      ]

  -- ---- what is read by itself is read with a memory from which it lies apart

  pub record Shared (memory : Table) (offset : ℕ) (alone : Read) : Type 0 where
    pub read : Read
    pub is : read_with src basics memory offset ≡ Ok read
    pub end : read.end ≡ alone.end
    pub either : (b : Block) → Contains (blocks_of read.table) b → Contains (blocks_of memory) b ⊎ Contains (blocks_of alone.table) b

  pub read_shared : (memory : Table) (offset : ℕ) (alone : Read) → IsMemory src memory → read_at src basics offset ≡ Ok alone → (Overlaps alone.table memory → ⊥) → Shared memory offset alone
  read_shared memory offset alone is e none =
      let strings = strings_are src holds in
      let bytes = body_is src holds in
      let fine = fine_memory src memory is in
      let by_itself = alone_with offset (Ok alone) e in
      let w = with_whole src basics strings bytes [] offset alone (fine_none src) by_itself in
      let all = blocks_of memory ++ blocks_of alone.table in
      let apart = apart_both memory alone.table fine.sound w.added.fine.sound none in
      let sound = sound_both src (blocks_of memory) (blocks_of alone.table) fine.sound w.added.fine.sound apart in
      let agrees = read_agrees src basics strings bytes all sound offset [] memory alone (fine_none src) by_itself (has_back (blocks_of memory) (blocks_of alone.table))
      (inside_all src all memory (has_front (blocks_of memory) (blocks_of alone.table))) in
      record {
        read = agrees.y;
        is = agrees.is;
        end = agrees.end;
        either = λ b has. has_either (blocks_of memory) (blocks_of alone.table) b (inside_has src all agrees.y.table agrees.inside b has);
      }

  -- the descriptors are those of both
  pub joined : (memory : Table) (offset : ℕ) (read : Read) → IsMemory src memory → read_with src basics memory offset ≡ Ok read → (a : Alone memory offset read) → Joins memory (a.alone).table read.table
  joined memory offset read is e a =
      let shared = read_shared memory offset a.alone is a.is (no_overlap memory offset read a) in
      let same : shared.read ≡ read = done_is shared.read read (sym shared.is ∙ e) in
      record {
        first = a.has_memory;
        second = a.has_alone;
        only = λ b has. shared.either b (subst (λ (x : Read). Contains (blocks_of x.table) b) (sym same) has);
      }

  -- ---- the laws

  pub shared_is_plain : (memory : Table) → IsMemory src memory → (offset : ℕ) → shared_at src basics memory offset ≡ decl_at src basics offset
  shared_is_plain memory is offset = go (read_with src basics memory offset) refl
    where
      go : (r : Result Read ByteFault) → read_with src basics memory offset ≡ r → or_alone src basics offset r ≡ decl_at src basics offset
      go (Ok read) e =
          let a = read_alone memory offset read is e in
          sym (next_done (read_at src basics offset) (λ x. Ok (decl_of src x)) a.alone (decl_of src read) a.is (ap (λ (d : Decl). Ok d) a.decl))
      go (Err fault) e = refl

  pub stays_memory : (memory : Table) → IsMemory src memory → (offset : ℕ) → IsMemory src (widened src basics memory offset)
  stays_memory memory is offset = go (read_with src basics memory offset) refl
    where
      go : (r : Result Read ByteFault) → read_with src basics memory offset ≡ r → IsMemory src (or_same memory r)
      go (Ok read) e = memory_fine src read.table (with_whole src basics (strings_are src holds) (body_is src holds) memory offset read (fine_memory src memory is) e).added.fine
      go (Err fault) e = is

  pub grows_memory : (memory : Table) → IsMemory src memory → (offset : ℕ) → Kept memory (widened src basics memory offset)
  grows_memory memory is offset = go (read_with src basics memory offset) refl
    where
      go : (r : Result Read ByteFault) → read_with src basics memory offset ≡ r → Kept memory (or_same memory r)
      go (Ok read) e = (with_whole src basics (strings_are src holds) (body_is src holds) memory offset read (fine_memory src memory is) e).added.kept
      go (Err fault) e = λ o f found. found

  pub law_apart : (memory : Table) → IsMemory src memory → (offset : ℕ) (read : Read) → read_with src basics memory offset ≡ Ok read
      → (alone : Read) × (read_at src basics offset ≡ Ok alone) × (decl_of src alone ≡ decl_of src read) × (spelled_of alone ≡ spelled_of read) × (alone.end ≡ read.end) × Joins memory alone.table read.table
      × (Overlaps alone.table memory → ⊥)
  law_apart memory is offset read e =
      let a = read_alone memory offset read is e in
      (a.alone, a.is, a.decl, a.spelled, a.end, joined memory offset read is e a, no_overlap memory offset read a)

  pub law_shared : (memory : Table) → IsMemory src memory → (offset : ℕ) (alone : Read) → read_at src basics offset ≡ Ok alone → (Overlaps alone.table memory → ⊥) → (read : Read) × (read_with src basics memory offset ≡ Ok read)
  law_shared memory is offset alone e none = let shared = read_shared memory offset alone is e none in (shared.read, shared.is)
