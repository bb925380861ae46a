-- What reading declarations in turn comes to.
use Rattle.std.proofs.Common.{◌∙◌, ◌≡◌, ℕ, zero, suc, ◌+◌, ◌-◌, ◌<◌, ◌≤◌, ◌⊎◌, inl, inr, List, [], ◌∷◌, ◌++◌, length, map, Contains, Ok, refl, ap, subst, arith}
use Rattle.std.specs.List.{AllByRecursion, sum_by}
use Rattle.std.proofs.lemmas.List.Sums.{sum_by-cons, sum_by-append}
use Rattle.wire_bytes.specs.Reading.{◌>>=◌}
use Rattle.decl_spelling.specs.Sections.{Sections, Basics, HoldsBytes}
use Rattle.decl_spelling.specs.Tables.{Finished, Table}
use Rattle.decl_spelling.specs.Declarations.{Read, read_at}
use Rattle.decl_spelling.specs.Spelling.{Block, Apart}
use Rattle.decl_spelling.proofs.TableLaws.{finished_of, block_found, found_block, has_none, first_has, later_has}
use Rattle.decl_spelling.proofs.TypeTakes.{Added}
use Rattle.decl_spelling.proofs.DeclTakes.{fine_none}
use Rattle.decl_spelling.proofs.DeclAgain.{next_done}
use Rattle.decl_spelling.proofs.DeclAtLaws.{strings_are, body_is}
use Rattle.shared_reading.specs.Memory.{block_of, blocks_in, InOrder, IsMemory, Overlaps}
use Rattle.shared_reading.specs.WithMemory.{read_with}
use Rattle.shared_reading.specs.Counted.{Stretch, byte_count, Away, stretch_of, bytes_in, own_stretch, steps_of, read_in_turn, AllAway, LieApart}
use Rattle.shared_reading.proofs.MemoryLemmas.{fine_memory, memory_fine, no_memory, kept_blocks}
use Rattle.shared_reading.proofs.WholeReads.{head_read, with_whole}
use Rattle.shared_reading.proofs.SharedReads.{alone_with, read_shared}
use Rattle.shared_reading.proofs.StretchSums.{has_byte, before, has_at_most, le_or, sum_two, sum_none, sum_all, one_has, few_before, some_has, sum_has, few_bytes, fewer_bytes, away_both, ends_both, map_has, has_map, sum_map}

abbrev pub stretches : Table → List Stretch
stretches table = map stretch_of (blocks_in table)

pub bytes_are : (table : Table) → sum_by byte_count (stretches table) ≡ bytes_in table
bytes_are table = sum_map byte_count stretch_of (blocks_in table)

-- ---- a memory's descriptors are away from one another, and stand in the data section

later_away : (e : ℕ × Finished) (es : Table) → AllByRecursion (λ later. e.0 < later.0) es
    → ((b : Block) → Contains (blocks_in es) b → (block_of e ≡ b) ⊎ ((e.1.end ≤ b.start) ⊎ (b.end ≤ e.0))) → AllByRecursion (Away (stretch_of (block_of e))) (stretches es)
later_away e [] order apart = tt
later_away e (f ∷ fs) order apart =
    (away (apart (block_of f) (first_has (block_of f) (blocks_in fs))), later_away e fs order.1 (λ b has. apart b (later_has (block_of f) b (blocks_in fs) has)))
  where
    away : (block_of e ≡ block_of f) ⊎ ((e.1.end ≤ f.0) ⊎ (f.1.end ≤ e.0)) → Away (stretch_of (block_of e)) (stretch_of (block_of f))
    away (inl same) = let start : e.0 ≡ f.0 = ap (λ (b : Block). b.start) same in let less = order.0 in absurd (omega arith)
    away (inr elsewhere) = elsewhere

order_away : (t : Table) → InOrder t → Apart (blocks_in t) → AllAway (stretches t)
order_away [] order apart = tt
order_away (e ∷ es) order apart = (
  later_away e es order.0 (λ b has. apart (block_of e) b (first_has (block_of e) (blocks_in es)) (later_has (block_of e) b (blocks_in es) has)),
  order_away es order.1 (λ a b has_a has_b. apart a b (later_has (block_of e) a (blocks_in es) has_a) (later_has (block_of e) b (blocks_in es) has_b)),
)

pub memory_away : (src : Sections) (memory : Table) → IsMemory src memory → AllAway (stretches memory)
memory_away src memory is = order_away memory is.in_order is.sound.apart

ends_of : (n : ℕ) (blocks : List Block) → ((b : Block) → Contains blocks b → b.end ≤ n) → AllByRecursion (λ s. s.end ≤ n) (map stretch_of blocks)
ends_of n [] each = tt
ends_of n (b ∷ bs) each = (each b (first_has b bs), ends_of n bs (λ c has. each c (later_has b c bs has)))

pub memory_ends : (src : Sections) (memory : Table) → IsMemory src memory → AllByRecursion (λ s. s.end ≤ length src.body) (stretches memory)
memory_ends src memory is = ends_of (length src.body) (blocks_in memory) (λ b has. let ends = (is.sound.each b has).ends in omega arith)

pub memory_bytes : (src : Sections) (memory : Table) → IsMemory src memory → bytes_in memory ≤ length src.body
memory_bytes src memory is = omega (arith, bytes_are memory, few_bytes (length src.body) (stretches memory) (memory_away src memory is) (memory_ends src memory is))

-- more is remembered
pub more_bytes : (src : Sections) (some all : Table) → IsMemory src some → IsMemory src all → ((b : Block) → Contains (blocks_in some) b → Contains (blocks_in all) b) → bytes_in some ≤ bytes_in all
more_bytes src some all is_some is_all more =
    omega (arith, bytes_are some, bytes_are all, fewer_bytes (stretches some) (stretches all) (memory_away src some is_some) among (length src.body) (memory_ends src some is_some) (memory_ends src all is_all))
  where
    among : (s : Stretch) → Contains (stretches some) s → Contains (stretches all) s
    among s has =
        let found = has_map stretch_of (blocks_in some) s has in
        subst (Contains (stretches all)) found.2 (map_has stretch_of (blocks_in all) found.0 (more found.0 found.1))

-- ---- one declaration

-- What a declaration got stands before it, so it has as many bytes at the most as stand there.
module _ (src : Sections) (offset : ℕ) (memory table : Table) (is : IsMemory src memory) (added : Added src offset memory table) where
  is_table : IsMemory src table
  is_table = memory_fine src table added.fine

  none_later : (n : ℕ) → offset ≤ n → sum_by (has_byte n) (stretches table) ≤ sum_by (has_byte n) (stretches memory)
  none_later n behind =
      elim (some_has n (stretches table)) [
        | inl none ↦ omega (arith, none)
        | inr found ↦ omega (arith, one_has n (stretches table) (memory_away src table is_table), old found.0 found.1 found.2)
      ]
    where
      old : (s : Stretch) → Contains (stretches table) s → has_byte n s ≡ 1 → 1 ≤ sum_by (has_byte n) (stretches memory)
      old s has one =
          let from = has_map stretch_of (blocks_in table) s has in
          let b = from.0 in
          let same : stretch_of b ≡ s = from.2 in
          let one_too : has_byte n (stretch_of b) ≡ 1 = ap (has_byte n) same ∙ one in
          elim (added.new b.start (finished_of b) (found_block table 0 b added.fine.rising from.1)) [
            | inl before ↦ sum_has n (stretches memory) (stretch_of b) (map_has stretch_of (blocks_in memory) b (block_found memory b.start (finished_of b) before)) one_too
            | inr ends ↦ elim (has_at_most n (stretch_of b)) [
              | inl none ↦ absurd (omega (arith, none, one_too))
              | inr within ↦ let less = within.2 in absurd (omega arith)
            ]
          ]

  few_new : (n : ℕ) → offset ≤ n → sum_by (before n) (stretches table) ≤ sum_by (before n) (stretches memory) + offset
  few_new zero le = omega (arith, sum_none (stretches table))
  few_new (suc n) le =
      elim (le_or offset n) [
        | inl earlier ↦ omega (arith, sum_two n (stretches table), sum_two n (stretches memory), few_new n earlier, none_later n earlier)
        | inr here ↦ omega (arith, few_before (suc n) (stretches table) (memory_away src table is_table), here)
      ]

  pub new_bytes : offset ≤ length src.body → bytes_in table ≤ bytes_in memory + offset
  new_bytes within =
      omega (arith, few_new (length src.body) within, bytes_are table, bytes_are memory, sum_all (length src.body) (stretches table) (memory_ends src table is_table), sum_all (length src.body) (stretches memory) (memory_ends src memory is))

pub few_steps : (src : Sections) (basics : Basics) → HoldsBytes src → (memory : Table) → IsMemory src memory → (offset : ℕ) (read : Read) → read_with src basics memory offset ≡ Ok read → steps_of src memory offset read ≤ length src.body
few_steps src basics holds memory is offset read e =
    let fine = fine_memory src memory is in
    let h = head_read src basics (strings_are src holds) (body_is src holds) memory offset read fine e in
    let w = with_whole src basics (strings_are src holds) (body_is src holds) memory offset read fine e in
    omega (arith, new_bytes src offset memory read.table is w.added h.within, h.within, w.within)

-- ---- declarations whose descriptors lie apart

turn_done : (src : Sections) (basics : Basics) (memory : Table) (offset : ℕ) (offsets : List ℕ) (read : Read) (last : Table) (steps : ℕ) → read_with src basics memory offset ≡ Ok read → read_in_turn src basics read.table offsets ≡ Ok (last, steps)
    → read_in_turn src basics memory (offset ∷ offsets) ≡ Ok (last, steps_of src memory offset read + steps)
turn_done src basics memory offset offsets read last steps first others =
    next_done (read_with src basics memory offset) (λ read. read_in_turn src basics read.table offsets >>= λ others. Ok (others.0, steps_of src memory offset read + others.1)) read (last, steps_of src memory offset read + steps) first
    (next_done (read_in_turn src basics read.table offsets) (λ others. Ok (others.0, steps_of src memory offset read + others.1)) (last, steps) (last, steps_of src memory offset read + steps) others refl)

module _ (src : Sections) (basics : Basics) (holds : HoldsBytes src) (all : List (ℕ × Read)) (apart : LieApart src basics all) where
  -- each descriptor is one of a declaration's
  abbrev IsOfDecls : Table → Type 0
  IsOfDecls memory = (b : Block) → Contains (blocks_in memory) b → (d : ℕ × Read) × Contains all d × Contains (blocks_in d.1.table) b

  record Turned (memory : Table) (decls : List (ℕ × Read)) : Type 0 where
    last : Table
    steps : ℕ
    are : read_in_turn src basics memory (map (λ d. d.0) decls) ≡ Ok (last, steps)
    remembered : IsMemory src last
    of_decls : IsOfDecls last
    counted : steps + bytes_in memory ≡ bytes_in last + sum_by byte_count (map (own_stretch src) decls)

  turned : (decls : List (ℕ × Read)) → ((d : ℕ × Read) → Contains decls d → Contains all d) → AllByRecursion (λ d. read_at src basics d.0 ≡ Ok d.1) decls → (memory : Table) → IsMemory src memory → IsOfDecls memory → Turned memory decls
  turned [] among reads memory is of_decls = record { last = memory; steps = 0; are = refl; remembered = is; of_decls = of_decls; counted = omega arith }
  turned (d ∷ ds) among reads memory is of_decls =
      let alone = d.1 in
      let none : Overlaps alone.table memory → ⊥ = λ o. let from = of_decls o.1 o.3 in apart.descriptors d from.0 (among d (first_has d ds)) from.1 (o.0, o.1, o.2, from.2, o.4) in
      let shared = read_shared src basics holds memory d.0 alone is reads.0 none in
      let w = with_whole src basics (strings_are src holds) (body_is src holds) memory d.0 shared.read (fine_memory src memory is) shared.is in
      let is_new : IsMemory src (shared.read).table = memory_fine src (shared.read).table w.added.fine in
      let more = more_bytes src memory (shared.read).table is is_new (kept_blocks memory (shared.read).table 0 (fine_memory src memory is).rising w.added.kept) in
      let of_new : IsOfDecls (shared.read).table = λ b has. elim (shared.either b has) [
        | inl old ↦ of_decls b old
        | inr new ↦ (d, among d (first_has d ds), new)
      ] in
      let rest = turned ds (λ e has. among e (later_has d e ds has)) reads.1 (shared.read).table is_new of_new in
      let own : byte_count (own_stretch src (d.0, shared.read)) ≡ byte_count (own_stretch src d) = ap (λ (end : ℕ). (end - src.body_at) - d.0) shared.end in
      record {
        last = rest.last;
        steps = steps_of src memory d.0 shared.read + rest.steps;
        are = turn_done src basics memory d.0 (map (λ d. d.0) ds) shared.read rest.last rest.steps shared.is rest.are;
        remembered = rest.remembered;
        of_decls = rest.of_decls;
        counted = omega (arith, more, own, rest.counted, sum_by-cons byte_count (own_stretch src d) (map (own_stretch src) ds));
      }

  own_ends : (decls : List (ℕ × Read)) → AllByRecursion (λ d. read_at src basics d.0 ≡ Ok d.1) decls → AllByRecursion (λ s. s.end ≤ length src.body) (map (own_stretch src) decls)
  own_ends [] reads = tt
  own_ends (d ∷ ds) reads =
      let w = with_whole src basics (strings_are src holds) (body_is src holds) [] d.0 d.1 (fine_none src) (alone_with src basics holds d.0 (Ok d.1) reads.0) in
      (omega (arith, w.within), own_ends ds reads.1)

  pub all_in_turn : (last : Table) × (steps : ℕ) × (read_in_turn src basics [] (map (λ d. d.0) all) ≡ Ok (last, steps)) × (steps ≤ length src.body)
  all_in_turn =
      let t = turned all (λ d has. has) apart.are_read [] (no_memory src) (λ b has. absurd (has_none b has)) in
      let own = map (own_stretch src) all in
      let cross : (x y : Stretch) → Contains (stretches t.last) x → Contains own y → Away x y = λ x y has_x has_y.
      let b = has_map stretch_of (blocks_in t.last) x has_x in
      let d = has_map (own_stretch src) all y has_y in
      let from = t.of_decls b.0 b.1 in
      swapped x y (subst (λ (z : Stretch). Away z x) d.2 (subst (λ (z : Stretch). Away (own_stretch src d.0) z) b.2 (apart.both d.0 from.0 d.1 from.1 b.0 from.2))) in
      let bytes = few_bytes (length src.body) (stretches t.last ++ own) (away_both (stretches t.last) own (memory_away src t.last t.remembered) apart.declarations cross)
      (ends_both (length src.body) (stretches t.last) own (memory_ends src t.last t.remembered) (own_ends all apart.are_read)) in
      (t.last, t.steps, t.are, omega (arith, t.counted, bytes, sum_by-append byte_count (stretches t.last) own, bytes_are t.last))
    where
      swapped : (x y : Stretch) → Away y x → Away x y
      swapped x y (inl a) = inr a
      swapped x y (inr a) = inl a
