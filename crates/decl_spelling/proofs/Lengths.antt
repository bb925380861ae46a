-- The blocks that a declaration reaches, each once, and its own take no more than the data section.
use Rattle.std.proofs.Common.{◌≡◌, ℕ, suc, ◌+◌, ◌-◌, ◌<◌, ◌≤◌, inl, inr, List, [], ◌∷◌, length, sum_by, Contains, Bool, true, false, Ok, Option, Some, None, refl, ◌∙◌, ap, subst, arith}
use Rattle.std.specs.List.{flat_map}
use Rattle.std.proofs.lemmas.List.Sums.{sum_by-cons}
use Rattle.code_tables.specs.DeclTag.{decl_tag_code}
use Rattle.wire_bytes.specs.Reading.{place, ◌>>=◌}
use Rattle.wire_bytes.proofs.Steps.{bind_ok, done_is}
use Rattle.wire_bytes.proofs.Spellings.{IsBytes}
use Rattle.type_terms.specs.Declarations.{constant_of, defined_of, receiver_types}
use Rattle.decl_spelling.specs.declared.mention.Demand.TheVariants.{Any}
use Rattle.decl_spelling.specs.Sections.{Sections, Basics, window}
use Rattle.decl_spelling.specs.Spelled.{SpelledPos, SpelledType}
use Rattle.decl_spelling.specs.Reading.{Ahead, start, list_at}
use Rattle.decl_spelling.specs.Tables.{Finished, Table, at, type_spelled}
use Rattle.decl_spelling.specs.Descent.{block_at}
use Rattle.decl_spelling.specs.Constants.{basic_type, spelling_at, value_at}
use Rattle.decl_spelling.specs.Declarations.{FlatForm, Receiver, Head, whole, of_type, of_constant, head_at, receiver_at, resolved, has_methods, Read, read, methods_of, after_type, fault_alone, after_constant, after_head, read_at}
use Rattle.decl_spelling.specs.Grammar.{Here}
use Rattle.decl_spelling.specs.Spelling.{Block, Apart, here}
use Rattle.decl_spelling.specs.Asks.{Ask, asking}
use Rattle.decl_spelling.proofs.Took.{Fits, Went, IsHead, kind_of_head, head_asks, seen_from}
use Rattle.decl_spelling.proofs.FlatLaws.{head_took, receivers_took, value_took}
use Rattle.decl_spelling.proofs.ValueReaders.{kind_spelling}
use Rattle.decl_spelling.proofs.TableLaws.{Rising, block, blocks_of, finished_of, found_block, found_above, first_has, later_has}
use Rattle.decl_spelling.proofs.Windows.{part_length, byte_within, behind}
use Rattle.decl_spelling.proofs.TypeTakes.{Fine, Added, all_known}
use Rattle.decl_spelling.proofs.NewBlocks.{block_some}
use Rattle.decl_spelling.proofs.BlockTakes.{window_fits, here_is, block_takes}
use Rattle.decl_spelling.proofs.DeclTakes.{blank, resolved_ok, spelling_ok, fault_ok, fine_none}

-- ---- blocks in order

-- From a bound on each entry starts where the one before it ends, or behind.
abbrev Spaced : ℕ → Table → Type 0
Spaced low [] = Unit {0}
Spaced low (e ∷ es) = (low ≤ e.0) × (e.0 ≤ e.1.end) × Spaced e.1.end es

spaced : (low from : ℕ) (done : Table) → Rising from done → ((b : Block) → Contains (blocks_of done) b → (low ≤ b.start) × (b.start < b.end)) → Apart (blocks_of done) → Spaced low done
spaced low from [] rising each apart = tt
spaced low from (e ∷ es) rising each apart =
    let first = each (block e.0 e.1) (first_has (block e.0 e.1) (blocks_of es)) in
    (first.0, omega (arith, first.1), spaced e.1.end (suc e.0) es rising.1 behind_first (λ a b has_a has_b. apart a b (later a has_a) (later b has_b)))
  where
    later : (b : Block) → Contains (blocks_of es) b → Contains (blocks_of (e ∷ es)) b
    later b has = later_has (block e.0 e.1) b (blocks_of es) has

    behind_first : (b : Block) → Contains (blocks_of es) b → (e.1.end ≤ b.start) × (b.start < b.end)
    behind_first b has =
        let above : suc e.0 ≤ b.start = found_above es (suc e.0) b.start (finished_of b) rising.1 (found_block es (suc e.0) b rising.1 has) in
        let some : b.start < b.end = (each b (later b has)).1 in
        elim (apart (block e.0 e.1) b (first_has (block e.0 e.1) (blocks_of es)) (later b has)) [
          | inl same ↦ absurd (let start : e.0 ≡ b.start = ap (λ (x : Block). x.start) same in omega arith)
          | inr (inl ends) ↦ (ends, some)
          | inr (inr ends) ↦ absurd (omega arith)
        ]

abbrev pub block_length : ℕ × Finished → ℕ
block_length e = e.1.end - e.0

spaced_sum : (low limit : ℕ) (done : Table) → Spaced low done → low ≤ limit → ((b : Block) → Contains (blocks_of done) b → b.end ≤ limit) → sum_by block_length done + low ≤ limit
spaced_sum low limit [] apart le each = omega arith
spaced_sum low limit (e ∷ es) apart le each =
    let ends : e.1.end ≤ limit = each (block e.0 e.1) (first_has (block e.0 e.1) (blocks_of es)) in
    let rest : sum_by block_length es + e.1.end ≤ limit = spaced_sum e.1.end limit es apart.2 ends (λ b has. each b (later_has (block e.0 e.1) b (blocks_of es) has)) in
    omega (arith, sum_by-cons block_length e es, rest, apart.0, apart.1)

-- ---- where a declaration that was read lies

-- The types that it reaches end before it starts, and it ends in the data section.
pub record Lies (src : Sections) (offset : ℕ) (x : Read) : Type 0 where
  pub fine : Fine src x.table
  pub types : (o : ℕ) (f : Finished) → at x.table o ≡ Some f → f.end ≤ offset
  pub starts : src.body_at + offset ≤ x.end
  pub ends : x.end ≤ src.body_at + length src.body

-- what is ahead in the block of a declaration, and what is known so far
record LiesSoFar (src : Sections) (offset : ℕ) (a : Ahead) (done : Table) : Type 0 where
  end : a.spot.end ≡ src.body_at + length src.body
  left : length a.spot.left + offset ≤ length src.body
  fine : Fine src done
  types : (o : ℕ) (f : Finished) → at done o ≡ Some f → f.end ≤ offset

read_lies : (src : Sections) (offset : ℕ) (form : FlatForm) (value : Option ℕ) (a : Ahead) (done : Table) (x : Read) → LiesSoFar src offset a done → read form value a done ≡ Ok x → Lies src offset x
read_lies src offset form value a done x so_far e =
    subst (Lies src offset) (done_is (record { form = form; value = value; end = place a.spot; table = done }) x e)
    (record { fine = so_far.fine; types = so_far.types; starts = omega (arith, so_far.end, so_far.left); ends = omega (arith, so_far.end) })

-- as more is read, and more types are
lies_on : (src : Sections) (offset : ℕ) (a b : Ahead) (asks : List Ask) (done known : Table) → LiesSoFar src offset a done → Went a asks b → Added src offset done known → LiesSoFar src offset (blank b) known
lies_on src offset a b asks done known so_far went added = record {
  end = went.same_end ∙ so_far.end;
  left = omega (arith, went.frugal, so_far.left);
  fine = added.fine;
  types = λ o f found. elim (added.new o f found) [ inl before ↦ so_far.types o f before | inr ends ↦ ends ];
}

module _ (src : Sections) (basics : Basics) (strings : IsBytes src.strings) (bytes : IsBytes src.body) (offset : ℕ) (within : offset ≤ length src.body) where
  methods_lie : (pos : SpelledPos) (tparams : List SpelledType) (underlying : SpelledType) (a : Ahead) (done : Table) (x : Read) → Fits a → LiesSoFar src offset a done → (own : Bool) → after_type src offset pos tparams underlying a done own ≡ Ok x → Lies src offset x
  methods_lie pos tparams underlying a done x fits so_far true e =
      let both = bind_ok (resolved src offset (list_at (receiver_at src) a) done) (methods_of pos tparams underlying) x e in
      let list = resolved_ok src offset (list_at (receiver_at src) a) done both.0 both.1 in
      let taken = receivers_took src strings a fits (list.0).0 (list.0).1 list.1 in
      let types = all_known src (block_at src offset) (block_takes src strings bytes offset) offset within ((list.0).1).mentions done (both.0).1 so_far.fine list.2 in
      let so_far_then = lies_on src offset a (list.0).1 (asking Any (flat_map receiver_types (list.0).0)) done (both.0).1 so_far taken.went types.0 in
      read_lies src offset (defined_of pos tparams underlying (list.0).0) None (blank (list.0).1) (both.0).1 x so_far_then
      (ap (λ (z : List Receiver × Ahead). read (defined_of pos tparams underlying z.0) None z.1 (both.0).1) list.3 ∙ both.2)
  methods_lie pos tparams underlying a done x fits so_far false e = read_lies src offset (defined_of pos tparams underlying []) None a done x so_far e

  constant_lies : (pos : SpelledPos) (type : SpelledType) (at : ℕ) (a : Ahead) (done : Table) (x : Read) → Fits a → LiesSoFar src offset a done → after_constant src basics pos type at a done ≡ Ok x → Lies src offset x
  constant_lies pos type at a done x fits so_far e =
      let tree = type_spelled src.version done type in
      let chosen = bind_ok (spelling_at at (basic_type basics tree)) (λ spelling. fault_alone (value_at src spelling a) >>= λ value. read (constant_of pos type (value.0).value) (value.0).offset value.1 done) x e in
      let valued = bind_ok (fault_alone (value_at src chosen.0 a)) (λ value. read (constant_of pos type (value.0).value) (value.0).offset value.1 done) x chosen.2 in
      let basic = spelling_ok at (basic_type basics tree) chosen.0 chosen.1 in
      let taken = value_took src chosen.0 (kind_spelling basic.0 chosen.0 basic.2) strings a fits valued.0.0 valued.0.1 (fault_ok (value_at src chosen.0 a) valued.0 valued.1) in
      read_lies src offset (constant_of pos type (valued.0.0).value) (valued.0.0).offset valued.0.1 done x (record { end = taken.went.same_end ∙ so_far.end; left = omega (arith, taken.went.frugal, so_far.left); fine = so_far.fine; types = so_far.types }) valued.2

  after_lies : (head : Head) (a : Ahead) (done : Table) (x : Read) → Fits a → LiesSoFar src offset a done → after_head src basics offset head a done ≡ Ok x → Lies src offset x
  after_lies (whole form) a done x fits so_far e = read_lies src offset form None a done x so_far e
  after_lies (of_type pos tparams underlying) a done x fits so_far e = methods_lie pos tparams underlying a done x fits so_far (has_methods (type_spelled src.version done underlying)) e
  after_lies (of_constant pos type at) a done x fits so_far e = constant_lies pos type at a done x fits so_far e

module _ (src : Sections) (basics : Basics) (strings : IsBytes src.strings) (bytes : IsBytes src.body) (offset : ℕ) (x : Read) (e : read_at src basics offset ≡ Ok x) where
  pub decl_lies : Lies src offset x
  unfolding read_at
  decl_lies =
      let to = length src.body in
      let s = start (window src offset to) in
      let both = bind_ok (resolved src offset (head_at src s) []) (λ head. after_head src basics offset (head.0).0 (head.0).1 head.1) x e in
      let y = both.0 in
      let first = resolved_ok src offset (head_at src s) [] y both.1 in
      let head = (first.0).0 in
      let b = (first.0).1 in
      let taken = head_took src strings s (window_fits src offset to bytes) head b first.1 in
      let tail = behind src.body offset to in
      let stands : IsHead src (here src offset) head (seen_from b tail) = subst (λ (a : Here). IsHead src a head (seen_from b tail)) (here_is src offset to) (taken.stands tail) in
      let within : offset ≤ to = byte_within src.body offset (decl_tag_code (kind_of_head head)) stands.rest stands.kind in
      let wide : length s.spot.left ≡ to - offset = part_length src.body offset to (omega arith) in
      let types = all_known src (block_at src offset) (block_takes src strings bytes offset) offset within b.mentions [] y.1 (fine_none src) first.2 in
      let nothing : LiesSoFar src offset s [] = record { end = refl; left = omega arith; fine = fine_none src; types = λ o f found. absurd (cc) } in
      let so_far = lies_on src offset s b (head_asks head) [] y.1 nothing taken.went types.0 in
      after_lies src basics strings bytes offset within head (blank b) y.1 x (record { bytes = taken.went.fits.bytes; line = taken.went.fits.line; column = taken.went.fits.column }) so_far
      (ap (λ (z : Head × Ahead). after_head src basics offset z.0 z.1 y.1) first.3 ∙ both.2)

  -- the lengths of the blocks together
  pub decl_lengths : sum_by block_length x.table + (x.end - (src.body_at + offset)) ≤ length src.body
  decl_lengths =
      let lies = decl_lies in
      let each : (b : Block) → Contains (blocks_of x.table) b → (0 ≤ b.start) × (b.start < b.end) = λ b has. (omega arith, block_some src (blocks_of x.table) b (lies.fine.sound.each b has)) in
      let ends : (b : Block) → Contains (blocks_of x.table) b → b.end ≤ offset = λ b has. lies.types b.start (finished_of b) (found_block x.table 0 b lies.fine.rising has) in
      let types : sum_by block_length x.table + 0 ≤ offset = spaced_sum 0 offset x.table (spaced 0 0 x.table lies.fine.rising each lies.fine.sound.apart) (omega arith) ends in
      omega (arith, types, lies.starts, lies.ends)
