-- A descriptor that is opened: what its own bytes came to.
use Rattle.std.proofs.Common.{◌≡◌, ℕ, ◌+◌, ◌-◌, ◌<◌, ◌≤◌, cond, [], ◌∷◌, length, map, Result, Ok, Err, None, nat_lt, refl, sym, ap, subst, ◌∙◌, inl, inr, ◌⊎◌, arith, length-append, length-take-le, length-drop}
use Rattle.std.specs.Prelude.{nat_le, drop, take}
use Rattle.std.specs.List.{AllByRecursion}
use Rattle.std.proofs.lemmas.Bool.{cases_lt, lt-ltb, le-ltb, le-leb, lt-leb}
use Rattle.wire_bytes.proofs.Spellings.{IsBytes}
use Rattle.wire_bytes.specs.Reading.{place}
use Rattle.type_terms.specs.Shapes.{predeclared_of, named_of, parameter_of, alias_of, pointer_of, slice_of, array_of, chan_of, map_of, func_of, struct_of, interface_of, instance_of, union_of}
use Rattle.decl_spelling.specs.declared.mention.Mention.{Mention}
use Rattle.decl_spelling.specs.Sections.{Sections, window}
use Rattle.decl_spelling.specs.Reading.{Ahead, Stopped, start}
use Rattle.decl_spelling.specs.Descriptors.{Flat, flat_at}
use Rattle.decl_spelling.specs.Tables.{Table, free_to}
use Rattle.decl_spelling.specs.Descent.{offset_of}
use Rattle.decl_spelling.specs.Grammar.{Here, IsParts, IsDescriptor}
use Rattle.decl_spelling.specs.Asks.{ask_of, shape_asks}
use Rattle.decl_spelling.proofs.Took.{seen_from}
use Rattle.decl_spelling.proofs.FlatLaws.{flat_took, flat_few}
use Rattle.decl_spelling.proofs.NewBlocks.{descriptor_some}
use Rattle.decl_spelling.proofs.BlockTakes.{window_fits, offset_is}
use Rattle.decl_spelling.proofs.AskLemmas.{asks_from}
use Rattle.decl_spelling.proofs.Windows.{part, behind, part_length, cut_at}
use Rattle.wire_bytes.specs.declared.fault.ByteFault.{ByteFault}
use Rattle.file_parts.specs.declared.parts.Parts.{Parts}
use Rattle.decl_spelling.specs.Sections.{HoldsBytes}
use Rattle.decl_spelling.specs.Tables.{at}
use Rattle.decl_spelling.proofs.TableLaws.{free_within}
use Rattle.decl_spelling.proofs.DeclAtLaws.{strings_are, body_is}
use Rattle.block_reader.specs.declared.block.Block.{Block}
use Rattle.block_reader.specs.declared.descriptors.Flat.{Flat as FlatParts}
use Rattle.file_parts.specs.FileParts.{IsOfFile, body_of}
use Rattle.block_reader.specs.Calls.{ahead_of}
use Rattle.block_reader.specs.Parts.{flat_spelled}
use Rattle.decl_reader.specs.Opens.{IsBegun}
use Rattle.decl_reader.proofs.ResumeLemmas.{begins}
use Rattle.decl_reader.specs.Places.{HasRoom, IsStacked}
use Rattle.decl_reader.specs.Opens.{HasArgument}

-- ---- how far a descriptor may go

pub free_at_least : (o limit : ℕ) (done : Table) → o ≤ limit → o ≤ free_to o limit done
free_at_least o limit [] h = h
free_at_least o limit (e ∷ es) h = by (cases_lt o e.1.end) (free_at_least o limit es h)
  where
    begun : (o < e.0) ⊎ (e.0 ≤ o) → o ≤ cond (nat_le e.0 o) o (cond (nat_lt e.0 limit) e.0 limit)
    begun (inl later) = rw (lt-leb e.0 o later) (least (cases_lt e.0 limit))
      where
        least : (e.0 < limit) ⊎ (limit ≤ e.0) → o ≤ cond (nat_lt e.0 limit) e.0 limit
        least (inl less) = rw (lt-ltb e.0 limit less) (omega arith)
        least (inr more) = rw (le-ltb e.0 limit more) h
    begun (inr inside) = rw (le-leb e.0 o inside) (omega arith)

    by : (o < e.1.end) ⊎ (e.1.end ≤ o) → o ≤ free_to o limit es → o ≤ free_to o limit (e ∷ es)
    by (inl ends) rest = rw (lt-leb e.1.end o ends) (begun (cases_lt o e.0))
    by (inr ended) rest = rw (le-leb e.1.end o ended) rest

all_later : (end m : ℕ) (es : Table) (o : ℕ) → end ≤ m → AllByRecursion (λ e. m ≤ e.0) es → HasRoom o end es
all_later end m [] o h all = tt
all_later end m (e ∷ es) o h all = (inr (omega (arith, all.0)), all_later end m es o h all.1)

-- where it ends before what is taken, no finished descriptor has a byte of it
pub room_free : (o end limit : ℕ) (es : Table) → IsStacked es → o < end → end ≤ free_to o limit es → HasRoom o end es
room_free o end limit [] stacked some free = tt
room_free o end limit (e ∷ es) stacked some free = by (cases_lt o e.1.end) (λ f. room_free o end limit es stacked.2 some f)
  where
    rest : ℕ
    rest = free_to o limit es

    least : ℕ
    least = cond (nat_lt e.0 limit) e.0 limit

    below : (e.0 < limit) ⊎ (limit ≤ e.0) → end ≤ cond (nat_lt e.0 limit) e.0 limit → end ≤ e.0
    below (inl less) h = subst (λ n. end ≤ n) (ap (λ b. cond b e.0 limit) (lt-ltb e.0 limit less)) h
    below (inr more) h = let le : end ≤ limit = subst (λ n. end ≤ n) (ap (λ b. cond b e.0 limit) (le-ltb e.0 limit more)) h in omega arith

    begun : (o < e.0) ⊎ (e.0 ≤ o) → end ≤ cond (nat_le e.0 o) o (cond (nat_lt e.0 limit) e.0 limit) → o < e.1.end → HasRoom o end (e ∷ es)
    begun (inl later) h ends =
        let before : end ≤ e.0 = below (cases_lt e.0 limit) (subst (λ n. end ≤ n) (ap (λ b. cond b o (cond (nat_lt e.0 limit) e.0 limit)) (lt-leb e.0 o later)) h) in
        (inr before, all_later end e.1.end es o (omega (arith, stacked.0)) stacked.1)
    begun (inr inside) h ends =
        let no : end ≤ o = subst (λ n. end ≤ n) (ap (λ b. cond b o (cond (nat_lt e.0 limit) e.0 limit)) (le-leb e.0 o inside)) h in
        absurd (omega arith)

    by : (o < e.1.end) ⊎ (e.1.end ≤ o) → (end ≤ free_to o limit es → HasRoom o end es) → HasRoom o end (e ∷ es)
    by (inl ends) more = begun (cases_lt o e.0) (subst (λ n. end ≤ n) (ap (λ b. cond b (free_to o limit es) (cond (nat_le e.0 o) o (cond (nat_lt e.0 limit) e.0 limit))) (lt-leb e.1.end o ends)) free) ends
    by (inr ended) more = (inl ended, more (subst (λ n. end ≤ n) (ap (λ b. cond b (free_to o limit es) (cond (nat_le e.0 o) o (cond (nat_lt e.0 limit) e.0 limit))) (le-leb e.1.end o ended)) free))

-- ---- what was read

has_argument : (src : Sections) (x : Flat) (a b : Here) → IsParts src a x b → HasArgument x
has_argument src (predeclared_of basic) a b parts = tt
has_argument src (named_of name path) a b parts = tt
has_argument src (parameter_of name path) a b parts = tt
has_argument src (alias_of name path) a b parts = tt
has_argument src (pointer_of type) a b parts = tt
has_argument src (slice_of type) a b parts = tt
has_argument src (array_of size type) a b parts = tt
has_argument src (chan_of dir type) a b parts = tt
has_argument src (map_of key type) a b parts = tt
has_argument src (func_of home sig) a b parts = tt
has_argument src (struct_of home fields) a b parts = tt
has_argument src (interface_of home embedded methods) a b parts = tt
has_argument src (instance_of base args) a b parts = parts.6
has_argument src (union_of terms) a b parts = tt

module _ (src : Sections) (strings : IsBytes src.strings) (bytes : IsBytes src.body) (offset to : ℕ) (within : to ≤ length src.body) where
  abbrev from : Ahead
  from = start (window src offset to)

  pub record Whole (x : Flat) (b : Ahead) : Type 0 where
    pub asks : map ask_of b.mentions ≡ shape_asks x
    pub argument : HasArgument x
    pub begun : src.body_at ≤ place b.spot
    pub some : offset < offset_of src b
    pub ends : offset_of src b ≤ to
    pub few : length b.mentions ≤ length src.body

  pub whole : (x : Flat) (b : Ahead) → offset ≤ to → flat_at src from ≡ Ok (x, b) → Whole x b
  whole x b order e =
      let flat = flat_took src strings from (window_fits src offset to bytes) x b e in
      let tail = behind src.body offset to in
      let stands : IsDescriptor src (seen_from from tail) x (seen_from b tail) = flat.stands tail in
      let less : length b.spot.left < length (part src.body offset to)
      = omega (arith, descriptor_some src (seen_from from tail) x (seen_from b tail) stands, length-append (part src.body offset to) tail, length-append b.spot.left tail) in
      let cut = cut_at src.body offset to b.spot.left within less in
      let end : offset_of src b ≡ to - length b.spot.left = offset_is src b to flat.went.same_end cut.short in
      let size : length (part src.body offset to) ≡ to - offset = part_length src.body offset to within in
      let added : length b.mentions ≡ length flat.went.added = ap length flat.went.mentions in
      let frugal : length flat.went.added + length b.spot.left ≤ length (part src.body offset to) = flat.went.frugal in
      record {
        asks = asks_from from b (shape_asks x) refl flat.went;
        argument = has_argument src x stands.at_parts (seen_from b tail) stands.parts;
        begun = omega (arith, flat.went.same_end, cut.short);
        some = omega (arith, end, cut.some);
        ends = omega (arith, end);
        few = omega (arith, added, frugal, size);
      }

  pub few_mentions : (s : Stopped) → flat_at src from ≡ Err s → length s.mentions ≤ length src.body
  few_mentions s e =
      let few : length s.mentions ≤ length from.mentions + length (part src.body offset to) = flat_few src strings from (window_fits src offset to bytes) s e in
      omega (arith, part_length src.body offset to within, few)

-- ---- what is opened

pub body_length : (p : Parts) → IsOfFile p → length (body_of p) ≡ p.body_len
body_length p sections =
    let size : length (take (p.body_at + p.body_len - p.body_at) (drop p.body_at p.file.now)) ≡ p.body_at + p.body_len - p.body_at
    = length-take-le (p.body_at + p.body_len - p.body_at) (drop p.body_at p.file.now) (omega (arith, length-drop p.body_at p.file.now, sections.body_inside)) in
    size ∙ omega arith

module _ (src : Sections) (holds : HoldsBytes src) (done : Table) (stacked : IsStacked done) (holder : ℕ) (named : Mention)
    (large : 32 ≤ named.value) (before : named.value - 32 < holder) (within : holder ≤ length src.body) (none : at done (named.value - 32) ≡ None) where
  abbrev offset : ℕ
  offset = named.value - 32

  abbrev to : ℕ
  to = free_to offset holder done

  to_within : to ≤ holder
  to_within = free_within offset holder done (omega (arith, before))

  order : offset ≤ to
  order = free_at_least offset holder done (omega (arith, before))

  fits : to ≤ length src.body
  fits = omega (arith, to_within, within)

  pub begun_whole : (flat : FlatParts) (block : Block) (own : Result (FlatParts × ℕ) ByteFault) → flat_at src (start (window src offset to)) ≡ Ok (flat_spelled flat, ahead_of block)
      → own ≡ Ok (flat, offset_of src (ahead_of block)) → IsBegun src done holder named (record { start = offset; own = own; mentions = block.mentions; known = 0; named = named })
  begun_whole flat block own e own_is =
      let read = whole src (strings_are src holds) (body_is src holds) offset to fits (flat_spelled flat) (ahead_of block) order e in
      let room : HasRoom offset (offset_of src (ahead_of block)) done = room_free offset (offset_of src (ahead_of block)) holder done stacked read.some read.ends in
      let ends : offset_of src (ahead_of block) ≤ holder = omega (arith, read.ends, to_within) in
      let turn = begins src (length src.body) holder named done (Ok (flat_spelled flat, ahead_of block)) large before (omega (arith, before, within)) none e in
      subst (λ (x : Result (FlatParts × ℕ) ByteFault). IsBegun src done holder named (record { start = offset; own = x; mentions = block.mentions; known = 0; named = named })) (sym own_is)
      (record {
        fresh = refl;
        its_mention = refl;
        is_open = record {
          its_start = omega (arith, large);
          inside = omega (arith, before, within);
          ends = omega (arith, ends, within);
          few = read.few;
          some = omega arith;
          answered = tt;
          own = (read.asks, read.argument, read.some, room);
        };
        below = (before, ends);
        turn = turn;
      })

  pub begun_fault : (block : Block) (f : ByteFault) (own : Result (FlatParts × ℕ) ByteFault) → flat_at src (start (window src offset to)) ≡ Err (record { fault = f; mentions = block.mentions.items })
      → own ≡ Err f → IsBegun src done holder named (record { start = offset; own = own; mentions = block.mentions; known = 0; named = named })
  begun_fault block f own e own_is =
      let few : length block.mentions.items ≤ length src.body = few_mentions src (strings_are src holds) (body_is src holds) offset to fits (record { fault = f; mentions = block.mentions.items }) e in
      let turn = begins src (length src.body) holder named done (Err (record { fault = f; mentions = block.mentions.items })) large before (omega (arith, before, within)) none e in
      subst (λ (x : Result (FlatParts × ℕ) ByteFault). IsBegun src done holder named (record { start = offset; own = x; mentions = block.mentions; known = 0; named = named })) (sym own_is)
      (record {
        fresh = refl;
        its_mention = refl;
        is_open = record {
          its_start = omega (arith, large);
          inside = omega (arith, before, within);
          ends = tt;
          few = few;
          some = omega arith;
          answered = tt;
          own = tt;
        };
        below = (before, tt);
        turn = turn;
      })

  -- the same at an offset that is this one
  pub begun_whole_at : (start_at : ℕ) → offset ≡ start_at → (flat : FlatParts) (block : Block) (own : Result (FlatParts × ℕ) ByteFault) → flat_at src (start (window src start_at (free_to start_at holder done))) ≡ Ok (flat_spelled flat, ahead_of block)
      → own ≡ Ok (flat, offset_of src (ahead_of block)) → IsBegun src done holder named (record { start = start_at; own = own; mentions = block.mentions; known = 0; named = named })
  begun_whole_at start_at same flat block own =
      subst (λ (o : ℕ). flat_at src (start (window src o (free_to o holder done))) ≡ Ok (flat_spelled flat, ahead_of block) → own ≡ Ok (flat, offset_of src (ahead_of block))
      → IsBegun src done holder named (record { start = o; own = own; mentions = block.mentions; known = 0; named = named })) same (begun_whole flat block own)

  pub begun_fault_at : (start_at : ℕ) → offset ≡ start_at → (block : Block) (f : ByteFault) (own : Result (FlatParts × ℕ) ByteFault) → flat_at src (start (window src start_at (free_to start_at holder done))) ≡ Err (record { fault = f; mentions = block.mentions.items })
      → own ≡ Err f → IsBegun src done holder named (record { start = start_at; own = own; mentions = block.mentions; known = 0; named = named })
  begun_fault_at start_at same block f own =
      subst (λ (o : ℕ). flat_at src (start (window src o (free_to o holder done))) ≡ Err (record { fault = f; mentions = block.mentions.items }) → own ≡ Err f
      → IsBegun src done holder named (record { start = o; own = own; mentions = block.mentions; known = 0; named = named })) same (begun_fault block f own)
