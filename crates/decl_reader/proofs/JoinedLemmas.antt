-- A descriptor joins those that were read whole.
use Rattle.std.proofs.Common.{◌≡◌, ℕ, ◌+◌, ◌-◌, ◌<◌, ◌≤◌, ◌⊎◌, List, [], ◌∷◌, ◌++◌, length, Contains, min, sym, ap, subst, ◌∙◌, arith, length-append}
use Rattle.std.specs.Option.{option_or}
use Rattle.type_terms.specs.Trees.{Tree}
use Rattle.decl_spelling.specs.Tables.{Finished, Table, at, free_to, with_block}
use Rattle.decl_spelling.specs.Spelling.{Block}
use Rattle.decl_spelling.proofs.MapLemmas.{all_weaker}
use Rattle.decl_spelling.proofs.TableLaws.{Rising, block, blocks_of, found_all, found_block, first_has, later_has}
use Rattle.shared_reading.specs.Memory.{InOrder, Joins}
use Rattle.shared_reading.proofs.MemoryLemmas.{in_order_rises}
use Rattle.shared_reading.proofs.TwoTables.{joins_none, joins_more, found_both, free_both}
use Rattle.decl_reader.specs.declared.finished.Descriptor.{Descriptor}
use Rattle.decl_reader.specs.declared.places.Place.{Place}
use Rattle.decl_reader.specs.Finished.{type_of, joined, known_after, type_at, MayJoin}
use Rattle.decl_reader.specs.Places.{PlaceEntry, placed_as, placed_of, with_place, EndsBy, HasRoom, IsStacked, bytes_of}
use Rattle.decl_reader.specs.Progress.{IsReady, Counts}
use Rattle.decl_reader.proofs.EntryLemmas.{added_table, added_below, below_more, added_ends, added_stacked, added_bytes}
use Rattle.decl_reader.proofs.FinishedLemmas.{known_last, turn_last, type_of_last, places_stay}

-- ---- tables

pub stacked_order : (t : Table) → IsStacked t → InOrder t
stacked_order [] stacked = tt
stacked_order (e ∷ es) stacked =
    (all_weaker (λ later. e.1.end ≤ later.0) (λ later. e.0 < later.0) (λ later le. omega (arith, le, stacked.0)) es stacked.1, stacked_order es stacked.2)

-- what is free of some is free of a part of them
room_part : (from to : ℕ) (some all : Table) → Rising 0 all → ((b : Block) → Contains (blocks_of some) b → Contains (blocks_of all) b) → HasRoom from to all → HasRoom from to some
room_part from to [] all rising more room = tt
room_part from to (e ∷ es) all rising more room =
    let b : Block = block e.0 e.1 in (
      found_all (λ x. (x.1.end ≤ from) ⊎ (to ≤ x.0)) all e.0 e.1 room (found_block all 0 b rising (more b (first_has b (blocks_of es)))),
      room_part from to es all rising (λ c has. more c (later_has b c (blocks_of es) has)) room,
    )

-- ---- what is known

module _ (version limit : ℕ) (memory : Table) (ds : List Descriptor) (es : List PlaceEntry) (stacked : IsStacked memory) (ready : IsReady version limit memory ds es) where
  abbrev its_own : Table
  its_own = placed_of (type_at version memory ds) es

  abbrev all_known : Table
  all_known = known_after version memory ds

  pub found_known : (o : ℕ) → at all_known o ≡ option_or (at memory o) (at its_own o)
  found_known o =
      found_both memory its_own all_known (stacked_order memory stacked) (stacked_order its_own ready.stacked_own) (stacked_order all_known ready.stacked) ready.joins o

  pub free_known : (o to : ℕ) → o ≤ to → free_to o to all_known ≡ min (free_to o to memory) (free_to o to its_own)
  free_known o to le =
      free_both memory its_own all_known (stacked_order memory stacked) (stacked_order its_own ready.stacked_own) (stacked_order all_known ready.stacked) ready.joins o to le

-- ---- one more

pub joined_known : (version : ℕ) (memory : Table) (ds after : List Descriptor) (d : Descriptor) → after ≡ ds ++ d ∷ [] → known_after version memory after ≡ joined version (known_after version memory ds) d
joined_known version memory ds after d is = ap (known_after version memory) is ∙ known_last version memory ds d

pub same_ready : (version limit : ℕ) (memory : Table) (ds ds' : List Descriptor) (es es' : List PlaceEntry) → ds' ≡ ds → es' ≡ es → IsReady version limit memory ds es → IsReady version limit memory ds' es'
same_ready version limit memory ds ds' es es' same same_places ready =
    subst (λ (xs : List Descriptor). IsReady version limit memory xs es') (sym same) (subst (IsReady version limit memory ds) (sym same_places) ready)

module _ (version limit : ℕ) (memory : Table) (ds : List Descriptor) (es : List PlaceEntry) (d : Descriptor) (ready : IsReady version limit memory ds es) (may : MayJoin version (known_after version memory ds) d) (some : d.start < d.end)
    (inside : d.end ≤ limit) (room : HasRoom d.start d.end (known_after version memory ds)) where
  abbrev done : Table
  done = known_after version memory ds

  abbrev own : Table
  own = placed_of (type_at version memory ds) es

  abbrev fin : Finished
  fin = record { end = d.end; tree = type_of version done d }

  abbrev place : Place
  place = record { end = d.end; index = length ds }

  abbrev more : List Descriptor
  more = ds ++ d ∷ []

  own_is : placed_of (type_at version memory more) (with_place es d.start place) ≡ with_block own d.start fin
  own_is =
      added_table (placed_as (type_at version memory more)) es d.start place
      ∙ ap (λ (t : Table). with_block t d.start (placed_as (type_at version memory more) place)) (places_stay version memory ds d es ready.inside)
      ∙ ap (λ (t : Tree). with_block own d.start (record { end = d.end; tree = t })) (type_of_last version memory ds d)

  longer : length more ≡ length ds + 1
  longer = length-append ds (d ∷ [])

  room_own : HasRoom d.start d.end own
  room_own = room_part d.start d.end own done (in_order_rises done (stacked_order done ready.stacked)) ready.joins.second room

  joins : Joins memory (with_block own d.start fin) (with_block done d.start fin)
  joins = joins_more memory own done (stacked_order own ready.stacked_own) (stacked_order done ready.stacked) ready.joins d.start fin may.new

  pub joined_ready : (after : List Descriptor) (places : List PlaceEntry) → after ≡ more → places ≡ with_place es d.start place → IsReady version limit memory after places
  joined_ready after places is at =
      let table = known_last version memory ds d in
      subst (λ (xs : List Descriptor). IsReady version limit memory xs places) (sym is)
      (subst (IsReady version limit memory more) (sym at)
      (record {
        joins = subst (λ (t : Table). Joins memory t (known_after version memory more)) (sym own_is) (subst (Joins memory (with_block own d.start fin)) (sym table) joins);
        stacked_own = subst IsStacked (sym own_is) (added_stacked d.start fin some own ready.stacked_own room_own);
        inside = added_below (λ (p : Place). p.index) (length more) es d.start place (below_more (λ (p : Place). p.index) (length ds) (length more) es (omega (arith, longer)) ready.inside) (omega (arith, longer));
        ends = subst (EndsBy limit) (sym table) (added_ends limit done d.start fin ready.ends inside);
        stacked = subst IsStacked (sym table) (added_stacked d.start fin some done ready.stacked room);
        turn = turn_last version memory ds d ready.turn may;
      }))

  pub joined_counts : (after : List Descriptor) (old new : ℕ) → after ≡ more → new ≡ old + (d.end - d.start) → Counts old done new (known_after version memory after)
  joined_counts after old new is risen =
      let table = ap bytes_of (ap (known_after version memory) is ∙ known_last version memory ds d) in
      omega (arith, risen, table, added_bytes d.start fin some done ready.stacked room)

-- at first none was read
pub none_ready : (version limit : ℕ) (memory : Table) (ds : List Descriptor) (es : List PlaceEntry) → IsStacked memory → EndsBy limit memory → ds ≡ [] → es ≡ [] → IsReady version limit memory ds es
none_ready version limit memory ds es stacked ends none none_placed =
    subst (λ (xs : List Descriptor). IsReady version limit memory xs es) (sym none)
    (subst (IsReady version limit memory []) (sym none_placed) (record { joins = joins_none memory; stacked_own = tt; inside = tt; ends = ends; stacked = stacked; turn = tt }))
