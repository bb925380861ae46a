use Rattle.std.proofs.Common.{◌≡◌, length}
use Rattle.std.specs.Vec.Iter.{into_iter_items, into_iter_len}
use Rattle.type_terms.specs.Additions.{Covers, AddsOnly}
use Rattle.type_terms.specs.Arenas.{Extends}
use Rattle.decl_reader.specs.Blocks.{table_of, AllInside}
use Rattle.decl_reader.specs.Finished.{known_after, types_after, AreInTurn}
use Rattle.decl_reader.proofs.nodes.descriptors.add_descriptors.Given as goal

-- what the nodes so far and the rest make known is what all do
abbrev pub invariant-loop-descriptor : goal.invariant-loop-descriptor
invariant-loop-descriptor l =
    let done = table_of l.arena.nodes l.table in
    let rest = into_iter_items l.descriptor-iterator in
    record {
      extends : Extends l.fn.arena l.arena;
      inside : AllInside (length l.arena.nodes) l.table;
      turn : AreInTurn l.version done rest;
      known : known_after l.version done rest ≡ known_after l.version (table_of l.fn.arena.nodes l.fn.table) l.fn.finished.items;
      covers : Covers (types_after l.version (table_of l.fn.arena.nodes l.fn.table) l.fn.finished.items) (types_after l.version done rest);
      adds : AddsOnly (types_after l.version (table_of l.fn.arena.nodes l.fn.table) l.fn.finished.items) l.fn.arena l.arena;
      left : into_iter_len l.descriptor-iterator ≡ length rest;
    }
