use Rattle.std.proofs.Common.{◌≡◌, ◌++◌, length, map}
use Rattle.std.specs.List.{flat_map}
use Rattle.std.specs.Vec.Iter.{into_iter_items, into_iter_len}
use Rattle.type_terms.specs.Additions.{Covers, AddsOnly}
use Rattle.type_terms.specs.Arenas.{AllBelow, Extends}
use Rattle.type_terms.specs.Denotation.{tree}
use Rattle.decl_reader.specs.Meant.{named_by}
use Rattle.decl_reader.proofs.nodes.kept.all_with_nodes.Given as goal

-- what is kept, with what the rest means, is what all mean
abbrev pub invariant-loop-part : goal.invariant-loop-part
invariant-loop-part g l =
    let t = g.T.Kept in
    let named = named_by l.version l.fn.arena.nodes l.table in
    record {
      extends : Extends l.fn.arena l.arena;
      within : AllBelow (length l.arena.nodes) (flat_map t.types (map t.item_shape l.kept.items));
      meant : map (t.meant (tree l.arena.nodes)) (map t.item_shape l.kept.items) ++ map (t.meant named) (map t.shape (into_iter_items l.part-iterator)) ≡ map (t.meant named) (map t.shape l.fn.parts.items);
      covers : Covers (map named (flat_map t.types (map t.shape l.fn.parts.items))) (map named (flat_map t.types (map t.shape (into_iter_items l.part-iterator))));
      adds : AddsOnly (map named (flat_map t.types (map t.shape l.fn.parts.items))) l.fn.arena l.arena;
      left : into_iter_len l.part-iterator ≡ length (into_iter_items l.part-iterator);
    }
