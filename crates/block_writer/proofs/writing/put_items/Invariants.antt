use Rattle.std.proofs.Common.{take}
use Rattle.position_codec.specs.Place.{no_place, place_at}
use Rattle.block_writer.specs.Putting.{PutsItems}
use Rattle.block_writer.proofs.PutLemmas.{IsBehind}
use Rattle.block_writer.proofs.writing.put_items.Given as goal

abbrev pub invariant-loop-item : goal.invariant-loop-item
invariant-loop-item l = record {
  behind : IsBehind (place_at l.before.0.now l.before.1.0 l.before.1.1.0) (take l.item-index l.items);
  put : PutsItems l.own l.numbers no_place (take l.item-index l.items) l.fn.strings l.strings l.fn.w l.w;
}
