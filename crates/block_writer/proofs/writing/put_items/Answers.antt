use Rattle.std.proofs.Common.{List, subst}
use Rattle.std.proofs.lemmas.List.{take_all}
use Rattle.position_codec.specs.Place.{no_place, place_at}
use Rattle.block_writer.specs.declared.items.Item.{Item as Put}
use Rattle.block_writer.specs.Putting.{PutsItems}
use Rattle.block_writer.proofs.PutLemmas.{behind_next, put_next}
use Rattle.block_writer.proofs.writing.put_items.Goals as goal

pub loop-item-preserved : goal.loop-item-preserved
loop-item-preserved c =
    let before = place_at c.loop-item.before.0.now c.loop-item.before.1.0 c.loop-item.before.1.1.0 in
    let after = place_at c.place_after-before.result.file.now c.place_after-before.result.line c.place_after-before.result.column in
    record {
      behind =
          behind_next c.args.items.now c.loop-item.item-index c.item-item.result c.item-item.result before after c.loop-item-test.true c.item-item.is c.loop-item.invariant.behind (λ type. c.place_after-before.ensures type);
      put =
          put_next c.args.own.now c.args.numbers.now c.args.items.now c.loop-item.item-index c.item-item.result c.item-item.result before c.args.strings.now c.loop-item.strings c.put_item.new.strings c.args.w.now c.loop-item.w c.put_item.new.w c.loop-item-test.true
          c.item-item.is c.loop-item.invariant.behind c.loop-item.invariant.put c.in_ok-put_item.ensures;
    }

pub returns : goal.returns
returns c =
    subst (λ (xs : List Put). PutsItems c.args.own.now c.args.numbers.now no_place xs c.args.strings.now c.loop-item.strings c.args.w.now c.loop-item.w) (take_all c.loop-item.item-index c.args.items.now c.loop-item-test.false) c.loop-item.invariant.put
