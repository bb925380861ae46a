use Rattle.std.proofs.Common.{◌-◌, get_or, refl, arith}
use Rattle.std.proofs.lemmas.Map.Text.{hash_map_updates_str}
use Rattle.source_scopes.specs.Tables.{name_of, number_in}
use Rattle.source_scopes.proofs.TableLaws.{turn}
use Rattle.source_scopes.proofs.table.numbers_of.Goals as goal

pub loop-left-preserved : goal.loop-left-preserved
loop-left-preserved g c =
    let x = get_or c.args.items.now (c.loop-left.left - 1) c.index-items-left.result in (
      turn name_of c.args.items.now c.loop-left.left x c.index-items-left.result (number_in c.loop-left.numbers) (number_in c.insert.new.self) c.loop-left-test.true c.loop-left.invariant.1 refl
          c.loop-left.invariant.0 (hash_map_updates_str x.name.now c.loop-left.numbers c.insert.new.self _ c.in_ok-insert.ensures.updates),
      omega (arith, c.loop-left.invariant.1),
    )
