use Rattle.std.proofs.Common.{rules, ◌≡◌, true, false}
use Rattle.std.specs.Prelude.{slice_index_or}
use Rattle.std.proofs.lemmas.Result.{on_ok_weaker}
use Rattle.block_walk.proofs.FinishLemmas.{goes_placed, goes_put}
use Rattle.block_walk.proofs.finishing.finish.Goals as goal

pub returns-then-is_placed : goal.returns-then-is_placed
returns-then-is_placed c left =
    let is : slice_index_or c.args.section.now.placed.items c.args.id false ≡ true = search rules in
    goes_placed c.args.nodes.now.nodes c.args.own.now c.args.id c.args.section.now c.requires.room c.requires.there is left

pub returns : goal.returns
returns c =
    let is : slice_index_or c.args.section.now.placed.items c.args.id false ≡ false = search rules in
    on_ok_weaker c.put.result (λ put left. goes_put c.args.nodes.now.nodes c.args.own.now c.args.id c.args.section.now c.put.new.section put c.requires.room c.requires.there is left) c.put.ensures
