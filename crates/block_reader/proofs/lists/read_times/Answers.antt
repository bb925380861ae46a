use Rattle.std.proofs.Common.{◌≡◌, ◌++◌, ◌∷◌, [], map}
use Rattle.std.proofs.lemmas.List.{map_push}
use Rattle.std.proofs.lemmas.Result.{err_from_is_err_and}
use Rattle.block_reader.proofs.TimesLemmas.{goes_on, ends, is_done}
use Rattle.block_reader.proofs.lists.read_times.Goals as goal

pub returns-in_err-item : goal.returns-in_err-item
returns-in_err-item g c =
    let p = err_from_is_err_and c.from_residual.result c.from_residual.ensures.1 in
    rw (p.1, p.2) (ends c.in_err-item.field-0.0 _ _ c.args.count c.loop.counter _ _ _ c.loop-test.true c.in_err-item.ensures c.loop.invariant)

pub loop-preserved : goal.loop-preserved
loop-preserved g c =
    let shape = g.T.Listed.shape in
    let item = c.in_ok-item.item in
    let pushed : map shape c.push.new.self.items ≡ map shape c.loop.items.items ++ shape item ∷ [] = rw c.in_ok-push.ensures.items (map_push shape c.loop.items.items item) in
    rw pushed (goes_on _ (map shape c.loop.items.items) c.args.count c.loop.counter _ (shape item) _ _ c.loop-test.true c.in_ok-item.ensures c.loop.invariant)

pub returns : goal.returns
returns g c = is_done _ _ c.args.count c.loop.counter _ _ c.loop-test.false c.loop.invariant
