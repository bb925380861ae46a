use Rattle.std.proofs.Common.{◌≡◌, ◌++◌, ◌∷◌, [], map}
use Rattle.std.proofs.lemmas.List.{map_push}
use Rattle.std.proofs.lemmas.Result.{err_from_is_err_and}
use Rattle.decl_spelling.specs.Spelled.{without_pos}
use Rattle.block_reader.proofs.TimesLemmas.{goes_on, ends, is_done}
use Rattle.block_reader.proofs.types.read_type_times.Goals as goal

pub returns-in_err-ty : goal.returns-in_err-ty
returns-in_err-ty c =
    let p = err_from_is_err_and c.from_residual.result c.from_residual.ensures.1 in
    rw (p.1, p.2) (ends c.in_err-ty.field-0.0 _ _ c.args.count c.loop.counter _ _ _ c.loop-test.true c.in_err-ty.ensures c.loop.invariant)

pub loop-preserved : goal.loop-preserved
loop-preserved c =
    let ty = c.in_ok-ty.ty in
    let pushed : map without_pos c.push.new.self.items ≡ map without_pos c.loop.types.items ++ without_pos ty ∷ [] = rw c.in_ok-push.ensures.items (map_push without_pos c.loop.types.items ty) in
    rw pushed (goes_on _ (map without_pos c.loop.types.items) c.args.count c.loop.counter _ (without_pos ty) _ _ c.loop-test.true c.in_ok-ty.ensures c.loop.invariant)

pub returns : goal.returns
returns c = is_done _ _ c.args.count c.loop.counter _ _ c.loop-test.false c.loop.invariant
