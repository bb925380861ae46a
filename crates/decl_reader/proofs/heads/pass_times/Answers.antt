use Rattle.decl_reader.proofs.PassTimesLemmas.{goes_on, stops, is_done}
use Rattle.decl_reader.proofs.heads.pass_times.Goals as goal

pub returns-in_err-find_number : goal.returns-in_err-find_number
returns-in_err-find_number c =
    rw c.from_residual.ensures (stops c.args.count c.loop.counter _ _ c.loop-test.true c.in_err-find_number.ensures c.loop.invariant)

pub loop-preserved : goal.loop-preserved
loop-preserved c = goes_on c.args.count c.loop.counter _ c.in_ok-find_number.field-0 _ _ c.loop-test.true c.in_ok-find_number.ensures c.loop.invariant

pub returns : goal.returns
returns c = is_done c.args.count c.loop.counter _ _ c.loop-test.false c.loop.invariant
