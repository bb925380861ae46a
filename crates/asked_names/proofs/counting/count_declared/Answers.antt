use Rattle.asked_names.proofs.CountingLemmas.{count_is}
use Rattle.asked_names.proofs.counting.count_declared.Goals as goal

pub returns : goal.returns
returns c nodes entries are =
    count_is nodes entries c.args.names.now c.args.found.now c.in_ok-distinct.distinct.keys _ are c.in_ok-distinct.ensures c.len.ensures.len
