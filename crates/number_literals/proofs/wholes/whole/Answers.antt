use Rattle.std.specs.Int.{w128}
use Rattle.std.proofs.lemmas.Int.{to_z_pos}
use Rattle.number_literals.proofs.Laws.{is_found, is_fault}
use Rattle.number_literals.proofs.wholes.whole.Goals as goal

pub returns-in-Ok-clause-found : goal.returns-in-Ok-clause-found
returns-in-Ok-clause-found c =
    let h = is_found c.args.literal.now c.in-Ok.value c.in-Ok.ensures in
    (c.in-Ok.value, h.0, to_z_pos w128 c.in-Ok.value h.1)

pub returns-in-Err-clause-fault : goal.returns-in-Err-clause-fault
returns-in-Err-clause-fault c = is_fault c.args.literal.now c.in-Err.fault c.in-Err.ensures
