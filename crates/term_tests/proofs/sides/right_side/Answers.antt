use Rattle.std.proofs.Common.{rules}
use Rattle.environments.specs.KeptLaws.{kept_by_declare}
use Rattle.term_tests.proofs.SideLemmas.{side_missing}
use Rattle.term_tests.proofs.sides.right_side.Goals as goal

pub returns-in-Ok-clause-kept : goal.returns-in-Ok-clause-kept
returns-in-Ok-clause-kept g c =
    let does = c.in-Ok.ensures in
    kept_by_declare c.args.q.now _ _ _ _ does.entries does.names does.packages does.asked does.extends does.adds

pub returns-in-Err-clause-exact : goal.returns-in-Err-clause-exact
returns-in-Err-clause-exact g c =
    side_missing (g.E.Env.entries c.args.env.now c.args.arena.now.nodes) c.args.q.now c.args.arena.now c.declare.new.arena (g.E.Env.full c.declare.new.self) c.in-Err.fault c.in-Err.ensures.answer
    (λ same. c.in-Err.ensures.outgrown (search rules))

pub returns-in-Err-clause-kept : goal.returns-in-Err-clause-kept
returns-in-Err-clause-kept g c =
    let does = c.in-Err.ensures in
    kept_by_declare c.args.q.now _ _ _ _ does.entries does.names does.packages does.asked does.extends does.adds
