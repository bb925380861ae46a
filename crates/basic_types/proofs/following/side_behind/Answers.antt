use Rattle.std.proofs.Common.{rules}
use Rattle.environments.specs.KeptLaws.{kept_by_declare, outgrown_by_declare}
use Rattle.basic_types.proofs.SideLemmas.{gives_side}
use Rattle.basic_types.proofs.following.side_behind.Goals as goal

pub returns-in-Ok-clause-gives : goal.returns-in-Ok-clause-gives
returns-in-Ok-clause-gives g c =
    gives_side _ c.args.q.now c.declare.new.arena (g.E.Env.full c.declare.new.self) c.in-Ok.given c.decl.result.now c.side_of.result c.in-Ok.ensures.answer c.decl.ensures c.side_of.ensures

pub returns-in-Ok-clause-kept : goal.returns-in-Ok-clause-kept
returns-in-Ok-clause-kept g c =
    let does = c.in-Ok.ensures in
    kept_by_declare c.args.q.now _ _ _ _ does.entries does.names does.packages does.asked does.extends does.adds

pub returns-in-Err-clause-kept : goal.returns-in-Err-clause-kept
returns-in-Err-clause-kept g c =
    let does = c.in-Err.ensures in
    kept_by_declare c.args.q.now _ _ _ _ does.entries does.names does.packages does.asked does.extends does.adds

pub returns-in-Err-clause-outgrown : goal.returns-in-Err-clause-outgrown
returns-in-Err-clause-outgrown g c err = outgrown_by_declare (g.E.Env.entries c.args.env.now c.args.arena.now.nodes) c.args.q.now c.args.arena.now (c.in-Err.ensures.outgrown (search rules))
