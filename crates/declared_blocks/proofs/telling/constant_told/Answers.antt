use Rattle.std.proofs.Common.{rules}
use Rattle.declared_blocks.proofs.TellingLemmas.{told_basic}
use Rattle.declared_blocks.proofs.telling.constant_told.Goals as goal

pub returns-in-Ok-clause-answer : goal.returns-in-Ok-clause-answer
returns-in-Ok-clause-answer g c =
    told_basic (g.E.Env.entries c.args.env.now c.args.arena.now.nodes) (g.E.Env.names c.args.env.now)
    ((g.met.E.Env c.lifetimes (search rules)).finite c.args.env.now c.args.arena.now.nodes)
    (c.as_many_heads_as_names_are_enough.ensures _ _) _ c.basic_type.new.arena (g.E.Env.full c.basic_type.new.env) c.in-Ok.basic c.in-Ok.ensures.answer
