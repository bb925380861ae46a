use Rattle.std.proofs.Common.{length}
use Rattle.declared_blocks.proofs.TellingLemmas.{underlying_there, kept_for, outgrown_for}
use Rattle.declared_blocks.proofs.telling.tell.Goals as goal

pub may_have_methods-requires : goal.may_have_methods-requires
may_have_methods-requires g c = underlying_there (length c.args.arena.now.nodes) c.args.decl.now _ _ _ _ c.in-Defined.is c.requires.there

pub returns-in-Constant-clause-kept : goal.returns-in-Constant-clause-kept
returns-in-Constant-clause-kept g c =
    kept_for (g.E.Env.entries c.args.env.now c.args.arena.now.nodes) c.args.arena.now.nodes c.args.decl.now _ c.in-Constant.is _ _ _ _ c.constant_told.ensures.kept

pub returns-in-Constant-clause-outgrown : goal.returns-in-Constant-clause-outgrown
returns-in-Constant-clause-outgrown g c wants =
    outgrown_for (g.E.Env.entries c.args.env.now c.args.arena.now.nodes) c.args.arena.now.nodes c.args.decl.now _ c.in-Constant.is _ (c.constant_told.ensures.outgrown wants)
