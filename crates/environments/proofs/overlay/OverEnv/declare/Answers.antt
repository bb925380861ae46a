use Rattle.std.proofs.Common.{sym, ◌∙◌}
use Rattle.environments.specs.EntryLaws.{package_grown, over_grown, over_adds, over_outgrown}
use Rattle.environments.proofs.overlay.OverEnv.declare.Goals as goal

pub returns-else-eq-clause-entries : goal.returns-else-eq-clause-entries
returns-else-eq-clause-entries g c =
    over_grown _ _ c.args.arena.now c.declare.new.arena c.declare.ensures.extends c.requires.stands.0.decls _ _ c.declare.ensures.entries

pub returns-else-eq-clause-adds : goal.returns-else-eq-clause-adds
returns-else-eq-clause-adds g c =
    over_adds c.args.self.now.package.now.path c.args.self.now.package.now.decls.items c.args.arena.now.nodes (g.E.Env.entries c.args.self.now.base.now c.args.arena.now.nodes) c.args.q.now c.args.arena.now c.declare.new.arena (sym c.eq.ensures ∙ c.if-eq.false) c.declare.ensures.adds

pub returns-else-eq-clause-outgrown : goal.returns-else-eq-clause-outgrown
returns-else-eq-clause-outgrown g c = λ full.
    over_outgrown c.args.self.now.package.now.path c.args.self.now.package.now.decls.items c.args.arena.now.nodes (g.E.Env.entries c.args.self.now.base.now c.args.arena.now.nodes) c.args.q.now c.args.arena.now (sym c.eq.ensures ∙ c.if-eq.false) (c.declare.ensures.outgrown full)

pub returns-else-eq-clause-stands_after : goal.returns-else-eq-clause-stands_after
returns-else-eq-clause-stands_after g c =
    (package_grown _ c.args.arena.now c.declare.new.arena c.declare.ensures.extends c.requires.stands.0, c.declare.ensures.stands_after)
