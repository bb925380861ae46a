use Rattle.std.proofs.Common.{length}
use Rattle.common_terms.specs.Comparing.{term_meant}
use Rattle.common_terms.proofs.FoundLemmas.{meet_adds, meet_within}
use Rattle.common_terms.proofs.meeting.meet.Goals as goal

pub returns-in-Ok-clause-exact : goal.returns-in-Ok-clause-exact
returns-in-Ok-clause-exact g c =
    let nodes = c.args.arena.now.nodes in
    meet_adds nodes c.told_apart.ensures (g.C.Covering.covered (g.E.Env.entries c.args.env.now nodes) (g.E.Env.names c.args.env.now)) (term_meant nodes c.args.x.now) (term_meant nodes c.args.y.now)
    c.in_ok-z.field-0 c.in-Some.z c.args.found.now.keys c.insert.new.self.keys c.in-Some.is c.in_ok-z.ensures.exact (c.in_ok-z.ensures.within (length nodes) c.requires.first c.requires.second)
    c.requires.found c.in-Ok.ensures.keys

pub returns-in-Ok-clause-within : goal.returns-in-Ok-clause-within
returns-in-Ok-clause-within g c n here there all =
    meet_within n c.in_ok-z.field-0 c.in-Some.z c.args.found.now.keys c.insert.new.self.keys c.in-Some.is (c.in_ok-z.ensures.within n here there) all c.in-Ok.ensures.keys
