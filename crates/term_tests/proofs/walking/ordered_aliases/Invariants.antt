use Rattle.type_terms.specs.Denotation.{tree}
use Rattle.environments.specs.Kept.{world, Kept}
use Rattle.term_tests.specs.Mentions.{IsMentioned, OpensMentioned}
use Rattle.term_tests.specs.Walks.{view}
use Rattle.term_tests.proofs.WalkLemmas.{IsWalking}
use Rattle.term_tests.proofs.StepLemmas.{weight}
use Rattle.term_tests.proofs.walking.ordered_aliases.Given as goal

abbrev pub invariant-loop-task : goal.invariant-loop-task
invariant-loop-task g l =
    let entries = g.E.Env.entries l.fn.env l.fn.arena.nodes in
    let type = tree l.fn.arena.nodes l.fn.node in
    IsWalking entries (g.E.Env.names l.fn.env) type (view l.walk)
    × Kept (IsMentioned entries type) (OpensMentioned entries type)
    (world entries (g.E.Env.names l.fn.env) (g.E.Env.packages l.fn.env) (g.E.Env.asked l.fn.env))
    (world (g.E.Env.entries l.env l.arena.nodes) (g.E.Env.names l.env) (g.E.Env.packages l.env) (g.E.Env.asked l.env))
    l.fn.arena l.arena
    × g.E.Env.stands l.env l.arena.nodes

abbrev pub decreases-loop-task : goal.decreases-loop-task
decreases-loop-task g l = weight (g.E.Env.names l.fn.env) (view l.walk)
