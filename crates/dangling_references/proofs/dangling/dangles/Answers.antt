use Rattle.dangling_references.proofs.DanglingLemmas.{given_dangles}
use Rattle.dangling_references.proofs.dangling.dangles.Goals as goal

pub returns-in-Ok-clause-exact : goal.returns-in-Ok-clause-exact
returns-in-Ok-clause-exact g c =
    let meets = rw c.decl.ensures at (c.meets_role.ensures c.declare.new.arena.nodes) in
    given_dangles c.args.reference.now.role _ _ c.meets_role.result c.in-Ok.ensures.answer.0 meets
