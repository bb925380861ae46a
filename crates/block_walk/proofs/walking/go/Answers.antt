use Rattle.std.proofs.Common.{sym, subst}
use Rattle.type_terms.specs.Denotation.{tree}
use Rattle.block_walk.specs.Standing.{left_steps, Goes}
use Rattle.block_walk.proofs.WalkingLemmas.{goes_again}
use Rattle.block_walk.proofs.walking.go.Goals as goal

pub loop-step-preserved : goal.loop-step-preserved
loop-step-preserved c =
    let nodes = c.args.nodes.now.nodes in
    let own = c.args.own.now in
    let type = tree nodes in
    let now = c.loop-step.section in
    let new = c.do_step.new.section in
    let after = left_steps type c.do_step.new.left.items in
    let does = c.in_ok-do_step.ensures in
    let goes = subst (λ xs. Goes nodes own now new (left_steps type xs) after) (sym c.in-Some.ensures.items) does.goes in
    (goes_again nodes own c.args.section.now now new (left_steps type c.args.left.items) (left_steps type c.loop-step.left.items) after c.loop-step.invariant.0 goes, does.there)
