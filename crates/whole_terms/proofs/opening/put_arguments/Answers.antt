use Rattle.std.proofs.Common.{rules, ◌<◌, sym, arith}
use Rattle.whole_terms.specs.Looks.{stack}
use Rattle.whole_terms.proofs.PutLemmas.{argument_put}
use Rattle.whole_terms.proofs.opening.put_arguments.Goals as goal

pub loop-left-preserved : goal.loop-left-preserved
loop-left-preserved c =
    let at = c.loop-left in
    let some : 0 < at.left = search rules in (
      argument_put c.args.tparams.now c.args.args.now at.left c.args.looks.now.keys c.in-Some.q.now some (sym c.in-Some.ensures.key) _ _ (stack c.args.tasks.now.items) at.invariant.0 c.in_ok-put_argument.ensures,
      omega (arith, at.invariant.1),
    )
