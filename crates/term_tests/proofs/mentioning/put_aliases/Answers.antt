use Rattle.std.proofs.Common.{rules, ◌<◌, sym, arith}
use Rattle.term_tests.specs.Walks.{stack}
use Rattle.term_tests.proofs.MentionLemmas.{put_next}
use Rattle.term_tests.proofs.mentioning.put_aliases.Goals as goal

pub loop-left-preserved : goal.loop-left-preserved
loop-left-preserved c =
    let at = c.loop-left in
    let some : 0 < at.left = search rules in (
      put_next at.left c.args.found.now.keys c.in-Some.reference.now some (sym c.in-Some.ensures.key) _ _ (stack c.args.tasks.now.items) at.invariant.0 c.in_ok-put_alias.ensures,
      omega (arith, at.invariant.1),
    )
