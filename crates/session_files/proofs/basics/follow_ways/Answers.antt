use Rattle.std.proofs.Common.{◌∙◌, subst, arith}
use Rattle.session_files.specs.Ways.{AreWays}
use Rattle.session_files.proofs.WayLemmas.{nearer}
use Rattle.session_files.proofs.basics.follow_ways.Goals as goal

pub loop-reach-preserved : goal.loop-reach-preserved
loop-reach-preserved c =
    let inv = c.loop-reach.invariant in (
      c.double_ways.ensures.length ∙ inv.0,
      omega (arith, inv.1),
      λ within limit first. subst (λ n. AreWays within limit n c.double_ways.new.ways) (omega arith) (c.double_ways.ensures.ways within limit c.loop-reach.reach (inv.2 within limit first)),
    )

pub returns-clause-ways : goal.returns-clause-ways
returns-clause-ways c = λ within limit first. nearer within limit c.loop-reach.ways c.loop-reach.reach c.args.count (omega (arith, c.loop-reach-test.false)) (c.loop-reach.invariant.2 within limit first)
