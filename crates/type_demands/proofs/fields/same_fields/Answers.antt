use Rattle.std.proofs.Common.{sym}
use Rattle.type_demands.proofs.ListLemmas.{uneven}
use Rattle.type_demands.proofs.fields.same_fields.Goals as goal

pub returns-then-left-right-clause-exact : goal.returns-then-left-right-clause-exact
returns-then-left-right-clause-exact c =
    sym (uneven c.args.home.now c.args.other.now c.args.left.now c.args.right.now c.if-left-right.true)
