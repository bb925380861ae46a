use Rattle.std.proofs.Common.{sym, rules}
use Rattle.std.specs.Int.{w128}
use mir.Val.{SFits}
use Rattle.source_trees.proofs.LiteralLaws.{ok_found, wide_again, none_again}
use Rattle.source_trees.proofs.literals.whole_literal.Goals as goal

pub returns-in-Ok : goal.returns-in-Ok
returns-in-Ok c = let fits : SFits w128 c.in-Ok.value = search rules in ok_found c.args.bytes.now c.in-Ok.value fits c.in-Ok.ensures.found

pub returns-in-Err-Wide : goal.returns-in-Err-Wide
returns-in-Err-Wide c = sym (wide_again c.args.bytes.now (rw c.in-Err-Wide.field-0-is at c.in-Err-Wide.ensures.fault))

pub returns-in-Err-NotALiteral : goal.returns-in-Err-NotALiteral
returns-in-Err-NotALiteral c = sym (none_again c.args.bytes.now (rw c.in-Err-NotALiteral.field-0-is at c.in-Err-NotALiteral.ensures.fault))
