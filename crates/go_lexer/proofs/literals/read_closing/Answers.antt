use Rattle.std.proofs.Common.{rules, ◌∙◌, sym}
use Rattle.std.specs.Str.{chars}
use Rattle.go_lexer.proofs.Shorter.{element_shorter, closing_goes, closing_ends}
use Rattle.go_lexer.specs.Literals.{closing_of}
use Rattle.go_lexer.proofs.literals.read_closing.Goals as goal

pub loop-after-smaller : goal.loop-after-smaller
loop-after-smaller c = element_shorter (chars c.loop-after.rest.now) (chars c.in-Goes.after.now) (sym c.in-Goes.ensures)

pub loop-after-preserved : goal.loop-after-preserved
loop-after-preserved c = (search rules, closing_goes (chars c.loop-after.rest.now) (chars c.in-Goes.after.now) (sym c.in-Goes.ensures) ∙ c.loop-after.invariant.1)

pub returns-in-Ends : goal.returns-in-Ends
returns-in-Ends c = closing_ends (chars c.loop-after.rest.now) (closing_of c.in-Ends.closing) (sym c.in-Ends.ensures) ∙ c.loop-after.invariant.1
