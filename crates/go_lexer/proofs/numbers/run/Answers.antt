use Rattle.std.proofs.Common.{◌∙◌}
use Rattle.std.specs.Str.{chars}
use Rattle.go_lexer.specs.Classes.{in_class}
use Rattle.go_lexer.proofs.FrontBytes.{front_bytes, ascii_front, digits_low}
use Rattle.go_lexer.proofs.numbers.run.Goals as goal

pub returns-clause-digits : goal.returns-clause-digits
returns-clause-digits c =
    c.front.ensures ∙ front_bytes (in_class c.args.class) c.args.text.now c.after_run-rest.result.now c.utf8.text c.after_run-rest.utf8 c.after_run-rest.ensures.run
    ∙ ascii_front (in_class c.args.class) (digits_low c.args.class c.requires) (chars c.args.text.now)
