use Rattle.std.proofs.Common.{◌∙◌}
use Rattle.go_lexer.specs.Classes.{continues_name}
use Rattle.go_lexer.proofs.FrontBytes.{front_bytes}
use Rattle.go_lexer.proofs.words.name.Goals as goal

pub returns-clause-bytes : goal.returns-clause-bytes
returns-clause-bytes c = c.front.ensures ∙ front_bytes continues_name c.args.text.now c.after_run-rest.result.now c.utf8.text c.after_run-rest.utf8 c.after_run-rest.ensures.run
