use Rattle.std.proofs.Common.{rules}
use Rattle.std.proofs.lemmas.Str.{encodes-chars}
use Rattle.go_lexer.proofs.lexing.place.Goals as goal

pub returns : goal.returns
returns c = let e = encodes-chars c.args.rest.now c.utf8.rest in rw e (search rules)
