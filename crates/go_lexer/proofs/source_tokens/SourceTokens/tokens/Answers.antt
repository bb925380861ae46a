use Rattle.std.proofs.Common.{sym, subst}
use Rattle.go_lexer.specs.TokenGrammar.{IsLexed}
use Rattle.go_lexer.specs.TokenTexts.{Lexed}
use Rattle.go_lexer.proofs.TokenTexts.{all_are}
use Rattle.go_lexer.proofs.source_tokens.SourceTokens.tokens.Goals as goal

pub returns-clause-each : goal.returns-clause-each
returns-clause-each c =
    all_are c.args.self.now.source c.deref.result.now
    (subst (λ (v : Lexed). IsLexed v.source c.deref.result.now) c.self.view_is
    (subst (IsLexed c.self.inside.source.now) (sym c.deref.ensures.value) c.self.invariant.lexed))
