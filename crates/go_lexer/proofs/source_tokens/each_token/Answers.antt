use Rattle.go_lexer.proofs.TokenTexts.{all_rise, all_are, some_bytes}
use Rattle.go_lexer.proofs.source_tokens.each_token.Goals as goal

pub returns : goal.returns
returns c = record { rise = all_rise; each = all_are; some = some_bytes }
