use Rattle.go_lexer.proofs.Readings.{is_found, is_only, is_fault, is_met}
use Rattle.go_lexer.proofs.lexing.tokens.Goals as goal

pub returns-clause-found : goal.returns-clause-found
returns-clause-found c = is_found c.read_tokens.result c.args.src.now c.read_tokens.ensures

pub returns-clause-only : goal.returns-clause-only
returns-clause-only c items h = is_only c.read_tokens.result c.args.src.now items h c.read_tokens.ensures

pub returns-clause-fault : goal.returns-clause-fault
returns-clause-fault c = is_fault c.read_tokens.result c.args.src.now c.read_tokens.ensures

pub returns-clause-met : goal.returns-clause-met
returns-clause-met c f h = is_met c.read_tokens.result c.args.src.now f h c.read_tokens.ensures
