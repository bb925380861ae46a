use Rattle.go_lexer.proofs.Readings.{one_list, not_both, one_fault, one_of_both}
use Rattle.go_lexer.proofs.lexing.one_reading.Goals as goal

pub returns : goal.returns
returns c = record { tokens = one_list; apart = not_both; fault = one_fault; some = one_of_both }
