use Rattle.go_lexer.proofs.NumberAgain.{number_again}
use Rattle.go_lexer.proofs.NumberTaken.{number_takes}
use Rattle.go_lexer.proofs.numbers.number_literals.Goals as goal

pub returns : goal.returns
returns c = record { taken = λ text rest kind owes e. number_takes text kind owes rest e; read = λ text kind h. number_again kind text h }
