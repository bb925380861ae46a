use Rattle.string_literals.proofs.Again.{read_found}
use Rattle.string_literals.proofs.literals.unquoted.Goals as goal

pub returns-clause-found : goal.returns-clause-found
returns-clause-found c = read_found c.args.literal.now c.read_literal.result c.read_literal.ensures
