use Rattle.const_values.proofs.Divisions.{at_most, greatest}
use Rattle.const_values.proofs.laws.shift_to_the_right.Goals as goal

pub returns-clause-at_most : goal.returns-clause-at_most
returns-clause-at_most c = at_most

pub returns-clause-greatest : goal.returns-clause-greatest
returns-clause-greatest c = greatest
