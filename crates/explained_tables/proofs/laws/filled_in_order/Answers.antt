use Rattle.explained_tables.proofs.TableLaws.{begins, goes_on}
use Rattle.explained_tables.proofs.laws.filled_in_order.Goals as goal

pub returns-clause-begins : goal.returns-clause-begins
returns-clause-begins g c = begins g.T.Table.step g.T.Table.needs g.T.Table.local

pub returns-clause-goes_on : goal.returns-clause-goes_on
returns-clause-goes_on g c = goes_on g.T.Table.step g.T.Table.needs g.T.Table.local
