use Rattle.explained_tables.proofs.TableLaws.{one}
use Rattle.explained_tables.proofs.laws.one_table.Goals as goal

pub returns : goal.returns
returns g c = one g.T.Table.step g.T.Table.needs g.T.Table.local
