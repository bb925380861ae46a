use Rattle.explained_tables.proofs.TableLaws.{all}
use Rattle.explained_tables.proofs.laws.reached_all.Goals as goal

pub returns : goal.returns
returns g c = all g.T.Table.step
