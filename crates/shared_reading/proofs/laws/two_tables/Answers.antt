use Rattle.shared_reading.proofs.TwoTables.{joins_none, joins_more, found_both, free_both}
use Rattle.shared_reading.proofs.laws.two_tables.Goals as goal

pub returns-clause-found : goal.returns-clause-found
returns-clause-found c = found_both

pub returns-clause-free : goal.returns-clause-free
returns-clause-free c = free_both

pub returns-clause-begins : goal.returns-clause-begins
returns-clause-begins c = joins_none

pub returns-clause-goes_on : goal.returns-clause-goes_on
returns-clause-goes_on c = joins_more
