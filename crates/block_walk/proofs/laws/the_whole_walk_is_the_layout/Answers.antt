use Rattle.block_walk.proofs.ComponentLemmas.{texts_are, paths_are, names_are, written_is}
use Rattle.block_walk.proofs.laws.the_whole_walk_is_the_layout.Goals as goal

pub returns-clause-texts : goal.returns-clause-texts
returns-clause-texts c = texts_are

pub returns-clause-paths : goal.returns-clause-paths
returns-clause-paths c = paths_are

pub returns-clause-names : goal.returns-clause-names
returns-clause-names c = names_are

pub returns-clause-written : goal.returns-clause-written
returns-clause-written c = written_is
