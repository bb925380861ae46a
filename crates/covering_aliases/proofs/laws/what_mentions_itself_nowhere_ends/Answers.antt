use Rattle.covering_aliases.proofs.SoundLemmas.{ends_where_fine}
use Rattle.covering_aliases.proofs.laws.what_mentions_itself_nowhere_ends.Goals as goal

pub returns : goal.returns
returns c entries names are proper type whole is = ends_where_fine entries names are proper type whole is
