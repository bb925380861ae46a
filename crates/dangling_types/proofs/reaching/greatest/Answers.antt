use Rattle.std.proofs.lemmas.Option.{IfSome_then}
use Rattle.dangling_types.proofs.SearchLemmas.{all_less}
use Rattle.dangling_types.proofs.reaching.greatest.Goals as goal

pub returns-clause-below : goal.returns-clause-below
returns-clause-below c = IfSome_then c.pop_last.result c.pop_last.ensures.all_below (λ id all. all_less c.pop_last.new.self.keys id all)
