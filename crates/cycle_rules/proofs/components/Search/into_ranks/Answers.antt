use Rattle.std.proofs.Common.{◌≡◌, map}
use Rattle.std.proofs.lemmas.Result.{IfOk-weaker}
use Rattle.cycle_rules.specs.Search.{edges_of, RanksComponents, rank_in}
use Rattle.cycle_rules.proofs.SearchLemmas.{ends}
use Rattle.cycle_rules.proofs.components.Search.into_ranks.Goals as goal

pub returns : goal.returns
returns c =
    let self = c.args.self in
    IfOk-weaker c.ranks_in.result (λ ranks. ranks.items ≡ map rank_in c.deref.result.now) (λ ranks. RanksComponents (edges_of self) ranks.items)
    (λ ranks same.
    let found = ends (edges_of self) self.marks.items self.stack.items self.pending.items self.bounds.items self.rank c.requires.search c.requires.pending c.requires.bounds in
    rw (same, c.deref.ensures.value) found)
    c.ranks_in.ensures
