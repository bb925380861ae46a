use Rattle.std.proofs.Common.{◌≡◌, ◌++◌, length}
use Rattle.std.specs.Vec.Iter.{into_iter_items, into_iter_len}
use Rattle.set_methods.specs.Pairs.{known}
use Rattle.set_methods.proofs.PairLemmas.{pairs_from, no_first}
use Rattle.set_methods.proofs.pairs.pairs_among.Given as goal

abbrev pub invariant-loop-method : goal.invariant-loop-method
invariant-loop-method l =
    record {
      same : l.pairs.items ++ pairs_from (known l.firsts.entries) (into_iter_items l.method-iterator) ≡ pairs_from no_first l.fn.methods.items;
      left : into_iter_len l.method-iterator ≡ length (into_iter_items l.method-iterator);
    }
