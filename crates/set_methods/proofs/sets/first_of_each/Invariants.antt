use Rattle.std.proofs.Common.{◌≡◌, [], length}
use Rattle.std.specs.Vec.Iter.{into_iter_items, into_iter_len}
use Rattle.set_methods.proofs.SetLemmas.{all_noted}
use Rattle.set_methods.proofs.sets.first_of_each.Given as goal

abbrev pub invariant-loop-method : goal.invariant-loop-method
invariant-loop-method l =
    record {
      same : all_noted l.found.entries (into_iter_items l.method-iterator) ≡ all_noted [] l.fn.methods.items;
      left : into_iter_len l.method-iterator ≡ length (into_iter_items l.method-iterator);
    }
