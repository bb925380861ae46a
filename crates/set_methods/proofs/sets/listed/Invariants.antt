use Rattle.std.proofs.Common.{◌≡◌, ◌++◌, map}
use Rattle.set_methods.specs.Sets.{method_of}
use Rattle.set_methods.proofs.sets.listed.Given as goal

abbrev pub invariant-loop-key : goal.invariant-loop-key
invariant-loop-key l = l.own.items ++ map method_of l.key-iterator ≡ map method_of l.fn.found.entries
