use Rattle.std.proofs.Common.{◌≡◌, ◌++◌, take}
use Rattle.std.specs.List.{flat_map}
use Rattle.type_terms.proofs.parts.push_all.Given as goal

abbrev pub invariant-loop-holder : goal.invariant-loop-holder
invariant-loop-holder g l = l.into.items ≡ l.fn.into.items ++ flat_map g.T.Holder.types (take l.holder-index l.holders)
