use Rattle.std.proofs.Common.{take}
use Rattle.std.specs.List.{AllByRecursion}
use Rattle.block_walk.specs.Labels.{Labels, IsLabelled}
use Rattle.block_walk.proofs.labels.label_all.Given as goal

abbrev pub invariant-loop-id : goal.invariant-loop-id
invariant-loop-id l =
    Labels l.nodes.nodes l.fn.numbers.items l.numbers.items × AllByRecursion (IsLabelled l.nodes.nodes l.numbers.items) (take l.id-index l.ids)
