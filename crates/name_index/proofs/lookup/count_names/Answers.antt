use Rattle.std.proofs.Common.{arith, ap, sym, length}
use Rattle.name_index.proofs.HolderLemmas.{some_of_all, total}
use Rattle.name_index.proofs.lookup.count_names.Goals as goal

pub overflow_cast-result : goal.overflow_cast-result
overflow_cast-result c =
    omega (arith, some_of_all c.args.packages.now _ c.in-Some.last.now (sym c.in-Some.ensures.value), ap length c.as_slice.ensures.value, c.requires.few)

pub overflow_add-result : goal.overflow_add-result
overflow_add-result c =
    omega (arith, total c.args.packages.now c.in-Some.last.now c.requires.numbered (sym c.in-Some.ensures.value), ap length c.as_slice.ensures.value, c.requires.few)

pub returns-in-Some : goal.returns-in-Some
returns-in-Some c =
    omega (arith, total c.args.packages.now c.in-Some.last.now c.requires.numbered (sym c.in-Some.ensures.value), ap length c.as_slice.ensures.value)
