use Rattle.std.proofs.Common.{arith, ap, sym, refl, length}
use Rattle.std.proofs.lemmas.Option.{slice_get_read, slice_get_past}
use Rattle.name_index.proofs.HolderLemmas.{some_of_all, count_here, count_nowhere}
use Rattle.name_index.proofs.lookup.names.Goals as goal

pub overflow_cast-result : goal.overflow_cast-result
overflow_cast-result c =
    let at = slice_get_read c.args.packages.now _ c.args.k c.in-Some.package.now refl c.in-Some.ensures.lookup.3.0 c.in-Some.ensures.lookup.1 in
    omega (arith, some_of_all c.args.packages.now c.args.k c.in-Some.package.now at, ap length c.as_slice.ensures.value, c.requires)

pub returns-in-Some : goal.returns-in-Some
returns-in-Some c =
    let at = slice_get_read c.args.packages.now _ c.args.k c.in-Some.package.now refl c.in-Some.ensures.lookup.3.0 c.in-Some.ensures.lookup.1 in
    count_here c.args.packages.now c.args.k _ c.in-Some.package.now (sym at) (ap length c.as_slice.ensures.value)

pub returns-in-None : goal.returns-in-None
returns-in-None c = count_nowhere c.args.packages.now c.args.k (sym (slice_get_past c.args.packages.now c.args.k c.in-None.ensures.lookup.3))
