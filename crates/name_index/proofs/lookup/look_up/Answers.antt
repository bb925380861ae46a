use Rattle.std.proofs.Common.{arith, ap, refl, length}
use Rattle.std.proofs.lemmas.Option.{slice_get_read}
use Rattle.name_index.proofs.HolderLemmas.{name_found, no_path, no_name, names_inside, names_rise, room, if_none}
use Rattle.name_index.proofs.lookup.look_up.Goals as goal

pub returns-in_err-holder-clause-none : goal.returns-in_err-holder-clause-none
returns-in_err-holder-clause-none c = if_none _ c.from_residual.result (no_path c.args.own.now c.args.strings.now c.args.packages.now c.args.path.now c.args.name.now c.in_err-holder.ensures.none)

pub find_titled-requires-clause-inside : goal.find_titled-requires-clause-inside
find_titled-requires-clause-inside c =
    let at = slice_get_read c.args.packages.now _ c.in_ok-holder.holder c.index-packages-holder.result refl c.in_ok-holder.ensures.within c.index-packages-holder.is in
    rw c.as_slice-entries.ensures.value (names_inside c.args.own.now c.args.strings.now c.args.packages.now c.in_ok-holder.holder c.index-packages-holder.result c.requires at)

pub find_titled-requires-clause-rising : goal.find_titled-requires-clause-rising
find_titled-requires-clause-rising c =
    let at = slice_get_read c.args.packages.now _ c.in_ok-holder.holder c.index-packages-holder.result refl c.in_ok-holder.ensures.within c.index-packages-holder.is in
    rw c.as_slice-entries.ensures.value (names_rise c.args.own.now c.args.strings.now c.args.packages.now c.in_ok-holder.holder c.index-packages-holder.result c.requires at)

pub returns-in_err-place-clause-none : goal.returns-in_err-place-clause-none
returns-in_err-place-clause-none c =
    let at = slice_get_read c.args.packages.now _ c.in_ok-holder.holder c.index-packages-holder.result refl c.in_ok-holder.ensures.within c.index-packages-holder.is in
    if_none _ c.from_residual-in_err-place.result
    (no_name c.args.own.now c.args.strings.now c.args.packages.now c.in_ok-holder.holder c.index-packages-holder.result c.args.path.now c.args.name.now c.requires at c.in_ok-holder.ensures.found
    (rw (← c.as_slice-entries.ensures.value) c.in_err-place.ensures.none))

pub overflow_cast-result : goal.overflow_cast-result
overflow_cast-result c =
    let at = slice_get_read c.args.packages.now _ c.in_ok-holder.holder c.index-packages-holder.result refl c.in_ok-holder.ensures.within c.index-packages-holder.is in
    omega (arith, room c.args.packages.now c.in_ok-holder.holder c.index-packages-holder.result c.requires.numbered at, c.requires.few_names, c.in_ok-place.ensures.within, ap length c.as_slice-entries.ensures.value)

pub overflow_add-result : goal.overflow_add-result
overflow_add-result c =
    let at = slice_get_read c.args.packages.now _ c.in_ok-holder.holder c.index-packages-holder.result refl c.in_ok-holder.ensures.within c.index-packages-holder.is in
    omega (arith, room c.args.packages.now c.in_ok-holder.holder c.index-packages-holder.result c.requires.numbered at, c.requires.few_names, c.in_ok-place.ensures.within, ap length c.as_slice-entries.ensures.value)

pub returns-clause-found : goal.returns-clause-found
returns-clause-found c =
    let at = slice_get_read c.args.packages.now _ c.in_ok-holder.holder c.index-packages-holder.result refl c.in_ok-holder.ensures.within c.index-packages-holder.is in
    rw c.as_slice-entries.ensures.value
    (name_found c.args.own.now c.args.strings.now c.args.packages.now c.in_ok-holder.holder c.in_ok-place.place c.index-packages-holder.result c.args.path.now c.args.name.now _ c.requires.numbered at c.in_ok-holder.ensures.found
    (rw (← c.as_slice-entries.ensures.value) c.in_ok-place.ensures.found))
