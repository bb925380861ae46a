use Rattle.std.proofs.Common.{get_or, sym}
use Rattle.std.proofs.lemmas.Option.{slice_get-get_or}
use Rattle.name_index.proofs.HolderLemmas.{entry_found, entry_missing}
use Rattle.name_index.proofs.lookup.entry.Goals as goal

pub returns-in_err-name : goal.returns-in_err-name
returns-in_err-name c =
    let at = slice_get-get_or c.args.packages.now c.in_ok-holder.holder c.index-packages-holder.result c.in_ok-holder.ensures.found.within in
    rw c.from_residual-in_err-name.ensures
    (entry_missing c.args.own.now c.args.strings.now c.args.packages.now c.args.k c.in_ok-holder.holder (get_or c.args.packages.now c.in_ok-holder.holder c.index-packages-holder.result) c.requires.numbered c.in_ok-holder.ensures.found at c.in_err-name.ensures)

pub returns : goal.returns
returns c =
    let at = slice_get-get_or c.args.packages.now c.in_ok-holder.holder c.index-packages-holder.result c.in_ok-holder.ensures.found.within in
    sym
    (entry_found c.args.own.now c.args.strings.now c.args.packages.now c.args.k c.in_ok-holder.holder (get_or c.args.packages.now c.in_ok-holder.holder c.index-packages-holder.result) (c.in_ok-path.path.now, c.in_ok-path.field-0-1.now) (c.in_ok-name.name.now, c.in_ok-name.offset) c.requires.numbered c.in_ok-holder.ensures.found at c.in_ok-path.ensures c.in_ok-name.ensures)
