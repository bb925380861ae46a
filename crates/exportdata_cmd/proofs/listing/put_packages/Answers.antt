use Rattle.std.proofs.Common.{arith, sym, ◌∙◌, ap, refl, Err}
use Rattle.std.proofs.lemmas.Result.{err_from_is_err_and}
use Rattle.exportdata_cmd.specs.Listing.{lines_of_package}
use Rattle.exportdata_cmd.proofs.ListingLemmas.{package_there}
use Rattle.exportdata_cmd.proofs.PuttingLemmas.{puts_as, loop_goes_on, loop_stops}
use Rattle.exportdata_cmd.proofs.listing.put_packages.Goals as goal

pub returns-in_err-put_package : goal.returns-in_err-put_package
returns-in_err-put_package g c =
    let p = err_from_is_err_and c.from_residual.result c.from_residual.ensures.1 in
    let there = package_there c.args.image.now.packages c.loop-k.k (omega (arith, c.package_count-k-end.ensures)) in
    puts_as _ _ _ _ _ _ refl (p.1 ∙ ap Err p.2)
    (loop_stops lines_of_package c.args.image.now.packages _ _ _ c.loop-k.k there.0 _ there.1 c.loop-k.invariant
    (puts_as _ _ _ _ _ _ (sym there.2) refl c.in_err-put_package.ensures))

pub loop-k-preserved : goal.loop-k-preserved
loop-k-preserved g c =
    let there = package_there c.args.image.now.packages c.loop-k.k (omega (arith, c.package_count-k-end.ensures)) in
    loop_goes_on lines_of_package c.args.image.now.packages _ _ _ c.loop-k.k there.0 there.1 c.loop-k.invariant
    (puts_as _ _ _ _ _ _ (sym there.2) refl c.in_ok-put_package.ensures)
