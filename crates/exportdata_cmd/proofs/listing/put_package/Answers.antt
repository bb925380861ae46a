use Rattle.std.proofs.Common.{◌∷◌, [], ◌∙◌, ap, refl, Err}
use Rattle.std.proofs.lemmas.Result.{err_from_is_err_and}
use Rattle.exportdata_cmd.specs.Printed.{package_line}
use Rattle.exportdata_cmd.specs.Listing.{entries_at, name_lines}
use Rattle.exportdata_cmd.proofs.ListingLemmas.{found_package}
use Rattle.exportdata_cmd.proofs.PuttingLemmas.{puts_as, puts_then, puts_fewer}
use Rattle.exportdata_cmd.proofs.listing.put_package.Goals as goal

pub returns-in_err-put_heading : goal.returns-in_err-put_heading
returns-in_err-put_heading g c =
    let p = err_from_is_err_and c.from_residual.result c.from_residual.ensures.1 in
    let lines =
    found_package c.args.image.now.packages c.args.k c.in-Some.path.now c.in-Some.name.now c.in-Some.ensures in
    puts_as _ _ _ _ _ _ lines (p.1 ∙ ap Err p.2)
    (puts_fewer _ _ (package_line c.in-Some.path.now c.in-Some.name.now ∷ []) (name_lines (entries_at c.args.image.now.packages c.args.k)) _ c.in_err-put_heading.ensures)

pub returns : goal.returns
returns g c =
    let lines =
    found_package c.args.image.now.packages c.args.k c.in-Some.path.now c.in-Some.name.now c.in-Some.ensures in
    puts_as _ _ _ _ _ _ lines refl
    (puts_then _ _ _ (package_line c.in-Some.path.now c.in-Some.name.now ∷ []) _ _ c.in_ok-put_heading.ensures.whole c.put_names.ensures)
