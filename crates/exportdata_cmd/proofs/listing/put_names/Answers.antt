use Rattle.std.proofs.Common.{◌≤◌, length, Err, ◌∙◌, ap, arith}
use Rattle.std.proofs.lemmas.Result.{err_from_is_err_and}
use Rattle.exportdata_cmd.specs.Listing.{entries_at}
use Rattle.exportdata_cmd.proofs.ListingLemmas.{line_of_name, name_lines_are, found_name, count_there}
use Rattle.exportdata_cmd.proofs.PuttingLemmas.{puts_as, loop_goes_on, loop_stops, loop_ends}
use Rattle.exportdata_cmd.proofs.listing.put_names.Goals as goal

pub returns-in_err-put_name : goal.returns-in_err-put_name
returns-in_err-put_name g c =
    let p = err_from_is_err_and c.from_residual.result c.from_residual.ensures.1 in
    let entries = entries_at c.args.image.now.packages c.args.k in
    let found =
    found_name c.args.image.now.packages c.args.k c.loop-j.j c.in-Some.name.now c.in-Some.offset c.in-Some.ensures.exact in
    puts_as _ _ _ _ _ _ (name_lines_are entries) (p.1 ∙ ap Err p.2)
    (loop_stops line_of_name entries _ _ _ c.loop-j.j _ _ found c.loop-j.invariant c.in_err-put_name.ensures)

pub loop-j-preserved : goal.loop-j-preserved
loop-j-preserved g c =
    let found =
    found_name c.args.image.now.packages c.args.k c.loop-j.j c.in-Some.name.now c.in-Some.offset c.in-Some.ensures.exact in
    loop_goes_on line_of_name (entries_at c.args.image.now.packages c.args.k) _ _ _ c.loop-j.j _ found c.loop-j.invariant c.in_ok-put_name.ensures

pub returns : goal.returns
returns g c =
    let entries = entries_at c.args.image.now.packages c.args.k in
    let count = c.names_in-j-end.ensures ∙ count_there c.args.image.now.packages c.args.k in
    let all : length entries ≤ c.loop-j.j = omega (arith, count) in
    rw (name_lines_are entries)
    (loop_ends line_of_name entries _ _ c.loop-j.j all c.loop-j.invariant)
