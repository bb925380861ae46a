use Rattle.std.proofs.Common.{ap, sym, ◌∙◌, ◌++◌, map}
use Rattle.source_places.specs.Places.{earlier}
use Rattle.repeated_names.specs.Firsts.{first_of_two, first}
use Rattle.repeated_names.specs.Repeats.{clashes}
use Rattle.repeated_names.proofs.FirstLaws.{first_append}
use Rattle.source_walk.specs.Rows.{written_parsed}
use Rattle.source_walk.specs.Visits.{files_visits}
use Rattle.source_names.specs.Duplicates.{imports_named, package_duplicates}
use Rattle.source_names.specs.Names.{files_named}
use Rattle.source_names.proofs.PlaceLaws.{joined_found}
use Rattle.source_names.proofs.duplicates.first_duplicate.Goals as goal

pub returns : goal.returns
returns g c =
    let files = map written_parsed c.args.files.now in
    let clash = clashes (files_named 0 files) (imports_named (g.P.Packages.names c.args.packages.now) 0 files) in
    c.earlier.ensures ∙ ap (λ k. earlier k c.in_ok-inner.inner) c.found.ensures
    ∙ joined_found c.args.cause c.first_of_two-outer.result c.in_ok-inner.inner (clash ++ package_duplicates files) (files_visits files)
    (c.first_of_two-outer.ensures ∙ ap (first_of_two c.in_ok-clash.clash) c.first_other_package.ensures ∙ ap (λ k. first_of_two k (first (package_duplicates files))) c.in_ok-clash.ensures ∙ sym (first_append clash (package_duplicates files)))
    c.in_ok-inner.ensures
