use Rattle.std.proofs.Common.{List, subst, sym}
use Rattle.name_index.specs.declared.records.PackageRecord.{PackageRecord}
use Rattle.name_index.specs.Records.{IsSearchable}
use Rattle.name_index.proofs.HolderLemmas.{others_rise, no_other, other_found, if_none}
use Rattle.name_index.proofs.lookup.package_of_path.Goals as goal

pub find_titled-requires-clause-rising : goal.find_titled-requires-clause-rising
find_titled-requires-clause-rising c =
    others_rise c.args.own.now c.args.strings.now c.in_ok-others.field-0-0.now c.in_ok-others.others.now
    (subst (λ (rs : List PackageRecord). IsSearchable c.args.own.now c.args.strings.now rs) c.in_ok-others.ensures.cases.0 c.requires)

pub returns-in_err-place-clause-none : goal.returns-in_err-place-clause-none
returns-in_err-place-clause-none c =
    if_none _ c.from_residual-in_err-place.result
    (rw c.in_ok-others.ensures.cases.0 (no_other c.args.own.now c.args.strings.now c.in_ok-others.field-0-0.now c.in_ok-others.others.now c.args.path.now (sym c.if-eq.ensures) c.in_err-place.ensures.none))

pub returns-clause-found : goal.returns-clause-found
returns-clause-found c =
    rw c.in_ok-others.ensures.cases.0 (other_found c.args.own.now c.args.strings.now c.in_ok-others.field-0-0.now c.in_ok-others.others.now c.in_ok-place.place c.args.path.now c.in_ok-place.ensures.found)
