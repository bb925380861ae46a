use Rattle.std.proofs.Common.{◌≡◌, List, sum_by, slice_get, Some, arith, ap, subst}
use Rattle.cycle_rules.specs.declared.shapes.Form.{Form}
use Rattle.cycle_rules.specs.Counting.{form_count}
use Rattle.cycle_rules.proofs.FormCountLemmas.{form_count-Apply, form_count-Parts, form_count-Held, form_count-Stop}
use Rattle.cycle_rules.proofs.ContainmentLemmas.{counts_part}
use Rattle.cycle_rules.proofs.containment.Containment.expand.Goals as goal

pub add_all-requires : goal.add_all-requires
add_all-requires c = record {
  counts = λ k form at.
      let there : slice_get c.in-Parts.parts k ≡ Some form = subst (λ (l : List Form). slice_get l k ≡ Some form) c.as_slice-in-Parts.ensures at in
      counts_part c.args.self.now.shapes c.args.place.owner k c.args.place.form.now form c.in-Parts.parts c.requires.counts c.in-Parts.is there;
}

pub returns-in-Stop-clause-size : goal.returns-in-Stop-clause-size
returns-in-Stop-clause-size c = omega (arith, ap form_count c.in-Stop.is, form_count-Stop)

pub returns-in-Held-clause-size : goal.returns-in-Held-clause-size
returns-in-Held-clause-size c = omega (arith, ap form_count c.in-Held.is, form_count-Held c.in-Held.field-0)

pub returns-in_ok-add_application-in-Apply-clause-size : goal.returns-in_ok-add_application-in-Apply-clause-size
returns-in_ok-add_application-in-Apply-clause-size c =
    let size = c.in_ok-add_application-in-Apply.ensures.size in
    let same = ap (sum_by form_count) c.as_slice.ensures in
    omega (arith, ap form_count c.in-Apply.is, form_count-Apply c.in-Apply.applied c.in-Apply.arguments)

pub returns-in_ok-add_all-in-Parts-clause-size : goal.returns-in_ok-add_all-in-Parts-clause-size
returns-in_ok-add_all-in-Parts-clause-size c =
    let size = c.in_ok-add_all-in-Parts.ensures.size in
    let same = ap (sum_by form_count) c.as_slice-in-Parts.ensures in
    omega (arith, ap form_count c.in-Parts.is, form_count-Parts c.in-Parts.parts)
