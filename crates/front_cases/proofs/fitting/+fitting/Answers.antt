use Rattle.std.proofs.Common.{subst}
use Rattle.std.proofs.lemmas.Bool.{ltb-true}
use Rattle.cycle_rules.specs.Forms.{stop, held, applied, parts}
use Rattle.cycle_rules.proofs.PlaceLemmas.{at_some}
use Rattle.front_cases.specs.Fitting.{AllFit}
use Rattle.front_cases.proofs.fitting.+fitting.Goals as goal

pub form_fits-returns-in-Stop : goal.form_fits-returns-in-Stop
form_fits-returns-in-Stop t c _ = rw c.in-Stop.is stop

pub form_fits-returns-in-Held : goal.form_fits-returns-in-Held
form_fits-returns-in-Held t c below =
    rw c.in-Held.is (held c.in-Held.index (ltb-true c.in-Held.index c.args.params below))

pub form_fits-returns-else-place-shapes : goal.form_fits-returns-else-place-shapes
form_fits-returns-else-place-shapes t c fit =
    let shapes = c.args.shapes.now in
    let place = c.in-Apply.applied in
    let of = at_some shapes place c.if-place-shapes.false in
    let each = subst (AllFit shapes c.args.params) c.as_slice.ensures (c.all_fit.ensures fit) in
    rw c.in-Apply.is (applied place c.in-Apply.arguments of.0 of.1 each)

pub form_fits-returns-in-Parts : goal.form_fits-returns-in-Parts
form_fits-returns-in-Parts t c fit =
    let each = subst (AllFit c.args.shapes.now c.args.params) c.as_slice-in-Parts.ensures (c.all_fit-in-Parts.ensures fit) in
    rw c.in-Parts.is (parts c.in-Parts.parts each)
