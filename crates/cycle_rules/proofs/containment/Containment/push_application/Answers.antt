use Rattle.std.proofs.Common.{◌≡◌, sym, subst, arith, length, Some, slice_get, ap}
use Rattle.std.proofs.lemmas.List.{length-map}
use Rattle.cycle_rules.specs.Containment.{Findings, IsSound, Applies, rows_of}
use Rattle.cycle_rules.proofs.FitsLemmas.{same_Apply}
use Rattle.cycle_rules.proofs.ContainmentLemmas.{applied_within, lists}
use Rattle.cycle_rules.proofs.containment.Containment.push_application.Goals as goal

pub push_to-requires : goal.push_to-requires
push_to-requires c =
    let s = c.self.inside in
    let now = c.args.self.now in
    let sound : IsSound now = subst IsSound c.self.view_is c.self.invariant in
    let counts = sound.sound now.at c.args.place c.requires.at in
    let within = applied_within now c.args.place c.args.applied c.requires.applies.arguments counts c.requires.applies.formed in
    let sized = sound.applications_sized in
    let same = ap (λ (z : Findings). length z.applications) c.self.view_is in
    let long = length-map s.applications.items (λ r. r.items) in
    omega arith

pub invariant_of-self-2 : goal.invariant_of-self-2
invariant_of-self-2 c =
    let s = c.self.inside in
    let place = c.args.place in
    let applies : Applies (record { shapes = s.shapes.now; marks = rows_of s.contained.items; places = s.places.items; at = s.at; applications = rows_of s.applications.items; edges = rows_of s.edges.items }) place c.args.applied =
    subst (λ (z : Findings). Applies z place c.args.applied) (sym c.self.view_is) c.requires.applies in
    let here : slice_get s.places.items s.at ≡ Some place = subst (λ (z : Findings). slice_get z.places z.at ≡ Some place) (sym c.self.view_is) c.requires.at in
    let gained = c.in_ok-push_to.ensures.gained in
    rw gained.to (lists s.shapes.now (rows_of s.contained.items) s.places.items s.at (rows_of s.applications.items) (rows_of s.edges.items) c.self.invariant
    c.args.applied gained.row place applies.arguments gained.from s.at here applies.formed applies.passed (λ u others e. (same_Apply place.form.now u c.args.applied others applies.arguments e applies.formed).1))
