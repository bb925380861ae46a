use Rattle.std.proofs.Common.{◌≡◌, List, Bool, ap, ◌∙◌, sym, subst}
use Rattle.cycle_rules.specs.declared.containment.Place.{Place}
use Rattle.cycle_rules.specs.Containment.{Findings, IsMarked, IsListed}
use Rattle.cycle_rules.proofs.ContainmentLemmas.{owns_applied, gains_listed, gains_arrow, handled_apply}
use Rattle.cycle_rules.proofs.containment.Containment.add_application.Goals as goal

pub push_application-requires-clause-applies : goal.push_application-requires-clause-applies
push_application-requires-clause-applies c =
    let only = c.in_ok-add_contained.ensures.only in
    let owns = owns_applied c.args.self.now.shapes c.args.place.owner c.args.applied c.args.place.form.now c.args.arguments.now c.requires.counts c.requires.form in
    record {
      arguments = c.args.arguments.now;
      formed = c.requires.form;
      owns = rw only.shapes owns;
      passed = λ j form mark at. c.in_ok-add_contained.ensures.placed j form (subst (λ (l : List (List Bool)). IsMarked l c.args.applied j) only.marks mark) at;
    }

pub push_edge-requires : goal.push_edge-requires
push_edge-requires c =
    let only = c.in_ok-add_contained.ensures.only in
    let owns = owns_applied c.args.self.now.shapes c.args.place.owner c.args.applied c.args.place.form.now c.args.arguments.now c.requires.counts c.requires.form in
    rw (ap (λ (z : Findings). z.shapes) c.in_ok-push_application.ensures.same ∙ only.shapes) owns

pub returns-clause-handled : goal.returns-clause-handled
returns-clause-handled c =
    let e = c.push_edge.new.self in
    let listed = gains_listed c.in_ok-push_application.ensures.listed in
    let kept : e.applications ≡ c.push_application.new.self.applications = ap (λ (z : Findings). z.applications) c.in_ok-push_edge.ensures.same in
    handled_apply e c.args.place c.args.applied c.args.arguments.now c.requires.form (gains_arrow c.in_ok-push_edge.ensures.edges) (subst (λ (l : List (List Place)). IsListed l c.args.applied c.args.place) (sym kept) listed)
