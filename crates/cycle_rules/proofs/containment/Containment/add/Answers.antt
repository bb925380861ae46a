use Rattle.std.proofs.Common.{[], ◌∷◌, length, refl, sym, subst}
use Rattle.cycle_rules.specs.declared.containment.Place.{Place}
use Rattle.cycle_rules.specs.Containment.{Findings, Counts, rows_of}
use Rattle.cycle_rules.proofs.PlaceLemmas.{at-left, at-last}
use Rattle.cycle_rules.proofs.ContainmentLemmas.{added}
use Rattle.cycle_rules.proofs.containment.Containment.add.Goals as goal

pub invariant_of-self-2 : goal.invariant_of-self-2
invariant_of-self-2 c =
    let s = c.self.inside in
    let place : Place = record { owner = c.args.owner; form = c.args.form } in
    let counts : Counts s.shapes.now c.args.owner c.args.form.now = subst (λ (z : Findings). Counts z.shapes c.args.owner c.args.form.now) (sym c.self.view_is) c.requires.counts in
    rw c.in_ok-push.ensures.items (added s.shapes.now (rows_of s.contained.items) s.places.items s.at (rows_of s.applications.items) (rows_of s.edges.items) c.self.invariant place counts)

pub returns-clause-only : goal.returns-clause-only
returns-clause-only c =
    let place : Place = record { owner = c.args.owner; form = c.args.form } in
    rw (← c.self.view_is) (record {
      shapes = refl;
      marks = refl;
      at = refl;
      applications = refl;
      edges = refl;
      places = λ q p at. rw c.in_ok-push.ensures.items (at-left c.self.inside.places.items (place ∷ []) q p at);
    })

pub returns-clause-placed : goal.returns-clause-placed
returns-clause-placed c =
    let places = c.self.inside.places.items in
    let place : Place = record { owner = c.args.owner; form = c.args.form } in
    record { index = length places; place = place; at = rw c.in_ok-push.ensures.items (at-last places place); owned = refl; formed = refl }
