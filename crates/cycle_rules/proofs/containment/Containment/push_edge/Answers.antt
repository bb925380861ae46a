use Rattle.std.proofs.Common.{sym, subst}
use Rattle.cycle_rules.specs.Forms.{Owns, shape}
use Rattle.cycle_rules.specs.Containment.{Findings, rows_of}
use Rattle.cycle_rules.proofs.ContainmentLemmas.{joins}
use Rattle.cycle_rules.proofs.containment.Containment.push_edge.Goals as goal

pub invariant_of-self-2 : goal.invariant_of-self-2
invariant_of-self-2 c =
    let s = c.self.inside in
    let owns : Owns s.shapes.now c.args.owner (shape c.args.target) = subst (λ (z : Findings). Owns z.shapes c.args.owner (shape c.args.target)) (sym c.self.view_is) c.requires in
    let gained = c.in_ok-push_to.ensures.gained in
    rw gained.to (joins s.shapes.now (rows_of s.contained.items) s.places.items s.at (rows_of s.applications.items) (rows_of s.edges.items) c.self.invariant c.args.owner c.args.target gained.row gained.from owns)
