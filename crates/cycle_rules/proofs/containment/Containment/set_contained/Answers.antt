use Rattle.std.proofs.Common.{sym, subst}
use Rattle.cycle_rules.specs.Forms.{Owns, parameter}
use Rattle.cycle_rules.specs.Containment.{Findings, HasEntry, ArePlaced, rows_of}
use Rattle.cycle_rules.proofs.ContainmentLemmas.{marks_more}
use Rattle.cycle_rules.proofs.containment.Containment.set_contained.Goals as goal

pub invariant_of-self : goal.invariant_of-self
invariant_of-self c =
    let s = c.self.inside in
    let owns : Owns s.shapes.now c.args.owner (parameter c.args.index) = subst (λ (z : Findings). Owns z.shapes c.args.owner (parameter c.args.index)) (sym c.self.view_is) c.requires.owns in
    let entry : HasEntry (rows_of s.contained.items) c.args.owner c.args.index = subst (λ (z : Findings). HasEntry z.marks c.args.owner c.args.index) (sym c.self.view_is) c.requires.within in
    let passed = subst (λ (z : Findings). ArePlaced z c.args.owner c.args.index) (sym c.self.view_is) c.requires.passed in
    rw (c.set_entry.ensures entry.entries entry.from) (marks_more s.shapes.now (rows_of s.contained.items) s.places.items s.at (rows_of s.applications.items) (rows_of s.edges.items) c.self.invariant
    c.args.owner c.args.index entry.entries entry.from entry.within owns passed)
