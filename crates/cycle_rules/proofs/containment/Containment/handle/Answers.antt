use Rattle.std.proofs.Common.{◌+◌, ◌<◌, arith, ap, sym, subst}
use Rattle.cycle_rules.specs.Containment.{Findings, size_left}
use Rattle.cycle_rules.proofs.ContainmentLemmas.{size_next}
use Rattle.cycle_rules.proofs.containment.Containment.handle.Goals as goal

pub returns-clause-size : goal.returns-clause-size
returns-clause-size c =
    let old = c.args.self.now in
    let e = c.expand.new.self in
    let next = size_next e.places e.at c.args.place c.in_ok-expand.ensures.next.here in
    let size = c.in_ok-expand.ensures.size in
    let same = ap (size_left e.places) c.in_ok-expand.ensures.next.at in
    subst (λ (z : Findings). size_left z.places (z.at + 1) < size_left old.places old.at) (sym c.self.view_is) (omega arith)
