use Rattle.std.proofs.Common.{length, refl, subst, arith}
use Rattle.std.proofs.lemmas.Option.{slice_get_read}
use Rattle.cycle_rules.specs.Containment.{Findings, Counts}
use Rattle.cycle_rules.proofs.containment.Containment.next.Goals as goal

pub returns-then-self-len-clause-counts : goal.returns-then-self-len-clause-counts
returns-then-self-len-clause-counts c =
    let s = c.self.inside in
    let place = c.index.result.now in
    let at = slice_get_read s.places.items (length s.places.items) s.at place refl (omega (arith, c.len.ensures, s.places.ok.0)) c.index.ensures in
    subst (λ (z : Findings). Counts z.shapes place.owner place.form.now) c.self.view_is (c.self.invariant.sound s.at place at)
