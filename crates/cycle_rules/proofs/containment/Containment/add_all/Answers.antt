use Rattle.std.proofs.Common.{length, refl, arith}
use Rattle.std.proofs.lemmas.Option.{slice_get_read}
use Rattle.cycle_rules.specs.Containment.{IsPlaced}
use Rattle.cycle_rules.proofs.PlaceLemmas.{at_within}
use Rattle.cycle_rules.proofs.ContainmentLemmas.{only_twice, placed_grown, placed_more, size_more}
use Rattle.cycle_rules.proofs.containment.Containment.add_all.Goals as goal

pub loop-form-preserved : goal.loop-form-preserved
loop-form-preserved c =
    let forms = c.args.forms.now in
    let was = c.loop-form.invariant.only in
    let now = c.in_ok-add.ensures.only in
    let at = slice_get_read forms (length forms) c.loop-form.form-index c.form-item.result refl c.loop-form-test.true c.form-item.is in
    record {
      only = only_twice was now;
      placed = placed_more forms c.loop-form.form-index c.form-item.result at (λ k form. IsPlaced c.add.new.self.places c.args.owner form)
          (λ k form below there. placed_grown _ _ c.args.owner form now.places (c.loop-form.invariant.placed k form below there)) c.in_ok-add.ensures.placed;
      size = size_more forms c.loop-form.form-index c.form-item.result at c.loop-form.self.places c.add.new.self.places _ was.at c.in_ok-add.ensures.size c.loop-form.invariant.size;
    }

pub returns-clause-placed : goal.returns-clause-placed
returns-clause-placed c k form at = c.loop-form.invariant.placed k form (let w = at_within c.args.forms.now k form at in omega arith) at
