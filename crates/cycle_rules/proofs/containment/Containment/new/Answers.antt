use Rattle.cycle_rules.specs.Containment.{rows_of}
use Rattle.cycle_rules.proofs.ContainmentLemmas.{begins}
use Rattle.cycle_rules.proofs.containment.Containment.new.Goals as goal

pub invariant_of-result : goal.invariant_of-result
invariant_of-result c =
    begins c.args.shapes.now (rows_of c.in_ok-unmarked.field-0.items) c.in_ok-whole_forms.field-0.items (rows_of c.in_ok-empty_rows.field-0.items) (rows_of c.in_ok-empty_rows-2.field-0.items)
    c.requires.fits c.in_ok-unmarked.ensures c.in_ok-whole_forms.ensures c.in_ok-empty_rows.ensures c.in_ok-empty_rows-2.ensures
