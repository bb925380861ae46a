use Rattle.std.proofs.Common.{◌∙◌, sym}
use Rattle.cycle_rules.specs.Containment.{rows_of}
use Rattle.cycle_rules.proofs.ContainmentLemmas.{unmarked_entry}
use Rattle.cycle_rules.proofs.containment.Containment.contains.Goals as goal

pub returns-clause-unmarked : goal.returns-clause-unmarked
returns-clause-unmarked c =
    rw (← c.self.view_is, ← c.deref.ensures.value)
    (λ unset. unmarked_entry (rows_of c.deref.result.now) c.args.owner c.args.index c.entry_at.result c.entry_at.ensures.found c.entry_at.ensures.none (sym c.unwrap_or.ensures ∙ unset))
