use Rattle.interface_opening.proofs.MeetingLemmas.{finds_only, finds_all}
use Rattle.type_sets.specs.TypeSets.{same_term, covers}
use Rattle.type_sets.proofs.SetLemmas.{term_itself}
use Rattle.type_sets.proofs.laws.terms_are_those_in_common.Goals as goal

pub returns-clause-only : goal.returns-clause-only
returns-clause-only c entries names = finds_only same_term (covers entries names) term_itself

pub returns-clause-all : goal.returns-clause-all
returns-clause-all c entries names = finds_all same_term (covers entries names) term_itself
