use Rattle.interface_opening.proofs.MeetingLemmas.{finds_only, finds_all}
use Rattle.interface_opening.proofs.laws.terms_in_common.Goals as goal

pub returns-clause-only : goal.returns-clause-only
returns-clause-only g c = finds_only g.O.Openable.same_term g.O.Openable.covered g.O.Openable.same_reflexive

pub returns-clause-all : goal.returns-clause-all
returns-clause-all g c = finds_all g.O.Openable.same_term g.O.Openable.covered g.O.Openable.same_reflexive
