use Rattle.std.proofs.Common.{◌≡◌, ◌++◌}
use Rattle.common_terms.proofs.meeting.listed.Given as goal

abbrev pub invariant-loop-term : goal.invariant-loop-term
invariant-loop-term l = l.terms.items ++ l.term-iterator ≡ l.fn.found.keys
