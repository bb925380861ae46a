use Rattle.std.proofs.Common.{List}
use Rattle.type_terms.specs.declared.descriptors.Node.{Node}
use Rattle.dangling_references.specs.Dangling.{Entries}
use Rattle.dangling_types.specs.Findings.{AreRight}
use Rattle.dangling_types.proofs.FirstLemmas.{NoneUpTo}
use Rattle.dangling_types.proofs.looking.first_of.Given as goal

abbrev pub invariant-loop-id : goal.invariant-loop-id
invariant-loop-id l = (entries : Entries) (nodes : List Node) → AreRight entries nodes l.known.entries → NoneUpTo entries nodes l.ids l.id-index
