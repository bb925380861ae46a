-- The numbers that nodes of an arena were given, as numbers of the types that the nodes denote.
use Rattle.std.specs.Prelude.{List}
use Rattle.type_terms.specs.declared.descriptors.Node.{Node}
use Rattle.decl_text.specs.declared.numbering.Numbering.{Numbering}
use Rattle.decl_text.specs.Numbers.{Numbers}
use Rattle.decl_text.specs.NodeNumbers.{numbered_at, AreThere}

abbrev pub numbers_at : List Node → Numbering → Numbers
numbers_at nodes numbering = record
    { types = numbered_at nodes numbering.numbers.entries; lines = numbering.lines.keys }

abbrev pub StandsIn : List Node → Numbering → Type 0
StandsIn nodes numbering = AreThere nodes numbering.numbers.entries
