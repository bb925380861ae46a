-- How the nodes of an arena are referred to.
use Rattle.std.specs.Prelude.{ℕ, length}
use Rattle.type_terms.specs.Trees.{Text}
use Rattle.decl_text.specs.declared.references.References.{References}
use Rattle.decl_text.specs.NodeNumbers.{node_reference}

abbrev pub refer : References → ℕ → Text
refer names = node_reference names.arena.now.nodes names.numbers.now.entries

abbrev pub node_count : References → ℕ
node_count names = length names.arena.now.nodes
