-- The name that a node is.
use Rattle.std.specs.Prelude.{List, [], ◌∷◌}
use Rattle.go_values.specs.declared.qualified.QName.{QName}
use Rattle.type_terms.specs.declared.descriptors.Node.{Node}
use Rattle.type_terms.specs.declared.descriptors.Node.TheVariants.{Named, Param, AliasName}

abbrev pub node_names : Node → List QName
node_names (Named q) = q ∷ []
node_names (Param q) = q ∷ []
node_names (AliasName q) = q ∷ []
node_names _ = []
