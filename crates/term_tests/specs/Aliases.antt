-- The aliases among references.
use Rattle.std.specs.Prelude.{List}
use Rattle.std.specs.List.{flat_map}
use Rattle.go_values.specs.declared.qualified.QName.{QName}
use Rattle.environments.specs.declared.mentions.Reference.{Reference}
use Rattle.type_sets.specs.TermTests.{alias_in}

abbrev pub aliases_of : List Reference → List QName
aliases_of references = flat_map (λ reference. alias_in reference.role reference.name) references
