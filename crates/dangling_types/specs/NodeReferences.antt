-- The references that nodes make.
use Rattle.std.specs.Prelude.{◌≡◌, ℕ, List, length, slice_get, Option, Some, None}
use Rattle.std.specs.Option.{option_and_then}
use Rattle.type_terms.specs.declared.descriptors.Node.{Node}
use Rattle.type_terms.specs.declared.descriptors.Node.TheVariants.{Named, Param, AliasName, Instance}
use Rattle.environments.specs.declared.mentions.Role.TheVariants.{Defined, Parameter, Alias, DefinedBase, AliasBase}
use Rattle.environments.specs.declared.mentions.Reference.{Reference}
use Rattle.dangling_types.specs.declared.finding.Finding.{Finding}
use Rattle.dangling_types.specs.declared.finding.Finding.TheVariants.{Sound, Dangles}

-- to the base of an instance with so many arguments
abbrev pub base_reference : Option Node → ℕ → Option Reference
base_reference (Some (Named q)) count = Some (record { name = q; role = DefinedBase count })
base_reference (Some (AliasName q)) count = Some (record { name = q; role = AliasBase count })
base_reference _ count = None

-- the reference that a node makes besides those of its parts
abbrev pub own_reference : List Node → Node → Option Reference
own_reference nodes (Named q) = Some (record { name = q; role = Defined })
own_reference nodes (Param q) = Some (record { name = q; role = Parameter })
own_reference nodes (AliasName q) = Some (record { name = q; role = Alias })
own_reference nodes (Instance base args) = base_reference (slice_get nodes base) (length args)
own_reference nodes _ = None

abbrev pub reference_at : List Node → ℕ → Option Reference
reference_at nodes id = option_and_then (own_reference nodes) (slice_get nodes id)

-- what was found is this reference, or that there is none
abbrev pub Finds : List Node → Finding → Option Reference → Type 0
Finds nodes Sound first = first ≡ None
Finds nodes (Dangles id) first = (r : Reference) × (reference_at nodes id ≡ Some r) × (first ≡ Some r)
