-- Tags of descriptors: their codes in export data, and their places in the table.
use Rattle.std.specs.Prelude.{ℕ, List, [], ◌∷◌}
use Rattle.code_tables.specs.declared.descriptors.TypeTag.{TypeTag}
use Rattle.code_tables.specs.declared.descriptors.TypeTag.TheVariants.{Defined, Pointer, Slice, Array, Chan, Map}
use Rattle.code_tables.specs.declared.descriptors.TypeTag.TheVariants.{Signature, Struct, Interface, TypeParameter}
use Rattle.code_tables.specs.declared.descriptors.TypeTag.TheVariants.{Instance, Union, Alias}

-- the code
abbrev pub type_tag_code : TypeTag → ℕ
type_tag_code Defined = 0
type_tag_code Pointer = 1
type_tag_code Slice = 2
type_tag_code Array = 3
type_tag_code Chan = 4
type_tag_code Map = 5
type_tag_code Signature = 6
type_tag_code Struct = 7
type_tag_code Interface = 8
type_tag_code TypeParameter = 9
type_tag_code Instance = 10
type_tag_code Union = 11
type_tag_code Alias = 12

-- the place in the table, from 0
abbrev pub type_tag_number : TypeTag → ℕ
type_tag_number Defined = 0
type_tag_number Pointer = 1
type_tag_number Slice = 2
type_tag_number Array = 3
type_tag_number Chan = 4
type_tag_number Map = 5
type_tag_number Signature = 6
type_tag_number Struct = 7
type_tag_number Interface = 8
type_tag_number TypeParameter = 9
type_tag_number Instance = 10
type_tag_number Union = 11
type_tag_number Alias = 12

-- the values by their places
abbrev pub type_tag_values : List TypeTag
type_tag_values =
    Defined ∷ Pointer ∷ Slice ∷ Array ∷ Chan ∷ Map ∷ Signature ∷ Struct ∷ Interface ∷ TypeParameter ∷ Instance ∷
    Union ∷ Alias ∷ []
