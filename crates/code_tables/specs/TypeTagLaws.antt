-- Each place in the table is that of one value.
use Rattle.std.specs.Prelude.{◌≡◌, ◌<◌, Some, slice_get, refl}
use Rattle.code_tables.specs.declared.descriptors.TypeTag.{TypeTag}
use Rattle.code_tables.specs.declared.descriptors.TypeTag.TheVariants.{Defined, Pointer, Slice, Array, Chan, Map}
use Rattle.code_tables.specs.declared.descriptors.TypeTag.TheVariants.{Signature, Struct, Interface, TypeParameter}
use Rattle.code_tables.specs.declared.descriptors.TypeTag.TheVariants.{Instance, Union, Alias}
use Rattle.code_tables.specs.TypeTag.{type_tag_number, type_tag_values}
use Rattle.code_tables.specs.Numbering.{exact_numbers, below_count}

pub type_tag_at : (tag : TypeTag) → slice_get type_tag_values (type_tag_number tag) ≡ Some tag
type_tag_at Defined = refl
type_tag_at Pointer = refl
type_tag_at Slice = refl
type_tag_at Array = refl
type_tag_at Chan = refl
type_tag_at Map = refl
type_tag_at Signature = refl
type_tag_at Struct = refl
type_tag_at Interface = refl
type_tag_at TypeParameter = refl
type_tag_at Instance = refl
type_tag_at Union = refl
type_tag_at Alias = refl

pub type_tag_below : (tag : TypeTag) → type_tag_number tag < 13
type_tag_below = below_count type_tag_values type_tag_number type_tag_at

pub type_tag_exact : (left right : TypeTag) → type_tag_number left ≡ type_tag_number right → left ≡ right
type_tag_exact = exact_numbers type_tag_values type_tag_number type_tag_at
