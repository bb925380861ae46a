-- The basic kinds of constants: what their values are, and the ranges of those of whole numbers.
use Rattle.std.specs.Prelude.{ℕ, ℤ, pos, negsuc, Bool, true, false, ◌&&◌, ◌==◌, if◌then◌else◌, ◌-◌, ◌^◌, Option, Some}
use Rattle.std.specs.Prelude.{None, int_le}
use Rattle.code_tables.specs.Basic.{basic_number}
use Rattle.code_tables.specs.declared.predeclared.Basic.{Basic}
use Rattle.code_tables.specs.declared.predeclared.Basic.TheVariants.{Bool as Boolean, String, Int, Int8, Int16, Int32}
use Rattle.code_tables.specs.declared.predeclared.Basic.TheVariants.{Int64, Uint, Uint8, Uint16, Uint32, Uint64}
use Rattle.code_tables.specs.declared.predeclared.Basic.TheVariants.{Uintptr, Byte, Rune, Float32, Float64, Complex64}
use Rattle.code_tables.specs.declared.predeclared.Basic.TheVariants.{Complex128, UntypedBool, UntypedInt, UntypedRune}
use Rattle.code_tables.specs.declared.predeclared.Basic.TheVariants.{UntypedString, UntypedFloat, UntypedComplex}

abbrev pub is_truth : Basic → Bool
is_truth Boolean = true
is_truth UntypedBool = true
is_truth _ = false

abbrev pub is_text : Basic → Bool
is_text String = true
is_text UntypedString = true
is_text _ = false

abbrev pub is_floating : Basic → Bool
is_floating Float32 = true
is_floating Float64 = true
is_floating Complex64 = true
is_floating Complex128 = true
is_floating UntypedFloat = true
is_floating UntypedComplex = true
is_floating _ = false

abbrev pub is_unsigned : Basic → Bool
is_unsigned Uint = true
is_unsigned Uint8 = true
is_unsigned Uint16 = true
is_unsigned Uint32 = true
is_unsigned Uint64 = true
is_unsigned Uintptr = true
is_unsigned Byte = true
is_unsigned _ = false

abbrev pub is_whole : Basic → Bool
is_whole Int = true
is_whole Int8 = true
is_whole Int16 = true
is_whole Int32 = true
is_whole Int64 = true
is_whole Rune = true
is_whole UntypedInt = true
is_whole UntypedRune = true
is_whole kind = is_unsigned kind

abbrev pub is_untyped : Basic → Bool
is_untyped UntypedBool = true
is_untyped UntypedInt = true
is_untyped UntypedRune = true
is_untyped UntypedString = true
is_untyped _ = false

-- how many bits a whole number of the kind has; an untyped one has 128
abbrev pub size : Basic → ℕ
size Int8 = 8
size Uint8 = 8
size Byte = 8
size Int16 = 16
size Uint16 = 16
size Int32 = 32
size Uint32 = 32
size Rune = 32
size UntypedInt = 128
size UntypedRune = 128
size _ = 64

-- the least and the greatest whole number of the kind
abbrev pub least : Basic → ℤ
least kind = if is_unsigned kind then pos 0 else negsuc (2 ^ (size kind - 1) - 1)

abbrev pub greatest : Basic → ℤ
greatest kind = if is_unsigned kind then pos (2 ^ size kind - 1) else pos (2 ^ (size kind - 1) - 1)

abbrev pub fits : Basic → ℤ → Bool
fits kind z = int_le (least kind) z && int_le z (greatest kind)

-- byte is uint8, and rune is int32
abbrev pub named_kind : Basic → Basic
named_kind Byte = Uint8
named_kind Rune = Int32
named_kind kind = kind

abbrev pub same_kind : Basic → Basic → Bool
same_kind left right = basic_number (named_kind left) == basic_number (named_kind right)

-- an untyped int with a rune gives a rune
abbrev pub untyped_kind : Basic → Basic → Basic
untyped_kind UntypedRune right = UntypedRune
untyped_kind left right = right

-- the kind of two operands together, where their values are of one class: an untyped one takes the other's
abbrev pub common_kind : Basic → Basic → Option Basic
common_kind left right =
    if is_untyped left
    then (if is_untyped right then Some (untyped_kind left right) else Some right)
    else (if is_untyped right then Some left else (if same_kind left right then Some left else None))
