-- Each place in the table is that of one value.
use Rattle.std.specs.Prelude.{◌≡◌, ◌<◌, Some, slice_get, refl}
use Rattle.code_tables.specs.declared.predeclared.Basic.{Basic}
use Rattle.code_tables.specs.declared.predeclared.Basic.TheVariants.{Bool, Int, Int8, Int16, Int32, Int64, Uint}
use Rattle.code_tables.specs.declared.predeclared.Basic.TheVariants.{Uint8, Uint16, Uint32, Uint64, Uintptr, Float32}
use Rattle.code_tables.specs.declared.predeclared.Basic.TheVariants.{Float64, Complex64, Complex128, String, Byte}
use Rattle.code_tables.specs.declared.predeclared.Basic.TheVariants.{Rune, Error, UntypedBool, UntypedInt}
use Rattle.code_tables.specs.declared.predeclared.Basic.TheVariants.{UntypedRune, UntypedFloat, UntypedComplex}
use Rattle.code_tables.specs.declared.predeclared.Basic.TheVariants.{UntypedString, UntypedNil, UnsafePointer}
use Rattle.code_tables.specs.declared.predeclared.Basic.TheVariants.{Comparable, Any}
use Rattle.code_tables.specs.Basic.{basic_number, basic_values}
use Rattle.code_tables.specs.Numbering.{exact_numbers, below_count}

pub basic_at : (basic : Basic) → slice_get basic_values (basic_number basic) ≡ Some basic
basic_at Bool = refl
basic_at Int = refl
basic_at Int8 = refl
basic_at Int16 = refl
basic_at Int32 = refl
basic_at Int64 = refl
basic_at Uint = refl
basic_at Uint8 = refl
basic_at Uint16 = refl
basic_at Uint32 = refl
basic_at Uint64 = refl
basic_at Uintptr = refl
basic_at Float32 = refl
basic_at Float64 = refl
basic_at Complex64 = refl
basic_at Complex128 = refl
basic_at String = refl
basic_at Byte = refl
basic_at Rune = refl
basic_at Error = refl
basic_at UntypedBool = refl
basic_at UntypedInt = refl
basic_at UntypedRune = refl
basic_at UntypedFloat = refl
basic_at UntypedComplex = refl
basic_at UntypedString = refl
basic_at UntypedNil = refl
basic_at UnsafePointer = refl
basic_at Comparable = refl
basic_at Any = refl

pub basic_below : (basic : Basic) → basic_number basic < 30
basic_below = below_count basic_values basic_number basic_at

pub basic_exact : (left right : Basic) → basic_number left ≡ basic_number right → left ≡ right
basic_exact = exact_numbers basic_values basic_number basic_at
