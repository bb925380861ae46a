-- Predeclared types: their codes in export data, and their places in the table.
use Rattle.std.specs.Prelude.{ℕ, List, [], ◌∷◌}
use Rattle.code_tables.specs.declared.predeclared.Basic.{Basic}
use Rattle.code_tables.specs.declared.predeclared.Basic.TheVariants.{Bool, Int, Int8, Int16, Int32, Int64, Uint}
use Rattle.code_tables.specs.declared.predeclared.Basic.TheVariants.{Uint8, Uint16, Uint32, Uint64, Uintptr, Float32}
use Rattle.code_tables.specs.declared.predeclared.Basic.TheVariants.{Float64, Complex64, Complex128, String, Byte}
use Rattle.code_tables.specs.declared.predeclared.Basic.TheVariants.{Rune, Error, UntypedBool, UntypedInt}
use Rattle.code_tables.specs.declared.predeclared.Basic.TheVariants.{UntypedRune, UntypedFloat, UntypedComplex}
use Rattle.code_tables.specs.declared.predeclared.Basic.TheVariants.{UntypedString, UntypedNil, UnsafePointer}
use Rattle.code_tables.specs.declared.predeclared.Basic.TheVariants.{Comparable, Any}

-- the code
abbrev pub basic_code : Basic → ℕ
basic_code Bool = 0
basic_code Int = 1
basic_code Int8 = 2
basic_code Int16 = 3
basic_code Int32 = 4
basic_code Int64 = 5
basic_code Uint = 6
basic_code Uint8 = 7
basic_code Uint16 = 8
basic_code Uint32 = 9
basic_code Uint64 = 10
basic_code Uintptr = 11
basic_code Float32 = 12
basic_code Float64 = 13
basic_code Complex64 = 14
basic_code Complex128 = 15
basic_code String = 16
basic_code Byte = 17
basic_code Rune = 18
basic_code Error = 19
basic_code UntypedBool = 20
basic_code UntypedInt = 21
basic_code UntypedRune = 22
basic_code UntypedFloat = 23
basic_code UntypedComplex = 24
basic_code UntypedString = 25
basic_code UntypedNil = 26
basic_code UnsafePointer = 27
basic_code Comparable = 30
basic_code Any = 31

-- the place in the table, from 0
abbrev pub basic_number : Basic → ℕ
basic_number Bool = 0
basic_number Int = 1
basic_number Int8 = 2
basic_number Int16 = 3
basic_number Int32 = 4
basic_number Int64 = 5
basic_number Uint = 6
basic_number Uint8 = 7
basic_number Uint16 = 8
basic_number Uint32 = 9
basic_number Uint64 = 10
basic_number Uintptr = 11
basic_number Float32 = 12
basic_number Float64 = 13
basic_number Complex64 = 14
basic_number Complex128 = 15
basic_number String = 16
basic_number Byte = 17
basic_number Rune = 18
basic_number Error = 19
basic_number UntypedBool = 20
basic_number UntypedInt = 21
basic_number UntypedRune = 22
basic_number UntypedFloat = 23
basic_number UntypedComplex = 24
basic_number UntypedString = 25
basic_number UntypedNil = 26
basic_number UnsafePointer = 27
basic_number Comparable = 28
basic_number Any = 29

-- the values by their places
abbrev pub basic_values : List Basic
basic_values =
    Bool ∷ Int ∷ Int8 ∷ Int16 ∷ Int32 ∷ Int64 ∷ Uint ∷ Uint8 ∷ Uint16 ∷ Uint32 ∷ Uint64 ∷ Uintptr ∷ Float32 ∷
    Float64 ∷ Complex64 ∷ Complex128 ∷ String ∷ Byte ∷ Rune ∷ Error ∷ UntypedBool ∷ UntypedInt ∷ UntypedRune ∷
    UntypedFloat ∷ UntypedComplex ∷ UntypedString ∷ UntypedNil ∷ UnsafePointer ∷ Comparable ∷ Any ∷ []
