-- The names of the predeclared types. Those of untyped constants have a space, as the Go specification writes them.
use Rattle.std.specs.Prelude.{codes}
use Rattle.code_tables.specs.declared.predeclared.Basic.{Basic}
use Rattle.code_tables.specs.declared.predeclared.Basic.TheVariants.{Bool, Int, Int8, Int16, Int32, Int64, Uint, Uint8}
use Rattle.code_tables.specs.declared.predeclared.Basic.TheVariants.{Uint16, Uint32, Uint64, Uintptr, Float32, Float64}
use Rattle.code_tables.specs.declared.predeclared.Basic.TheVariants.{Complex64, Complex128, String, Byte, Rune, Error}
use Rattle.code_tables.specs.declared.predeclared.Basic.TheVariants.{UntypedBool, UntypedInt, UntypedRune, UntypedFloat}
use Rattle.code_tables.specs.declared.predeclared.Basic.TheVariants.{UntypedComplex, UntypedString, UntypedNil}
use Rattle.code_tables.specs.declared.predeclared.Basic.TheVariants.{UnsafePointer, Comparable, Any}
use Rattle.type_terms.specs.Trees.{Text}

abbrev pub basic_name : Basic → Text
basic_name Bool = codes "bool"
basic_name Int = codes "int"
basic_name Int8 = codes "int8"
basic_name Int16 = codes "int16"
basic_name Int32 = codes "int32"
basic_name Int64 = codes "int64"
basic_name Uint = codes "uint"
basic_name Uint8 = codes "uint8"
basic_name Uint16 = codes "uint16"
basic_name Uint32 = codes "uint32"
basic_name Uint64 = codes "uint64"
basic_name Uintptr = codes "uintptr"
basic_name Float32 = codes "float32"
basic_name Float64 = codes "float64"
basic_name Complex64 = codes "complex64"
basic_name Complex128 = codes "complex128"
basic_name String = codes "string"
basic_name Byte = codes "byte"
basic_name Rune = codes "rune"
basic_name Error = codes "error"
basic_name UntypedBool = codes "untyped bool"
basic_name UntypedInt = codes "untyped int"
basic_name UntypedRune = codes "untyped rune"
basic_name UntypedFloat = codes "untyped float"
basic_name UntypedComplex = codes "untyped complex"
basic_name UntypedString = codes "untyped string"
basic_name UntypedNil = codes "untyped nil"
basic_name UnsafePointer = codes "unsafe.Pointer"
basic_name Comparable = codes "comparable"
basic_name Any = codes "any"
