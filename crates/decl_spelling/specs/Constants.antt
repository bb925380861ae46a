-- The values of constants.
use Rattle.std.specs.Prelude.{◌*◌, ℕ, Bool, true, false, ◌==◌, Result, Ok, Err, Option, Some, None, cond}
use Rattle.code_tables.specs.declared.predeclared.Basic.{Basic}
use Rattle.code_tables.specs.declared.predeclared.Basic.TheVariants as b
use Rattle.go_values.specs.declared.constants.Const.{Const}
use Rattle.go_values.specs.declared.constants.Const.TheVariants.{Bool as truth, Int as whole, Str as text}
use Rattle.wire_bytes.specs.declared.fault.ByteFault.{ByteFault}
use Rattle.wire_bytes.specs.declared.fault.ByteFault.TheVariants as faults
use Rattle.wire_bytes.specs.Reading.{place, ◌>>=◌}
use Rattle.wire_bytes.specs.Varint.{number_of, varint_at}
use Rattle.wire_bytes.specs.Whole.{whole_at}
use Rattle.type_terms.specs.Trees.{Tree, predeclared, named, alias, instance}
use Rattle.decl_spelling.specs.Sections.{Sections, Basics}
use Rattle.decl_spelling.specs.Spelled.{SpelledText, SpelledConst}
use Rattle.decl_spelling.specs.Reading.{Ahead, Reader, Stopped, plain, ask, truth_at, text_at}

-- the predeclared type to which a type comes down
abbrev pub generic_basic : Basics → Tree → Option Basic
generic_basic basics (named q) = basics q.path q.name
generic_basic basics (alias q) = basics q.path q.name
generic_basic basics _ = None

abbrev pub basic_type : Basics → Tree → Option Basic
basic_type basics (predeclared basic) = Some basic
basic_type basics (instance base args) = generic_basic basics base
basic_type basics tree = generic_basic basics tree

-- How a value of a basic type is spelled: as a flag, as a text's offset, or as a whole number that is signed or not and
-- has at most so many bytes.
pub data Spelling : Type 0 where
  flag : Spelling
  offset : Spelling
  number : Bool → ℕ → Spelling

-- what kind of constant a type has, if any
pub data Kind : Type 0 where
  spelled : Spelling → Kind
  floating : Kind
  none : Kind

abbrev pub kind_of : Basic → Kind
kind_of b.Bool = spelled flag
kind_of b.Int = spelled (number true 8)
kind_of b.Int8 = spelled (number true 1)
kind_of b.Int16 = spelled (number true 2)
kind_of b.Int32 = spelled (number true 4)
kind_of b.Int64 = spelled (number true 8)
kind_of b.Uint = spelled (number false 8)
kind_of b.Uint8 = spelled (number false 1)
kind_of b.Uint16 = spelled (number false 2)
kind_of b.Uint32 = spelled (number false 4)
kind_of b.Uint64 = spelled (number false 8)
kind_of b.Uintptr = spelled (number false 8)
kind_of b.Float32 = floating
kind_of b.Float64 = floating
kind_of b.Complex64 = floating
kind_of b.Complex128 = floating
kind_of b.String = spelled offset
kind_of b.Byte = spelled (number false 1)
kind_of b.Rune = spelled (number true 4)
kind_of b.Error = none
kind_of b.UntypedBool = spelled flag
kind_of b.UntypedInt = spelled (number true 64)
kind_of b.UntypedRune = spelled (number true 64)
kind_of b.UntypedFloat = floating
kind_of b.UntypedComplex = floating
kind_of b.UntypedString = spelled offset
kind_of b.UntypedNil = none
kind_of b.UnsafePointer = none
kind_of b.Comparable = none
kind_of b.Any = none

-- how the values of a type are spelled; the faults stand at its typeOff
abbrev pub spelling_by : ℕ → Kind → Result Spelling ByteFault
spelling_by at (spelled spelling) = Ok spelling
spelling_by at floating = Err (faults.Float at)
spelling_by at none = Err (faults.NotConst at)

abbrev pub spelling_at : ℕ → Option Basic → Result Spelling ByteFault
spelling_at at (Some basic) = spelling_by at (kind_of basic)
spelling_at at None = Err (faults.NotConst at)

-- the number of a kind of value: 1 truth values, 2 texts, 3 whole numbers
abbrev pub kind_number : Spelling → ℕ
kind_number flag = 1
kind_number offset = 2
kind_number (number signed max) = 3

-- From version 2 on the number of the value's kind stands before it.
unfoldable pub kind_given_at : Spelling → Reader (Unit {0})
kind_given_at spelling a = do
  given ← plain a (varint_at a.spot)
  fits ← ask a (number_of given.0 == 2 * kind_number spelling) (faults.Tag (place a.spot) (number_of given.0))
  Ok (tt, given.1)

abbrev pub kind_at : ℕ → Spelling → Reader (Unit {0})
kind_at version spelling a = cond (version == 1) (Ok (tt, a)) (kind_given_at spelling a)

abbrev pub value_alone : Const → SpelledConst
value_alone value = record { offset = None; value = value }

abbrev pub text_value : SpelledText → SpelledConst
text_value x = record { offset = x.offset; value = text x.text }

abbrev pub with_value : {X : Type 0} → (X → SpelledConst) → Result (X × Ahead) Stopped
    → Result (SpelledConst × Ahead) Stopped
with_value make (Ok x) = Ok (make x.0, x.1)
with_value make (Err s) = Err s

abbrev pub spelled_at : Sections → Spelling → Reader SpelledConst
spelled_at src flag a = with_value (λ x. value_alone (truth x)) (truth_at a)
spelled_at src offset a = with_value text_value (text_at src a)
spelled_at src (number signed max) a =
    with_value (λ x. value_alone (whole x)) (plain a (whole_at signed max a.spot))

unfoldable pub value_at : Sections → Spelling → Reader SpelledConst
value_at src spelling a = do
  kind ← kind_at src.version spelling a
  spelled_at src spelling kind.1
