-- Reading what stands behind a backslash of an interpreted string literal (the language specification's section Rune
-- literals), as bytes.
use Rattle.std.specs.Prelude.{ℕ, zero, suc, ◌+◌, ◌*◌, ◌==◌, ◌||◌, nat_lt, List, [], ◌∷◌, if◌then◌else◌, Option, Some}
use Rattle.std.specs.Prelude.{None, encode_utf8}
use Rattle.std.specs.Char.{digit_value}
use Rattle.go_lexer.specs.Escapes.{is_code_point}
use Rattle.string_literals.specs.declared.escapes.Meaning.{Meaning}
use Rattle.string_literals.specs.declared.escapes.Meaning.TheVariants.{Byte, CodePoint}
use Rattle.string_literals.specs.declared.escapes.Piece.{Piece}

-- what a piece of a literal stands for, as bytes
abbrev pub bytes_of : Meaning → List ℕ
bytes_of (Byte b) = b ∷ []
bytes_of (CodePoint c) = encode_utf8 c

-- What a backslash and one byte stand for. The single quote has an escape in rune literals only.
abbrev pub simple : ℕ → Option ℕ
simple b =
    if b == 97 then Some 7
    else (if b == 98 then Some 8
    else (if b == 102 then Some 12
    else (if b == 110 then Some 10
    else (if b == 114 then Some 13
    else (if b == 116 then Some 9
    else (if b == 118 then Some 11
    else (if b == 92 || (b == 34 || b == 39) then Some b
    else None)))))))

-- the value of so many digits of a base, after those that have this value
abbrev pub digits : ℕ → ℕ → ℕ → List ℕ → Option ℕ
digits base zero value bs = Some value
digits base (suc n) value [] = None
digits base (suc n) value (b ∷ bs) = if nat_lt (digit_value b) base
    then digits base n (value * base + digit_value b) bs else None

-- an escape of so many bytes, where its value fits a byte
abbrev pub byte_escape : ℕ → Option ℕ → Option Piece
byte_escape more (Some value) = if nat_lt value 256 then Some (record { meaning = Byte value; more = more }) else None
byte_escape more None = None

-- an escape of so many bytes, where its value is a code point and no surrogate half
abbrev pub code_point_escape : ℕ → Option ℕ → Option Piece
code_point_escape more (Some value) = if is_code_point value
    then Some (record { meaning = CodePoint value; more = more }) else None
code_point_escape more None = None

-- an escape that gives its value by digits
abbrev pub numbered : ℕ → List ℕ → Option Piece
numbered b bs =
    if b == 120 then byte_escape 3 (digits 16 2 0 bs)
    else (if b == 117 then code_point_escape 5 (digits 16 4 0 bs)
    else (if b == 85 then code_point_escape 9 (digits 16 8 0 bs)
    else byte_escape 3 (digits 8 3 0 (b ∷ bs))))

abbrev pub escape_by : Option ℕ → ℕ → List ℕ → Option Piece
escape_by (Some byte) b bs = Some (record { meaning = Byte byte; more = 1 })
escape_by None b bs = numbered b bs

-- the escape at the front of the bytes behind a backslash
abbrev pub escape : List ℕ → Option Piece
escape [] = None
escape (b ∷ bs) = escape_by (simple b) b bs
