-- The value of a string literal, read from the left, for all bytes.
use Rattle.std.specs.Prelude.{ℕ, zero, suc, ◌==◌, List, [], ◌∷◌, ◌++◌, if◌then◌else◌, Option, Some, None}
use Rattle.go_lexer.specs.Characters.{double_quote, back_quote, backslash}
use Rattle.string_literals.specs.declared.escapes.Meaning.TheVariants.{Byte}
use Rattle.string_literals.specs.declared.escapes.Piece.{Piece}
use Rattle.string_literals.specs.Escapes.{escape, bytes_of}

abbrev pub carriage_return : ℕ
carriage_return = 13

-- a byte that stands for itself
abbrev pub plain : ℕ → Piece
plain b = record { meaning = Byte b; more = 0 }

-- a backslash that begins no escape stands for itself
abbrev pub escaped : Option Piece → Piece
escaped (Some p) = p
escaped None = plain backslash

-- what a byte between double quotes stands for, with those behind it that belong to it
abbrev pub piece : ℕ → List ℕ → Piece
piece b bs = if b == backslash then escaped (escape bs) else plain b

-- the value of what stands behind the first double quote, once so many more bytes of a piece are passed over
abbrev pub text_after : ℕ → List ℕ → List ℕ
text_after more [] = []
text_after zero (b ∷ bs) = if b == double_quote then []
    else bytes_of (piece b bs).meaning ++ text_after (piece b bs).more bs
text_after (suc more) (b ∷ bs) = text_after more bs

-- the value of what stands behind the first back quote
abbrev pub raw_text : List ℕ → List ℕ
raw_text [] = []
raw_text (b ∷ bs) = if b == back_quote then [] else (if b == carriage_return then raw_text bs else (b ∷ raw_text bs))

-- A literal that isn't closed ends where its text does, and what begins with no quote has the empty value.
abbrev pub value_of : List ℕ → List ℕ
value_of [] = []
value_of (b ∷ bs) = if b == back_quote then raw_text bs else (if b == double_quote then text_after 0 bs else [])
