-- Bytes of a text as they are printed.
use Rattle.std.specs.Prelude.{ℕ, ◌+◌, ◌/◌, ◌%◌, Bool, ◌||◌, nat_lt, ◌==◌, if◌then◌else◌, List, [], ◌∷◌, ◌++◌, codes}
use Rattle.std.specs.List.{flat_map}

-- a digit of base 16, in lower case
abbrev pub hex_digit : ℕ → ℕ
hex_digit n = if nat_lt n 10 then 48 + n else 87 + n

-- `\x` and two digits of base 16
abbrev pub escape : ℕ → List ℕ
escape byte = codes "\\x" ++ (hex_digit (byte / 16) ∷ hex_digit (byte % 16) ∷ [])

-- a byte that isn't printed as it is: below 21 in base 16, 7f, the quote and the backslash
abbrev pub is_escaped : ℕ → Bool
is_escaped byte = nat_lt byte 33 || (byte == 127 || (byte == 34 || byte == 92))

abbrev pub printed_byte : ℕ → List ℕ
printed_byte byte = if is_escaped byte then escape byte else byte ∷ []

-- a path, a name, a label or a file as it is printed
abbrev pub printed : List ℕ → List ℕ
printed text = flat_map printed_byte text

-- between quotes the space is printed as it is, and no byte above 7e is
abbrev pub is_escaped_in_quotes : ℕ → Bool
is_escaped_in_quotes byte = nat_lt byte 32 || (nat_lt 126 byte || (byte == 34 || byte == 92))

abbrev pub quoted_byte : ℕ → List ℕ
quoted_byte byte = if is_escaped_in_quotes byte then escape byte else byte ∷ []

-- a text between quotes
abbrev pub quoted : List ℕ → List ℕ
quoted text = codes "\"" ++ flat_map quoted_byte text ++ codes "\""
