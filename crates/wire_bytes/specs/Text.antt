-- Texts of a string section.
use Rattle.std.specs.Prelude.{◌≡◌, ℕ, List, ◌++◌, length, take, drop, Option, Some, None, Ok, Err, nat_lt}
use Rattle.std.specs.Prelude.{if◌then◌else◌}
use Rattle.wire_bytes.specs.Uvarint.{BeginsWith, Front, uvarint_in}

-- At the offset stand the text's length and then the text, both wholly inside the section.
abbrev pub Text : List ℕ → ℕ → List ℕ → Type 0
Text strings offset text = (behind rest : List ℕ) × BeginsWith (drop offset strings) (length text) behind
    × (behind ≡ text ++ rest)

abbrev pub text_behind : Front → Option (List ℕ)
text_behind (Ok (n, rest)) = if nat_lt (length rest) n then None else Some (take n rest)
text_behind (Err e) = None

-- the text at an offset
unfoldable pub text_in : List ℕ → ℕ → Option (List ℕ)
text_in strings offset = text_behind (uvarint_in (drop offset strings))
