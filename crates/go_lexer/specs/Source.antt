-- The text of a source, and how it ends (the language specification's section Source code representation).
use Rattle.std.specs.Prelude.{ℕ, Bool, ◌==◌, List, take, length, if◌then◌else◌, Option, Some, None, slice_get}
use Rattle.std.specs.List.{before_first}
use Rattle.std.specs.Str.Lossy.{utf8_valid_len}
use Rattle.go_lexer.specs.declared.source.Ending.{Ending}
use Rattle.go_lexer.specs.declared.source.Ending.TheVariants.{File, BadUtf8, Nul}
use Rattle.go_lexer.specs.Characters.{strip, byte_order_mark}

abbrev pub is_nul : ℕ → Bool
is_nul b = b == 0

-- the longest front that is UTF-8
abbrev pub valid_front : List ℕ → List ℕ
valid_front src = take (utf8_valid_len src) src

-- the longest front that is UTF-8 and has no zero byte
abbrev pub text_of : List ℕ → List ℕ
text_of src = before_first is_nul (valid_front src)

-- why the text ends, by the byte after it
abbrev pub ending_at : Option ℕ → Ending
ending_at None = File
ending_at (Some b) = if is_nul b then Nul else BadUtf8

abbrev pub ending_of : List ℕ → Ending
ending_of src = ending_at (slice_get src (length (text_of src)))

-- the characters after a byte order mark, or all
abbrev pub rest_or : List ℕ → Option (List ℕ) → List ℕ
rest_or cs (Some rest) = rest
rest_or cs None = cs

abbrev pub after_mark : List ℕ → List ℕ
after_mark cs = rest_or cs (strip byte_order_mark cs)
