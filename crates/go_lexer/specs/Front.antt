-- The piece at the front of a text.
use Rattle.std.specs.Prelude.{ℕ, Bool, false, ◌==◌, ◌||◌, ◌&&◌, List, [], ◌∷◌, if◌then◌else◌, Option, Some, None}
use Rattle.go_lexer.specs.declared.token_kinds.TokenKind.TheVariants.{Mark}
use Rattle.go_lexer.specs.declared.pieces.Breach.TheVariants.{BadChar}
use Rattle.go_lexer.specs.Characters.{line_feed, double_quote, single_quote, back_quote, plus, minus, star, slash}
use Rattle.go_lexer.specs.Characters.{point, split}
use Rattle.go_lexer.specs.Classes.{is_letter, is_space, is_decimal}
use Rattle.go_lexer.specs.Comments.{line_comment, general_comment}
use Rattle.go_lexer.specs.Literals.{string_literal, raw_literal, rune_literal}
use Rattle.go_lexer.specs.Marks.{is_single, is_pair, is_triple}
use Rattle.go_lexer.specs.Numbers.{number}
use Rattle.go_lexer.specs.Pieces.{Piece, blank, token, stop}
use Rattle.go_lexer.specs.Words.{word}

-- a line that ends after one of these ends with a semicolon
abbrev pub single_owes : ℕ → Bool
single_owes c = c == 41 || c == 93 || c == 125

abbrev pub pair_owes : ℕ → Bool
pair_owes b = b == plus || b == minus

-- the longest operator or punctuation that stands at start
abbrev pub mark_one : List ℕ → ℕ → List ℕ → Piece
mark_one start a rest = if is_single a then token Mark (single_owes a) rest else stop BadChar start

abbrev pub mark_two : List ℕ → ℕ → List ℕ → Option (ℕ × List ℕ) → Piece
mark_two start a after None = mark_one start a after
mark_two start a after (Some (b, rest)) = if is_pair a b then token Mark (a == b && pair_owes b) rest
    else mark_one start a after

abbrev pub mark_three : List ℕ → ℕ → List ℕ → ℕ → List ℕ → Option (ℕ × List ℕ) → Piece
mark_three start a after b behind None = mark_two start a after (Some (b, behind))
mark_three start a after b behind (Some (c, rest)) = if is_triple a b c then token Mark false rest
    else mark_two start a after (Some (b, behind))

abbrev pub mark_after : List ℕ → ℕ → List ℕ → Option (ℕ × List ℕ) → Piece
mark_after start a after None = mark_two start a after None
mark_after start a after (Some (b, behind)) = mark_three start a after b behind (split behind)

abbrev pub mark : List ℕ → ℕ → List ℕ → Piece
mark start a after = mark_after start a after (split after)

abbrev pub after_point : List ℕ → ℕ → List ℕ → Option (ℕ × List ℕ) → Piece
after_point start a after None = mark start a after
after_point start a after (Some (b, behind)) = if is_decimal b then number start else mark start a after

abbrev pub after_slash : List ℕ → ℕ → List ℕ → Option (ℕ × List ℕ) → Piece
after_slash start a after None = mark start a after
after_slash start a after (Some (b, behind)) = if b == slash then line_comment behind
    else (if b == star then general_comment start behind else mark start a after)

-- the piece at start, whose first character is a
abbrev pub piece_by : List ℕ → ℕ → List ℕ → Piece
piece_by start a after =
    if is_space a then blank (a == line_feed) after
    else (if is_decimal a then number start
    else (if a == point then after_point start a after (split after)
    else (if a == slash then after_slash start a after (split after)
    else (if a == double_quote then string_literal start after
    else (if a == single_quote then rune_literal start after
    else (if a == back_quote then raw_literal start after
    else (if is_letter a then word start
    else mark start a after)))))))

abbrev pub piece : List ℕ → Piece
piece [] = stop BadChar []
piece (a ∷ after) = piece_by (a ∷ after) a after
