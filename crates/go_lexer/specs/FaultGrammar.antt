-- The first lexical fault of a source, by cases: the pieces so far, and then what stands there.
use Rattle.std.specs.Prelude.{◌≡◌, ◌≢◌, ◌≤◌, ◌<◌, ℕ, Bool, true, false, not, nat_lt, List, [], ◌∷◌, ◌++◌, length}
use Rattle.std.specs.Char.{digit_value}
use Rattle.std.specs.Str.{encode_utf8_all, all_scalars}
use Rattle.go_lexer.specs.declared.classes.Class.TheVariants.{Raw}
use Rattle.go_lexer.specs.declared.pieces.Breach.{Breach}
use Rattle.go_lexer.specs.declared.pieces.Breach.TheVariants.{BadChar, OpenString, BadEscape, BadNumber, CutString}
use Rattle.go_lexer.specs.declared.pieces.Breach.TheVariants.{CutComment}
use Rattle.go_lexer.specs.declared.token_kinds.TokenKind.{TokenKind}
use Rattle.go_lexer.specs.declared.token_kinds.LexFault.{LexFault}
use Rattle.go_lexer.specs.declared.token_kinds.LexFault.TheVariants as fault
use Rattle.go_lexer.specs.Characters.{line_feed, double_quote, single_quote, back_quote, backslash, star, slash}
use Rattle.go_lexer.specs.Classes.{is_letter, is_space, is_decimal, in_class}
use Rattle.go_lexer.specs.Grammar.{Each, IsEscape, IsStringText, IsRuneText, BeginsNumber, IsPiece}
use Rattle.go_lexer.specs.Lexing.{place}
use Rattle.go_lexer.specs.Marks.{is_single}
use Rattle.go_lexer.specs.NumberGrammar.{IsNumber}
use Rattle.go_lexer.specs.NumberShape.{LooksLikeNumber}
use Rattle.go_lexer.specs.Pieces.{blank, token}
use Rattle.go_lexer.specs.Source.{is_nul}
use Rattle.go_lexer.specs.TokenGrammar.{IsUnmarked}

-- digits of a base, fewer than so many
abbrev pub AreFewer : ℕ → ℕ → List ℕ → Type 0
AreFewer base n cs = Each (λ c. nat_lt (digit_value c) base) cs × (length cs < n)

-- the text ends inside an escape, of which this stands after the backslash
pub data IsCutEscape : List ℕ → Type 0 where
  backslash_alone : IsCutEscape []
  hexadecimal_cut : (cs : List ℕ) → AreFewer 16 2 cs → IsCutEscape (120 ∷ cs)
  octal_cut : (c : ℕ) (cs : List ℕ) → AreFewer 8 3 (c ∷ cs) → IsCutEscape (c ∷ cs)
  short_code_point_cut : (cs : List ℕ) → AreFewer 16 4 cs → IsCutEscape (117 ∷ cs)
  long_code_point_cut : (cs : List ℕ) → AreFewer 16 8 cs → IsCutEscape (85 ∷ cs)

-- no escape begins after the backslash, and the text doesn't end inside one
abbrev pub IsWrongEscape : ℕ → List ℕ → Type 0
IsWrongEscape quote text = ((escape rest : List ℕ) → IsEscape quote escape → text ≢ escape ++ rest)
    × (IsCutEscape text → ⊥)

-- the text ends here, or inside an escape
pub data IsCut : List ℕ → Type 0 where
  at_end : IsCut []
  in_escape : (cs : List ℕ) → IsCutEscape cs → IsCut (backslash ∷ cs)

-- `*/` stands nowhere
abbrev pub HasNoEnd : List ℕ → Type 0
HasNoEnd text = (before rest : List ℕ) → text ≢ before ++ (star ∷ slash ∷ rest)

-- a character that begins no piece
pub record BeginsNothing (c : ℕ) : Type 0 where
  pub space : is_space c ≡ false
  pub letter : is_letter c ≡ false
  pub digit : is_decimal c ≡ false
  pub mark : is_single c ≡ false
  pub double : c ≢ double_quote
  pub single : c ≢ single_quote
  pub back : c ≢ back_quote

-- What stands at the front of a text where no piece does, and the text from the fault's place on. A literal or comment
-- that is cut is one inside which the text ends.
pub data IsBreach : List ℕ → Breach → List ℕ → Type 0 where
  no_piece : (c : ℕ) (cs : List ℕ) → BeginsNothing c → IsBreach (c ∷ cs) BadChar (c ∷ cs)
  no_number : (literal rest : List ℕ) → BeginsNumber (literal ++ rest) → LooksLikeNumber literal rest
      → ((kind : TokenKind) → IsNumber kind literal → ⊥) → IsBreach (literal ++ rest) BadNumber (literal ++ rest)
  comment_cut : (text : List ℕ) → HasNoEnd text
      → IsBreach (slash ∷ star ∷ text) CutComment (slash ∷ star ∷ text)
  raw_string_cut : (inside : List ℕ) → Each (in_class Raw) inside
      → IsBreach (back_quote ∷ inside) CutString (back_quote ∷ inside)
  string_line_ends : (inside rest : List ℕ) → IsStringText inside
      → IsBreach (double_quote ∷ (inside ++ (line_feed ∷ rest))) OpenString
      (double_quote ∷ (inside ++ (line_feed ∷ rest)))
  string_cut : (inside end : List ℕ) → IsStringText inside → IsCut end
      → IsBreach (double_quote ∷ (inside ++ end)) CutString (double_quote ∷ (inside ++ end))
  string_escape : (inside after : List ℕ) → IsStringText inside → IsWrongEscape double_quote after
      → IsBreach (double_quote ∷ (inside ++ (backslash ∷ after))) BadEscape (backslash ∷ after)
  rune_empty : (rest : List ℕ) → IsBreach (single_quote ∷ single_quote ∷ rest) BadChar
      (single_quote ∷ single_quote ∷ rest)
  rune_goes_on : (inside : List ℕ) (c : ℕ) (rest : List ℕ) → IsRuneText inside → c ≢ single_quote → c ≢ line_feed
      → IsBreach (single_quote ∷ (inside ++ (c ∷ rest))) BadChar (single_quote ∷ (inside ++ (c ∷ rest)))
  rune_line_begins : (rest : List ℕ) → IsBreach (single_quote ∷ line_feed ∷ rest) OpenString
      (single_quote ∷ line_feed ∷ rest)
  rune_line_ends : (inside rest : List ℕ) → IsRuneText inside
      → IsBreach (single_quote ∷ (inside ++ (line_feed ∷ rest))) OpenString
      (single_quote ∷ (inside ++ (line_feed ∷ rest)))
  rune_escape : (after : List ℕ) → IsWrongEscape single_quote after
      → IsBreach (single_quote ∷ backslash ∷ after) BadEscape (backslash ∷ after)
  rune_cut : (end : List ℕ) → IsCut end → IsBreach (single_quote ∷ end) CutString (single_quote ∷ end)
  rune_cut_after : (inside : List ℕ) → IsRuneText inside
      → IsBreach (single_quote ∷ inside) CutString (single_quote ∷ inside)

abbrev pub HasNoNul : List ℕ → Type 0
HasNoNul bytes = Each (λ b. not (is_nul b)) bytes

-- The text of a source: the longest front that is UTF-8 and has no zero byte; and the bytes after it.
pub record IsTextOf (source characters after : List ℕ) : Type 0 where
  pub scalars : all_scalars characters ≡ true
  pub utf8 : encode_utf8_all characters ++ after ≡ source
  pub no_nul : HasNoNul (encode_utf8_all characters)
  pub longest : (others more : List ℕ) → all_scalars others ≡ true → encode_utf8_all others ++ more ≡ source
      → HasNoNul (encode_utf8_all others) → length (encode_utf8_all others) ≤ length (encode_utf8_all characters)

-- the fault of the bytes after a text that ends at this place
pub data IsEndFault (total : ℕ) : List ℕ → LexFault → Type 0 where
  nul : (bytes : List ℕ) → IsEndFault total (0 ∷ bytes) (fault.Nul total)
  no_utf8 : (b : ℕ) (bytes : List ℕ) → b ≢ 0 → IsEndFault total (b ∷ bytes) (fault.BadUtf8 total)

-- from one place of a text to another there are blanks and tokens alone
pub data Reaches : List ℕ → List ℕ → Type 0 where
  here : (text : List ℕ) → Reaches text text
  after_blank : (breaks : Bool) (text rest end : List ℕ) → IsPiece text (blank breaks rest) → Reaches rest end
      → Reaches text end
  after_token : (kind : TokenKind) (owes : Bool) (text rest end : List ℕ) → IsPiece text (token kind owes rest)
      → Reaches rest end → Reaches text end

-- The fault at the front of what is left of a text. The text ends at this place, and these bytes follow it.
pub data IsFaultAt (total : ℕ) (after : List ℕ) : List ℕ → LexFault → Type 0 where
  text_ends : (f : LexFault) → IsEndFault total after f → IsFaultAt total after [] f
  bad_char : (text at : List ℕ) → IsBreach text BadChar at → IsFaultAt total after text (fault.BadChar (place total at))
  open_string : (text at : List ℕ) → IsBreach text OpenString at
      → IsFaultAt total after text (fault.OpenString (place total at))
  bad_escape : (text at : List ℕ) → IsBreach text BadEscape at
      → IsFaultAt total after text (fault.BadEscape (place total at))
  bad_number : (text at : List ℕ) → IsBreach text BadNumber at
      → IsFaultAt total after text (fault.BadNumber (place total at))
  -- a literal or a comment inside which the source ends, and one inside which its text ends before
  string_at_end : (text at : List ℕ) → IsBreach text CutString at → after ≡ []
      → IsFaultAt total after text (fault.OpenString (place total at))
  in_string : (text at : List ℕ) (f : LexFault) → IsBreach text CutString at → IsEndFault total after f
      → IsFaultAt total after text f
  comment_at_end : (text at : List ℕ) → IsBreach text CutComment at → after ≡ []
      → IsFaultAt total after text (fault.OpenComment (place total at))
  in_comment : (text at : List ℕ) (f : LexFault) → IsBreach text CutComment at → IsEndFault total after f
      → IsFaultAt total after text f

-- the first fault of a source: its text begins with blanks and tokens, and then the fault stands there
pub record IsFirstFault (source : List ℕ) (f : LexFault) : Type 0 where
  pub characters : List ℕ
  pub after : List ℕ
  pub text : List ℕ
  pub rest : List ℕ
  pub are : IsTextOf source characters after
  pub start : IsUnmarked characters text
  pub reaches : Reaches text rest
  pub stands : IsFaultAt (length (encode_utf8_all characters)) after rest f
