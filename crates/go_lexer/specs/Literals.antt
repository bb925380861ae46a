-- Rune and string literals (the language specification's sections of these names).
use Rattle.std.specs.Prelude.{ℕ, zero, suc, true, ◌==◌, List, [], ◌∷◌, length, if◌then◌else◌, Option, Some, None}
use Rattle.std.specs.Str.{chars}
use Rattle.go_lexer.specs.declared.token_kinds.TokenKind.TheVariants.{Rune, Text}
use Rattle.go_lexer.specs.declared.pieces.Breach.TheVariants.{BadChar, OpenString, BadEscape, CutString}
use Rattle.go_lexer.specs.declared.classes.Class.TheVariants.{Raw}
use Rattle.go_lexer.specs.declared.literals.Closing.{Closing as ReadClosing}
use Rattle.go_lexer.specs.declared.literals.Closing.TheVariants as read
use Rattle.go_lexer.specs.declared.literals.Element.{Element as ReadElement}
use Rattle.go_lexer.specs.declared.literals.Element.TheVariants as read_element
use Rattle.go_lexer.specs.Characters.{line_feed, double_quote, single_quote, backslash, after_while, split}
use Rattle.go_lexer.specs.Classes.{in_class}
use Rattle.go_lexer.specs.Escapes.{Escape, whole, wrong, cut, escape}
use Rattle.go_lexer.specs.Pieces.{Piece, token, stop}

-- How a string literal goes on after some of its characters: it is closed, its line ends or the text ends before
-- that, or an escape isn't allowed, and stands here.
pub data Closing : Type 0 where
  closed : List ℕ → Closing
  line_ends : Closing
  text_ends : Closing
  bad_escape : List ℕ → Closing

-- what the front of a string literal's text is: a character or an escape, and what follows it, or the end
pub data Element : Type 0 where
  goes : List ℕ → Element
  ends : Closing → Element

abbrev pub escaped : List ℕ → Escape → Element
escaped at (whole rest) = goes rest
escaped at wrong = ends (bad_escape at)
escaped at cut = ends text_ends

abbrev pub element : List ℕ → Element
element [] = ends text_ends
element (c ∷ cs) =
    if c == double_quote then ends (closed cs)
    else (if c == line_feed then ends line_ends
    else (if c == backslash then escaped (c ∷ cs) (escape double_quote cs)
    else goes cs))

abbrev pub closing_by : (List ℕ → Closing) → Element → Closing
closing_by more (goes rest) = more rest
closing_by more (ends how) = how

-- each element takes a character, so a text of n characters has at most n
abbrev pub closing : ℕ → List ℕ → Closing
closing zero cs = text_ends
closing (suc n) cs = closing_by (closing n) (element cs)

-- an interpreted string that begins at start
abbrev pub text_literal : List ℕ → Closing → Piece
text_literal start (closed rest) = token Text true rest
text_literal start line_ends = stop OpenString start
text_literal start text_ends = stop CutString start
text_literal start (bad_escape at) = stop BadEscape at

-- inside is what follows the quote
abbrev pub string_literal : List ℕ → List ℕ → Piece
string_literal start inside = text_literal start (closing (length inside) inside)

abbrev pub raw_end : List ℕ → Option (ℕ × List ℕ) → Piece
raw_end start None = stop CutString start
raw_end start (Some (c, rest)) = token Text true rest

abbrev pub raw_literal : List ℕ → List ℕ → Piece
raw_literal start inside = raw_end start (split (after_while (in_class Raw) inside))

-- a rune literal after its character
abbrev pub rune_end : List ℕ → List ℕ → Piece
rune_end start [] = stop CutString start
rune_end start (c ∷ cs) = if c == single_quote then token Rune true cs
    else (if c == line_feed then stop OpenString start else stop BadChar start)

abbrev pub rune_escape : List ℕ → List ℕ → Escape → Piece
rune_escape start at (whole rest) = rune_end start rest
rune_escape start at wrong = stop BadEscape at
rune_escape start at cut = stop CutString start

abbrev pub rune_literal : List ℕ → List ℕ → Piece
rune_literal start [] = stop CutString start
rune_literal start (c ∷ cs) =
    if c == single_quote then stop BadChar start
    else (if c == line_feed then stop OpenString start
    else (if c == backslash then rune_escape start (c ∷ cs) (escape single_quote cs)
    else rune_end start cs))

-- what the program reads, by the characters of its text
abbrev pub closing_of : ReadClosing → Closing
closing_of (read.Closed rest) = closed (chars rest.now)
closing_of read.LineEnds = line_ends
closing_of read.TextEnds = text_ends
closing_of (read.BadEscape at) = bad_escape (chars at.now)

abbrev pub element_of : ReadElement → Element
element_of (read_element.Goes rest) = goes (chars rest.now)
element_of (read_element.Ends how) = ends (closing_of how)
