-- What stands at the front of a text.
use Rattle.std.specs.Prelude.{Bool, List, ℕ}
use Rattle.std.specs.Str.{chars}
use Rattle.go_lexer.specs.declared.token_kinds.TokenKind.{TokenKind}
use Rattle.go_lexer.specs.declared.pieces.Breach.{Breach}
use Rattle.go_lexer.specs.declared.pieces.Piece.{Piece as ReadPiece}
use Rattle.go_lexer.specs.declared.pieces.Piece.TheVariants as read

-- White space or a comment, and whether it ends a line; a token, and whether a line that ends after it ends with
-- a semicolon; a fault. Each with the characters after it, a fault with the characters from its place on.
pub data Piece : Type 0 where
  blank : Bool → List ℕ → Piece
  token : TokenKind → Bool → List ℕ → Piece
  stop : Breach → List ℕ → Piece

-- a piece of the program, by the characters of its text
abbrev pub piece_of : ReadPiece → Piece
piece_of (read.Blank breaks rest) = blank breaks (chars rest.now)
piece_of (read.Token kind owes rest) = token kind owes (chars rest.now)
piece_of (read.Stop breach rest) = stop breach (chars rest.now)
