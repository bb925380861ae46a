-- Comments (the language specification's section of this name).
use Rattle.std.specs.Prelude.{ℕ, Bool, false, ◌==◌, ◌||◌, List, [], ◌∷◌, Option, Some, None}
use Rattle.go_lexer.specs.declared.pieces.Breach.TheVariants.{CutComment}
use Rattle.go_lexer.specs.Characters.{line_feed, star, slash, after_while, strip_pair}
use Rattle.go_lexer.specs.Classes.{in_class}
use Rattle.go_lexer.specs.declared.classes.Class.TheVariants.{Line}
use Rattle.go_lexer.specs.Pieces.{Piece, blank, stop}

-- a line comment goes on to the end of its line
abbrev pub line_comment : List ℕ → Piece
line_comment cs = blank false (after_while (in_class Line) cs)

-- What a general comment still holds, whether it has had a line feed, and what follows it. There is none where
-- the text ends inside it.
abbrev pub general_by : Option (Bool × List ℕ) → Bool → Option (List ℕ) → Option (Bool × List ℕ)
general_by more breaks (Some rest) = Some (breaks, rest)
general_by more breaks None = more

abbrev pub general : Bool → List ℕ → Option (Bool × List ℕ)
general breaks [] = None
general breaks (c ∷ cs) = general_by (general (breaks || c == line_feed) cs) breaks (strip_pair star slash (c ∷ cs))

abbrev pub commented : List ℕ → Option (Bool × List ℕ) → Piece
commented start (Some found) = blank found.0 found.1
commented start None = stop CutComment start

-- a general comment that begins at start; inside is what follows its opening
abbrev pub general_comment : List ℕ → List ℕ → Piece
general_comment start inside = commented start (general false inside)
