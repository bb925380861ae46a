-- Keywords (the language specification's section of this name).
use Rattle.std.specs.Prelude.{ℕ, Bool, true, false, nat_eq, List, codes, if◌then◌else◌, Option, Some, None}
use Rattle.std.specs.Cmp.Lexicographic.{pointwise}
use Rattle.std.specs.Str.{encode_utf8_all}
use Rattle.go_lexer.specs.declared.token_kinds.TokenKind.TheVariants.{Ident, Word}
use Rattle.code_tables.specs.declared.words.Keyword.{Keyword}
use Rattle.code_tables.specs.declared.words.Keyword.TheVariants.{Break, Case, Chan, Const, Continue, Default, Defer}
use Rattle.code_tables.specs.declared.words.Keyword.TheVariants.{Else, Fallthrough, For, Func, Go, Goto, If, Import}
use Rattle.code_tables.specs.declared.words.Keyword.TheVariants.{Interface, Map, Package, Range, Return, Select, Struct}
use Rattle.code_tables.specs.declared.words.Keyword.TheVariants.{Switch, «Type», Var}
use Rattle.go_lexer.specs.Characters.{front_while, after_while}
use Rattle.go_lexer.specs.Classes.{continues_name}
use Rattle.go_lexer.specs.Pieces.{Piece, token}

abbrev pub same : List ℕ → List ℕ → Bool
same = pointwise nat_eq

-- the keyword that has these bytes, in the first and in the second half of the alphabet's order
abbrev pub early_keyword : List ℕ → Option Keyword
early_keyword w =
    if same w (codes "break") then Some Break
    else (if same w (codes "case") then Some Case
    else (if same w (codes "chan") then Some Chan
    else (if same w (codes "const") then Some Const
    else (if same w (codes "continue") then Some Continue
    else (if same w (codes "default") then Some Default
    else (if same w (codes "defer") then Some Defer
    else (if same w (codes "else") then Some Else
    else (if same w (codes "fallthrough") then Some Fallthrough
    else (if same w (codes "for") then Some For
    else (if same w (codes "func") then Some Func
    else (if same w (codes "go") then Some Go
    else (if same w (codes "goto") then Some Goto
    else None))))))))))))

abbrev pub late_keyword : List ℕ → Option Keyword
late_keyword w =
    if same w (codes "if") then Some If
    else (if same w (codes "import") then Some Import
    else (if same w (codes "interface") then Some Interface
    else (if same w (codes "map") then Some Map
    else (if same w (codes "package") then Some Package
    else (if same w (codes "range") then Some Range
    else (if same w (codes "return") then Some Return
    else (if same w (codes "select") then Some Select
    else (if same w (codes "struct") then Some Struct
    else (if same w (codes "switch") then Some Switch
    else (if same w (codes "type") then Some «Type»
    else (if same w (codes "var") then Some Var
    else None)))))))))))

abbrev pub keyword_or : Option Keyword → Option Keyword → Option Keyword
keyword_or (Some keyword) other = Some keyword
keyword_or None other = other

abbrev pub keyword_of : List ℕ → Option Keyword
keyword_of w = keyword_or (early_keyword w) (late_keyword w)

-- a line that ends after one of these ends with a semicolon
abbrev pub keyword_owes : Keyword → Bool
keyword_owes Break = true
keyword_owes Continue = true
keyword_owes Fallthrough = true
keyword_owes Return = true
keyword_owes _ = false

abbrev pub word_piece : Option Keyword → List ℕ → Piece
word_piece (Some keyword) rest = token (Word keyword) (keyword_owes keyword) rest
word_piece None rest = token Ident true rest

-- an identifier or a keyword, of a text that begins with a letter
abbrev pub word : List ℕ → Piece
word cs = word_piece (keyword_of (encode_utf8_all (front_while continues_name cs))) (after_while continues_name cs)
