-- The tokens of a source, or its first fault, by reading from the front.
use Rattle.std.specs.Prelude.{◌≡◌, ℕ, zero, suc, Bool, ◌-◌, List, [], ◌∷◌, ◌++◌, length, if◌then◌else◌, Option, Some}
use Rattle.std.specs.Prelude.{None, Result, Ok, Err}
use Rattle.std.specs.Str.{chars, encode_utf8_all}
use Rattle.go_lexer.specs.declared.token_kinds.Token.{Token}
use Rattle.go_lexer.specs.declared.token_kinds.TokenKind.TheVariants.{Inserted}
use Rattle.go_lexer.specs.declared.token_kinds.LexFault.{LexFault}
use Rattle.go_lexer.specs.declared.token_kinds.LexFault.TheVariants as fault
use Rattle.go_lexer.specs.declared.pieces.Breach.{Breach}
use Rattle.go_lexer.specs.declared.pieces.Breach.TheVariants.{BadChar, OpenString, BadEscape, BadNumber, CutString}
use Rattle.go_lexer.specs.declared.pieces.Breach.TheVariants.{CutComment}
use Rattle.go_lexer.specs.declared.source.Ending.{Ending}
use Rattle.go_lexer.specs.declared.source.Ending.TheVariants.{File, BadUtf8, Nul}
use Rattle.go_lexer.specs.Pieces.{Piece, blank, token, stop}
use Rattle.go_lexer.specs.Front.{piece}
use Rattle.go_lexer.specs.Source.{text_of, ending_of, after_mark}

-- the place of what is left of a text that ends at this place
abbrev pub place : ℕ → List ℕ → ℕ
place total rest = total - length (encode_utf8_all rest)

-- what is met where the text ends inside a literal or comment that begins at this place: the fault that ends the text,
-- or else that it isn't closed
abbrev pub cut_string : Ending → ℕ → ℕ → LexFault
cut_string File total at = fault.OpenString at
cut_string BadUtf8 total at = fault.BadUtf8 total
cut_string Nul total at = fault.Nul total

abbrev pub cut_comment : Ending → ℕ → ℕ → LexFault
cut_comment File total at = fault.OpenComment at
cut_comment BadUtf8 total at = fault.BadUtf8 total
cut_comment Nul total at = fault.Nul total

abbrev pub fault_at : Ending → ℕ → Breach → ℕ → LexFault
fault_at ending total BadChar at = fault.BadChar at
fault_at ending total OpenString at = fault.OpenString at
fault_at ending total BadEscape at = fault.BadEscape at
fault_at ending total BadNumber at = fault.BadNumber at
fault_at ending total CutString at = cut_string ending total at
fault_at ending total CutComment at = cut_comment ending total at

-- the semicolon that is owed at this place
abbrev pub paid : Option ℕ → List Token
paid None = []
paid (Some at) = record { kind = Inserted; start = at; end = at } ∷ []

-- where the text ends
abbrev pub finish : Ending → ℕ → Option ℕ → Result (List Token) LexFault
finish File total owed = Ok (paid owed)
finish BadUtf8 total owed = Err (fault.BadUtf8 total)
finish Nul total owed = Err (fault.Nul total)

abbrev pub with_front : List Token → Result (List Token) LexFault → Result (List Token) LexFault
with_front front (Ok rest) = Ok (front ++ rest)
with_front front (Err f) = Err f

-- the tokens of a blank that does or doesn't end a line, and what is owed after it
abbrev pub paid_if : Bool → Option ℕ → List Token
paid_if breaks owed = if breaks then paid owed else []

abbrev pub owed_after : Bool → Option ℕ → Option ℕ
owed_after breaks owed = if breaks then None else owed

-- what is owed after a token that ends here
abbrev pub owes_at : Bool → ℕ → Option ℕ
owes_at owes end = if owes then Some end else None

-- a piece at the front of these characters, and what more makes of the rest
abbrev pub lexed_by : Ending → ℕ → (Option ℕ → List ℕ → Result (List Token) LexFault) → Option ℕ → List ℕ → Piece
    → Result (List Token) LexFault
lexed_by ending total more owed cs (blank breaks rest) = with_front (paid_if breaks owed)
    (more (owed_after breaks owed) rest)
lexed_by ending total more owed cs (token kind owes rest) =
    with_front (record { kind = kind; start = place total cs; end = place total rest } ∷ [])
    (more (owes_at owes (place total rest)) rest)
lexed_by ending total more owed cs (stop breach rest) = Err (fault_at ending total breach (place total rest))

-- The tokens of up to n pieces. Each takes a character, so a text of n characters has at most n.
abbrev pub lexed : Ending → ℕ → ℕ → Option ℕ → List ℕ → Result (List Token) LexFault
lexed ending total zero owed cs = finish ending total owed
lexed ending total (suc n) owed [] = finish ending total owed
lexed ending total (suc n) owed (c ∷ cs) = lexed_by ending total (lexed ending total n) owed (c ∷ cs) (piece (c ∷ cs))

abbrev pub lexed_text : Ending → ℕ → Option ℕ → List ℕ → Result (List Token) LexFault
lexed_text ending total owed cs = lexed ending total (length cs) owed cs

-- the tokens of a source, or the first fault
unfoldable pub lexed_source : List ℕ → Result (List Token) LexFault
lexed_source src = lexed_text (ending_of src) (length (text_of src)) None (after_mark (chars (text_of src)))

-- What a call answers is what reading gives, unless memory ran out.
abbrev pub Fails : {Y : Type 0} → LexFault → Result Y LexFault → Type 0
Fails fault.OutOfMemory read = Unit {0}
Fails f read = read ≡ Err f

abbrev pub LexesAs : {X Y : Type 0} → (X → Y) → Result X LexFault → Result Y LexFault → Type 0
LexesAs view (Ok x) read = read ≡ Ok (view x)
LexesAs view (Err f) read = Fails f read
