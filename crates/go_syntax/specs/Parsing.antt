-- What parsing a source may answer.
use Rattle.std.specs.Prelude.{◌≡◌, ℕ, List, Result, Ok, Err}
use Rattle.go_lexer.specs.TokenTexts.{Lexed}
use Rattle.go_lexer.specs.declared.token_kinds.Token.{Token}
use Rattle.go_expr_syntax.specs.declared.symbols.Symbol.{Symbol}
use Rattle.go_syntax.specs.declared.tree.SourceFile.{SourceFile}
use Rattle.go_expr_syntax.specs.declared.faults.Fault.{Fault}
use Rattle.go_expr_syntax.specs.declared.faults.Fault.TheVariants as stop
use Rattle.go_expr_syntax.specs.declared.faults.Stop.{Stop}
use Rattle.go_expr_syntax.specs.declared.faults.Stop.TheVariants as stopped
use Rattle.go_syntax.specs.declared.parsing.LeftOutKind.{LeftOutKind}
use Rattle.go_syntax.specs.declared.parsing.LeftOutKind.TheVariants as what
use Rattle.go_syntax.specs.declared.parsing.SyntaxFault.{SyntaxFault}
use Rattle.go_syntax.specs.declared.parsing.SyntaxFault.TheVariants as fault
use Rattle.go_syntax.specs.Outcomes.{IsUnexpected, IsTooDeep, IsDeepPart, IsLeftOut, IsFileWithDots, IsFileWithCall}
use Rattle.go_expr_syntax.specs.TokenView.{symbols_of, place_of}
use Rattle.go_syntax.specs.Files.{file_at}
use Rattle.go_syntax.specs.declared.parsing.TheConstants.{MAX_DEPTH}

-- the tokens of a source, as the grammar sees them
abbrev pub symbols : Lexed → List Symbol
symbols s = symbols_of s.source s.tokens

abbrev pub fault_of : List ℕ → List Token → Fault → SyntaxFault
fault_of src tokens (stop.Unexpected left) = fault.Unexpected (place_of src tokens left)
fault_of src tokens (stop.Deep left at) = fault.LeftOut at what.Depth
fault_of src tokens (stop.DotImport left) = fault.LeftOut (place_of src tokens left) what.DotImport
fault_of src tokens (stop.Call left at) = fault.LeftOut at what.Call

-- what reading a source from the front gives, with each fault at its place
abbrev pub placed_in : List ℕ → List Token → Result SourceFile Fault → Result SourceFile SyntaxFault
placed_in src tokens (Ok f) = Ok f
placed_in src tokens (Err f) = Err (fault_of src tokens f)

abbrev pub reading_of : List ℕ → List Token → Result SourceFile SyntaxFault
reading_of src tokens = placed_in src tokens (file_at MAX_DEPTH (symbols_of src tokens))

-- the answer is this one, unless memory ran out
abbrev pub IsReading : Result SourceFile SyntaxFault → Result SourceFile SyntaxFault → Type 0
IsReading (Err fault.OutOfMemory) read = Unit {0}
IsReading answer read = answer ≡ read

-- what is answered of a call that reads
abbrev pub answer_of : List ℕ → List Token → Result SourceFile Stop → Result SourceFile SyntaxFault
answer_of src tokens (Ok f) = Ok f
answer_of src tokens (Err stopped.OutOfMemory) = Err fault.OutOfMemory
answer_of src tokens (Err (stopped.At f)) = Err (fault_of src tokens f)

abbrev pub TellsOut : List ℕ → List Token → ℕ → LeftOutKind → Type 0
TellsOut src tokens at what.Depth =
    (left : ℕ) × IsTooDeep MAX_DEPTH (symbols_of src tokens) left
    × IsDeepPart MAX_DEPTH (symbols_of src tokens) left at
TellsOut src tokens at what.Call = (left : ℕ) × IsLeftOut (IsFileWithCall at) (symbols_of src tokens) left
TellsOut src tokens at what.DotImport =
    (left : ℕ) × (at ≡ place_of src tokens left) × IsLeftOut IsFileWithDots (symbols_of src tokens) left

-- what each fault says of the tokens
abbrev pub Tells : List ℕ → List Token → SyntaxFault → Type 0
Tells src tokens (fault.Unexpected at) =
    (left : ℕ) × (at ≡ place_of src tokens left) × IsUnexpected (symbols_of src tokens) left
Tells src tokens (fault.LeftOut at w) = TellsOut src tokens at w
Tells src tokens fault.OutOfMemory = Unit {0}

-- the answer is this file, unless memory ran out
abbrev pub Answers : Result SourceFile SyntaxFault → SourceFile → Type 0
Answers (Ok x) f = f ≡ x
Answers (Err fault.OutOfMemory) f = Unit {0}
Answers (Err (fault.Unexpected at)) f = ⊥
Answers (Err (fault.LeftOut at w)) f = ⊥
