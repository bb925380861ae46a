-- What files are: trees, or faults under codes.
use Rattle.std.specs.Prelude.{◌≡◌, ℕ, suc, Bool, true, false, if◌then◌else◌, List, [], ◌∷◌, ◌++◌, map}
use Rattle.std.specs.Prelude.{Result, Ok, Err}
use Rattle.std.specs.Borrow.{Bor}
use Rattle.go_lexer.specs.declared.token_kinds.LexFault.{LexFault}
use Rattle.go_lexer.specs.declared.token_kinds.LexFault.TheVariants as lex
use Rattle.go_lexer.specs.declared.token_kinds.Token.{Token}
use Rattle.go_lexer.specs.Lexing.{lexed_source}
use Rattle.go_syntax.specs.declared.parsing.SyntaxFault.{SyntaxFault}
use Rattle.go_syntax.specs.declared.parsing.SyntaxFault.TheVariants as syntax
use Rattle.go_syntax.specs.declared.tree.SourceFile.{SourceFile}
use Rattle.go_syntax.specs.Parsing.{reading_of}
use Rattle.refusal_codes.specs.declared.codes.Code.{Code}
use Rattle.refusal_codes.specs.declared.codes.Code.TheVariants as code
use Rattle.source_places.specs.declared.places.Found.{Found}
use Rattle.source_walk.specs.declared.parsed.ParsedFile.{ParsedFile}
use Rattle.parsed_files.specs.declared.faults.FileFault.{FileFault}
use Rattle.parsed_files.specs.declared.faults.FileFault.TheVariants as fault
use Rattle.parsed_files.specs.declared.faults.FaultAt.{FaultAt}
use Rattle.parsed_files.specs.declared.faults.FileError.{FileError}
use Rattle.parsed_files.specs.declared.faults.FileError.TheVariants as error

-- ---- one file

-- a fault of tokens, at its place
abbrev pub lex_error : LexFault → FileError
lex_error (lex.BadUtf8 at) = error.Fault (record { at = at; cause = fault.Lex (lex.BadUtf8 at) })
lex_error (lex.Nul at) = error.Fault (record { at = at; cause = fault.Lex (lex.Nul at) })
lex_error (lex.BadChar at) = error.Fault (record { at = at; cause = fault.Lex (lex.BadChar at) })
lex_error (lex.OpenString at) = error.Fault (record { at = at; cause = fault.Lex (lex.OpenString at) })
lex_error (lex.OpenComment at) = error.Fault (record { at = at; cause = fault.Lex (lex.OpenComment at) })
lex_error (lex.BadEscape at) = error.Fault (record { at = at; cause = fault.Lex (lex.BadEscape at) })
lex_error (lex.BadNumber at) = error.Fault (record { at = at; cause = fault.Lex (lex.BadNumber at) })
lex_error lex.OutOfMemory = error.OutOfMemory

abbrev pub syntax_error : SyntaxFault → FileError
syntax_error (syntax.Unexpected at) = error.Fault (record { at = at; cause = fault.Unexpected })
syntax_error (syntax.LeftOut at what) = error.Fault (record { at = at; cause = fault.LeftOut what })
syntax_error syntax.OutOfMemory = error.OutOfMemory

abbrev pub by_tree : Result SourceFile SyntaxFault → Result SourceFile FileError
by_tree (Ok tree) = Ok tree
by_tree (Err f) = Err (syntax_error f)

abbrev pub by_tokens : List ℕ → Result (List Token) LexFault → Result SourceFile FileError
by_tokens source (Ok tokens) = by_tree (reading_of source tokens)
by_tokens source (Err f) = Err (lex_error f)

-- the tree of the tokens of a source, or the first fault of these or of their syntax
unfoldable pub outcome : List ℕ → Result SourceFile FileError
outcome source = by_tokens source (lexed_source source)

-- the answer is this one, unless memory ran out
abbrev pub ReadsAs : Result SourceFile FileError → Result SourceFile FileError → Type 0
ReadsAs (Err error.OutOfMemory) read = Unit {0}
ReadsAs answer read = answer ≡ read

-- ---- all files

abbrev pub bytes_of : List (Bor (List ℕ)) → List (List ℕ)
bytes_of sources = map (λ source. source.now) sources

-- the code under which a fault is told
abbrev pub is_under : Code → FileFault → Bool
is_under code.Lex (fault.Lex f) = true
is_under code.Syntax fault.Unexpected = true
is_under code.LeftOut (fault.LeftOut what) = true
is_under _ _ = false

abbrev pub placed : ℕ → FaultAt → Found FileFault
placed file f = record { place = record { file = file; at = f.at }; cause = f.cause }

-- the place of a file that has a fault under a code
abbrev pub fault_place : Code → ℕ → Result SourceFile FileError → List (Found FileFault)
fault_place c file (Err (error.Fault f)) = if is_under c f.cause then (placed file f ∷ []) else []
fault_place c file _ = []

-- the places of files, the first of which has this number
abbrev pub places_from : Code → ℕ → List (List ℕ) → List (Found FileFault)
places_from c n [] = []
places_from c n (source ∷ sources) = fault_place c n (outcome source) ++ places_from c (suc n) sources

-- the places of each code in the files of a package
abbrev pub file_places : List (List ℕ) → Code → List (Found FileFault)
file_places sources c = places_from c 0 sources

-- the files are those of the sources, each with the tree that its source is
abbrev pub AreTrees : List (List ℕ) → List ParsedFile → Type 0
AreTrees [] [] = Unit {0}
AreTrees (source ∷ sources) (file ∷ files) =
    (file.source.now ≡ source) × (outcome source ≡ Ok file.tree) × AreTrees sources files
AreTrees _ _ = ⊥
