-- What the answer of a call says of a source.
use Rattle.std.proofs.Common.{ℕ, ◌≤◌, List, [], Result, Ok, Err, refl, sym, subst, arith, ◌≡◌}
use Rattle.std.specs.Prelude.{IfOk, IfErr}
use Rattle.std.specs.List.{All}
use Rattle.go_lexer.specs.TokenTexts.{IsTokenOf}
use Rattle.go_lexer.specs.declared.token_kinds.Token.{Token}
use Rattle.go_syntax.specs.declared.tree.SourceFile.{SourceFile}
use Rattle.go_expr_syntax.specs.declared.faults.Fault.{Fault}
use Rattle.go_expr_syntax.specs.declared.faults.Fault.TheVariants as stop
use Rattle.go_expr_syntax.specs.declared.faults.Stop.{Stop}
use Rattle.go_expr_syntax.specs.declared.faults.Stop.TheVariants as stopped
use Rattle.go_expr_syntax.specs.Reading.{Gives}
use Rattle.go_syntax.specs.Decls.{IsFileOf}
use Rattle.go_syntax.specs.Files.{file_at}
use Rattle.go_syntax.specs.declared.parsing.TheConstants.{MAX_DEPTH}
use Rattle.go_syntax.specs.declared.parsing.SyntaxFault.{SyntaxFault}
use Rattle.go_syntax.specs.Outcomes.{IsFile, Explains}
use Rattle.go_expr_syntax.specs.TokenView.{symbols_of}
use Rattle.go_syntax.specs.Parsing.{fault_of, answer_of, Tells, Answers, placed_in, reading_of, IsReading}
use Rattle.go_syntax.specs.StandingFiles.{FileStands}
use Rattle.go_expr_syntax.proofs.SymbolsStanding.{symbols_stand}
use Rattle.go_syntax.proofs.Laws.{is_found, is_only, is_within, explains}
use Rattle.go_syntax.proofs.StandingFileLaws.{file_stands}

abbrev Reads : List ℕ → List Token → Result SourceFile Stop → Type 0
Reads src tokens r = Gives (λ x. x) r (file_at MAX_DEPTH (symbols_of src tokens))

pub found_by : (src : List ℕ) (tokens : List Token) (r : Result SourceFile Stop) → Reads src tokens r → IfOk (answer_of src tokens r) (λ f. IsFile (symbols_of src tokens) f)
found_by src tokens (Ok f) h = is_found MAX_DEPTH (omega arith) (symbols_of src tokens) f h
found_by src tokens (Err stopped.OutOfMemory) h = tt
found_by src tokens (Err (stopped.At f)) h = tt

only_at : (src : List ℕ) (tokens : List Token) (f : SourceFile) (r : Result SourceFile Stop) → Gives (λ x. x) r (Ok f) → Answers (answer_of src tokens r) f
only_at src tokens f (Ok x) h = cc
only_at src tokens f (Err stopped.OutOfMemory) h = tt
only_at src tokens f (Err (stopped.At g)) h = absurd cc

pub only_by : (src : List ℕ) (tokens : List Token) (r : Result SourceFile Stop) → Reads src tokens r → (m : ℕ) (f : SourceFile) → IsFileOf m (symbols_of src tokens) f [] → m ≤ MAX_DEPTH → Answers (answer_of src tokens r) f
only_by src tokens r h m f w le = only_at src tokens f r (subst (Gives (λ (x : SourceFile). x) r) (is_only MAX_DEPTH m (omega arith) (symbols_of src tokens) f w le) h)

pub within_by : (src : List ℕ) (tokens : List Token) (r : Result SourceFile Stop) → Reads src tokens r → IfOk (answer_of src tokens r) (λ x. (m : ℕ) (f : SourceFile) → IsFileOf m (symbols_of src tokens) f [] → m ≤ MAX_DEPTH)
within_by src tokens (Ok x) h = λ m f w. is_within MAX_DEPTH m (omega arith) (symbols_of src tokens) f x h w
within_by src tokens (Err stopped.OutOfMemory) h = tt
within_by src tokens (Err (stopped.At f)) h = tt

told : (src : List ℕ) (tokens : List Token) (f : Fault) → Explains MAX_DEPTH (symbols_of src tokens) f → Tells src tokens (fault_of src tokens f)
told src tokens (stop.Unexpected left) h = (left, refl, h)
told src tokens (stop.Deep left at) h = (left, h.0, h.1)
told src tokens (stop.DotImport left) h = (left, refl, h)
told src tokens (stop.Call left at) h = (left, h)

pub place_by : (src : List ℕ) (tokens : List Token) (r : Result SourceFile Stop) → Reads src tokens r → IfErr (answer_of src tokens r) (λ s. Tells src tokens s)
place_by src tokens (Ok x) h = tt
place_by src tokens (Err stopped.OutOfMemory) h = tt
place_by src tokens (Err (stopped.At f)) h = told src tokens f (explains MAX_DEPTH (omega arith) (symbols_of src tokens) f h)

exact_at : (src : List ℕ) (tokens : List Token) (f : Fault) (read : Result SourceFile Fault) → read ≡ Err f → IsReading (Err (fault_of src tokens f)) (placed_in src tokens read)
exact_at src tokens (stop.Unexpected left) read e = rw e refl
exact_at src tokens (stop.Deep left at) read e = rw e refl
exact_at src tokens (stop.DotImport left) read e = rw e refl
exact_at src tokens (stop.Call left at) read e = rw e refl

pub exact_by : (src : List ℕ) (tokens : List Token) (r : Result SourceFile Stop) → Reads src tokens r → IsReading (answer_of src tokens r) (reading_of src tokens)
exact_by src tokens (Ok x) h = rw h refl
exact_by src tokens (Err stopped.OutOfMemory) h = tt
exact_by src tokens (Err (stopped.At f)) h = exact_at src tokens f (file_at MAX_DEPTH (symbols_of src tokens)) h

pub stands_by : (src : List ℕ) (tokens : List Token) (r : Result SourceFile Stop) → All (IsTokenOf src) tokens → Reads src tokens r → IfOk (answer_of src tokens r) (λ f. FileStands src f)
stands_by src tokens (Ok x) all h = let w = is_found MAX_DEPTH (omega arith) (symbols_of src tokens) x h in file_stands src w.0 (symbols_of src tokens) x [] w.1 (symbols_stand src tokens all)
stands_by src tokens (Err stopped.OutOfMemory) all h = tt
stands_by src tokens (Err (stopped.At f)) all h = tt

-- what holds of a source and its tokens, where they are lent
pub at_source : (P : List ℕ → List Token → Result SourceFile SyntaxFault → Type 0) (src lent : List ℕ) (tokens items : List Token) (answer result : Result SourceFile SyntaxFault) → src ≡ lent → tokens ≡ items → result ≡ answer → P src tokens answer → P lent items result
at_source P src lent tokens items answer result e f g h = subst (λ s. P s items result) e (subst (λ t. P src t result) f (subst (λ r. P src tokens r) (sym g) h))

pub tokens_of : (src lent : List ℕ) (tokens : List Token) → src ≡ lent → All (IsTokenOf lent) tokens → All (IsTokenOf src) tokens
tokens_of src lent tokens e h = subst (λ s. All (IsTokenOf s) tokens) (sym e) h
