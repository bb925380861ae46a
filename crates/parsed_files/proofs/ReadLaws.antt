-- What reading a file answers is what the file is.
use Rattle.std.proofs.Common.{◌≡◌, ℕ, List, Result, Ok, Err, sym, ap, ◌∙◌}
use Rattle.go_lexer.specs.declared.token_kinds.LexFault.{LexFault}
use Rattle.go_lexer.specs.declared.token_kinds.LexFault.TheVariants as lex
use Rattle.go_lexer.specs.declared.token_kinds.Token.{Token}
use Rattle.go_lexer.specs.Lexing.{lexed_source, Fails}
use Rattle.go_syntax.specs.declared.parsing.SyntaxFault.{SyntaxFault}
use Rattle.go_syntax.specs.declared.parsing.SyntaxFault.TheVariants as syntax
use Rattle.go_syntax.specs.declared.tree.SourceFile.{SourceFile}
use Rattle.go_syntax.specs.Parsing.{reading_of, IsReading}
use Rattle.parsed_files.specs.declared.faults.FileError.{FileError}
use Rattle.parsed_files.specs.Outcomes.{lex_error, syntax_error, by_tree, by_tokens, outcome, ReadsAs}

module _ (source : List ℕ) where
  pub no_tokens : (f : LexFault) (e : FileError) → Fails f (lexed_source source) → e ≡ lex_error f → ReadsAs (Err e) (outcome source)
  unfolding outcome
  no_tokens (lex.BadUtf8 at) e h is = rw is (sym (ap (by_tokens source) h))
  no_tokens (lex.Nul at) e h is = rw is (sym (ap (by_tokens source) h))
  no_tokens (lex.BadChar at) e h is = rw is (sym (ap (by_tokens source) h))
  no_tokens (lex.OpenString at) e h is = rw is (sym (ap (by_tokens source) h))
  no_tokens (lex.OpenComment at) e h is = rw is (sym (ap (by_tokens source) h))
  no_tokens (lex.BadEscape at) e h is = rw is (sym (ap (by_tokens source) h))
  no_tokens (lex.BadNumber at) e h is = rw is (sym (ap (by_tokens source) h))
  no_tokens lex.OutOfMemory e h is = rw is tt

  read_from : (text : List ℕ) (tokens : List Token) → text ≡ source → lexed_source source ≡ Ok tokens → by_tree (reading_of text tokens) ≡ outcome source
  unfolding outcome
  read_from text tokens same lexed = ap (λ t. by_tree (reading_of t tokens)) same ∙ sym (ap (by_tokens source) lexed)

  pub no_tree : (text : List ℕ) (tokens : List Token) (f : SyntaxFault) (e : FileError) → text ≡ source → lexed_source source ≡ Ok tokens → IsReading (Err f) (reading_of text tokens)
      → e ≡ syntax_error f → ReadsAs (Err e) (outcome source)
  no_tree text tokens (syntax.Unexpected at) e same lexed h is = rw is (ap by_tree h ∙ read_from text tokens same lexed)
  no_tree text tokens (syntax.LeftOut at what) e same lexed h is = rw is (ap by_tree h ∙ read_from text tokens same lexed)
  no_tree text tokens syntax.OutOfMemory e same lexed h is = rw is tt

  pub a_tree : (text : List ℕ) (tokens : List Token) (tree : SourceFile) → text ≡ source → lexed_source source ≡ Ok tokens → IsReading (Ok tree) (reading_of text tokens) → Ok tree ≡ outcome source
  a_tree text tokens tree same lexed h = ap by_tree h ∙ read_from text tokens same lexed
