-- Names as texts: what an identifier's span spells in a source, and where.
use Rattle.std.specs.Prelude.{◌-◌, ℕ, List, take, drop, Option, Some, None}
use Rattle.go_expr_syntax.specs.declared.symbols.Ident.{Ident}

pub record Word : Type 0 where
  pub text : List ℕ
  pub at : ℕ

-- the bytes of a span, as far as it lies in the source
abbrev pub span : List ℕ → ℕ → ℕ → List ℕ
span source start end = take (end - start) (drop start source)

unfoldable pub word : List ℕ → Ident → Word
word source i = record { text = span source i.start i.end; at = i.start }

abbrev pub word_if_any : List ℕ → Option Ident → Option Word
word_if_any source (Some i) = Some (word source i)
word_if_any source None = None
