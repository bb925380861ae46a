-- Names and tags, as they are written and as they are read.
use Rattle.std.specs.Prelude.{ℕ, List, [], ◌∷◌, Some, None, Ok, Err}
use Rattle.go_expr_syntax.specs.declared.symbols.Symbol.{Symbol}
use Rattle.go_expr_syntax.specs.declared.symbols.Symbol.TheVariants as t
use Rattle.go_expr_syntax.specs.declared.symbols.Ident.{Ident}
use Rattle.string_literals.specs.Values.{value_of}
use Rattle.go_expr_syntax.specs.declared.tree.NameExpr.{NameExpr}
use Rattle.go_expr_syntax.specs.Reading.{Quoted, Reply, ◌>>=◌, unexpected, past, choose, is_dot, is_comma}

abbrev pub plain : Ident → NameExpr
plain i = record { «package» = None; name = i; at = i.start }

abbrev pub selected : Ident → Ident → NameExpr
selected p i = record { «package» = Some p; name = i; at = p.start }

-- TypeName = identifier | identifier "." identifier
pub data IsTypeName : List Symbol → NameExpr → List Symbol → Type 0 where
  own : (i : Ident) (rest : List Symbol) → IsTypeName (t.Ident i ∷ rest) (plain i) rest
  of_package : (p : Ident) (d : ℕ) (i : Ident) (rest : List Symbol)
      → IsTypeName (t.Ident p ∷ t.Dot d ∷ t.Ident i ∷ rest) (selected p i) rest

-- IdentifierList = identifier { "," identifier }
pub data IsNames : List Symbol → List Ident → List Symbol → Type 0 where
  one : (i : Ident) (rest : List Symbol) → IsNames (t.Ident i ∷ rest) (i ∷ []) rest
  more : (i : Ident) (c : ℕ) (ts : List Symbol) (names : List Ident) (rest : List Symbol) → IsNames ts names rest
      → IsNames (t.Ident i ∷ t.Comma c ∷ ts) (i ∷ names) rest

-- Tag = [ string_lit ], with the value of the literal, or the empty one
pub data IsTag : List Symbol → List ℕ → List Symbol → Type 0 where
  none : (rest : List Symbol) → IsTag rest [] rest
  some : (s : Quoted) (rest : List Symbol) → IsTag (t.Text s ∷ rest) (value_of s.1) rest

-- ---- reading

abbrev pub ident_at : List Symbol → Reply Ident
ident_at (t.Ident i ∷ ts) = Ok (i, ts)
ident_at ts = unexpected ts

-- q of the identifier where one comes next, and else the other
abbrev pub ident_or : {X : Type 0} → Reply Ident → (Ident → List Symbol → Reply X) → Reply X → Reply X
ident_or (Ok i) q other = q i.0 i.1
ident_or (Err f) q other = other

abbrev pub tag_at : List Symbol → Reply (List ℕ)
tag_at (t.Text s ∷ ts) = Ok (value_of s.1, ts)
tag_at ts = Ok ([], ts)

-- after the first identifier
abbrev pub selected_by : Ident → List Symbol → Reply NameExpr
selected_by p ts = ident_at ts >>= λ i. Ok (selected p i.0, i.1)

abbrev pub dotted : Ident → List Symbol → Reply NameExpr
dotted i ts = choose (past is_dot ts) (selected_by i) (Ok (plain i, ts))

-- after an identifier of a list, with what reads more of it
abbrev pub names_more : (List Symbol → Reply (List Ident)) → Ident → List Symbol → Reply (List Ident)
names_more inner i ts = inner ts >>= λ names. Ok (i ∷ names.0, names.1)

abbrev pub names_end : (List Symbol → Reply (List Ident)) → Ident → List Symbol → Reply (List Ident)
names_end inner i ts = choose (past is_comma ts) (names_more inner i) (Ok (i ∷ [], ts))

-- identifiers with a comma between each two
abbrev pub names_at : List Symbol → Reply (List Ident)
names_at [] = unexpected []
names_at (t.Ident i ∷ t.Comma c ∷ ts) = names_at ts >>= λ names. Ok (i ∷ names.0, names.1)
names_at (t.Ident i ∷ ts) = Ok (i ∷ [], ts)
names_at (k ∷ ts) = unexpected (k ∷ ts)
