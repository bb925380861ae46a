-- What reading a whole file may answer.
use Rattle.std.specs.Prelude.{◌≡◌, ℕ, ◌<◌, List, [], ◌∷◌, ◌++◌, length}
use Rattle.go_expr_syntax.specs.declared.symbols.Symbol.{Symbol}
use Rattle.go_syntax.specs.declared.tree.SourceFile.{SourceFile}
use Rattle.go_expr_syntax.specs.declared.faults.Fault.{Fault}
use Rattle.go_expr_syntax.specs.declared.faults.Fault.TheVariants.{Unexpected, Deep, DotImport, Call}
use Rattle.go_expr_syntax.specs.Reading.{start_of}
use Rattle.go_expr_syntax.specs.Calls.{Called}
use Rattle.go_expr_syntax.specs.Expressions.{IsExpr}
use Rattle.go_type_syntax.specs.Grammar.{IsType, IsUnion}
use Rattle.go_syntax.specs.Decls.{IsAnyImport, IsFileWith, IsFileOf}

-- all of the tokens are this file, whose paths have any number of nodes
abbrev pub IsFile : List Symbol → SourceFile → Type 0
IsFile ts f = (m : ℕ) × IsFileOf m ts f []

abbrev pub BeginsFile : List Symbol → Type 0
BeginsFile ts = (more : List Symbol) × (f : SourceFile) × IsFile (ts ++ more) f

-- with the next token they begin no file, or there is no next one and they are none
abbrev pub Stops : List Symbol → List Symbol → Type 0
Stops front [] = (f : SourceFile) → IsFile front f → ⊥
Stops front (k ∷ ts) = BeginsFile (front ++ k ∷ []) → ⊥

-- The tokens so far begin a file, and with the next one they don't. So many are left.
pub record IsUnexpected (ts : List Symbol) (left : ℕ) : Type 0 where
  pub front : List Symbol
  pub rest : List Symbol
  pub split : ts ≡ front ++ rest
  pub place : left ≡ length rest
  pub begins : BeginsFile front
  pub ends : Stops front rest

-- each file that begins with them and the next token, or each that they are, has a path of more than n nodes
abbrev pub Deepens : ℕ → List Symbol → List Symbol → Type 0
Deepens n front [] = (f : SourceFile) (m : ℕ) → IsFileOf m front f [] → n < m
Deepens n front (k ∷ ts) = (more : List Symbol) (f : SourceFile) (m : ℕ) → IsFileOf m (front ++ k ∷ more) f [] → n < m

-- with the next token they begin something of G
abbrev pub GoesOnTo : (List Symbol → SourceFile → Type 0) → List Symbol → List Symbol → Type 0
GoesOnTo G front [] = ⊥
GoesOnTo G front (k ∷ ts) = (more : List Symbol) × (f : SourceFile) × G ((front ++ k ∷ []) ++ more) f

-- The tokens so far begin a file, and with the next one too, but then a path has more than n nodes. So many are left.
pub record IsTooDeep (n : ℕ) (ts : List Symbol) (left : ℕ) : Type 0 where
  pub front : List Symbol
  pub rest : List Symbol
  pub split : ts ≡ front ++ rest
  pub place : left ≡ length rest
  pub begins : BeginsFile front
  pub goes : GoesOnTo IsFile front rest
  pub deeper : Deepens n front rest

-- ---- the place of a path that is too long

-- With the next token what begins at this place has a path of more than n nodes: each of F that goes on so, and some of
-- it does.
pub record IsDeepFrom {X : Type 0} (F : ℕ → List Symbol → X → List Symbol → Type 0) (n : ℕ) (ts : List Symbol)
    (left at : ℕ) : Type 0 where
  pub front : List Symbol
  pub next : Symbol
  pub rest : List Symbol
  pub split : ts ≡ front ++ next ∷ rest
  pub place : left ≡ length (next ∷ rest)
  pub starts : at ≡ start_of ts
  pub goes : (more : List Symbol) × (x : X) × (m : ℕ) × F m (front ++ next ∷ more) x []
  pub deeper : (more : List Symbol) (x : X) (m : ℕ) → F m (front ++ next ∷ more) x [] → n < m

-- It is in a type, a constraint or an expression whose first token stands at this place.
pub data IsDeepPart (n : ℕ) (ts : List Symbol) (left at : ℕ) : Type 0 where
  in_type : (before part : List Symbol) → ts ≡ before ++ part → IsDeepFrom IsType n part left at
      → IsDeepPart n ts left at
  in_constraint : (before part : List Symbol) → ts ≡ before ++ part → IsDeepFrom IsUnion n part left at
      → IsDeepPart n ts left at
  in_expression : (before part : List Symbol) → ts ≡ before ++ part → IsDeepFrom (IsExpr 5) n part left at
      → IsDeepPart n ts left at

-- ---- what is left out

-- all of the tokens are a file in which an import may be of all the names of a package
abbrev pub IsFileWithDots : List Symbol → SourceFile → Type 0
IsFileWithDots ts f = (m : ℕ) × IsFileWith IsAnyImport m ts f []

-- all of the tokens are a file in which one operand of a constant is a call, with its parenthesis at this place
abbrev pub IsFileWithCall : ℕ → List Symbol → SourceFile → Type 0
IsFileWithCall at ts f = Called (λ us x rest. (m : ℕ) × IsFileOf m us x rest) at ts f []

-- The tokens so far begin a file, and with the next one they begin none, but something of G. So many are left.
pub record IsLeftOut (G : List Symbol → SourceFile → Type 0) (ts : List Symbol) (left : ℕ) : Type 0 where
  pub front : List Symbol
  pub rest : List Symbol
  pub split : ts ≡ front ++ rest
  pub place : left ≡ length rest
  pub begins : BeginsFile front
  pub ends : Stops front rest
  pub goes : GoesOnTo G front rest

-- what each fault says of the tokens, where n nodes are allowed
abbrev pub Explains : ℕ → List Symbol → Fault → Type 0
Explains n ts (Unexpected left) = IsUnexpected ts left
Explains n ts (Deep left at) = IsTooDeep n ts left × IsDeepPart n ts left at
Explains n ts (DotImport left) = IsLeftOut IsFileWithDots ts left
Explains n ts (Call left at) = IsLeftOut (IsFileWithCall at) ts left
