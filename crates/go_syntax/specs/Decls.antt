-- The grammar of declarations and files, a production a case. The number is that of the nodes on a longest path of
-- a tree.
use Rattle.std.specs.Prelude.{◌≡◌, ℕ, max, true, false, List, [], ◌∷◌, ◌++◌, Option, Some, None}
use Rattle.go_expr_syntax.specs.declared.symbols.Symbol.{Symbol}
use Rattle.go_expr_syntax.specs.declared.symbols.Symbol.TheVariants as t
use Rattle.go_expr_syntax.specs.declared.symbols.Ident.{Ident}
use Rattle.go_expr_syntax.specs.Reading.{Quoted, starts, shows_length}
use Rattle.string_literals.specs.Values.{value_of}
use Rattle.go_syntax.specs.declared.constants.Written.{Written}
use Rattle.go_syntax.specs.declared.tree.Import.{Import}
use Rattle.go_syntax.specs.declared.tree.Top.{Top}
use Rattle.go_syntax.specs.declared.tree.Top.TheVariants as top
use Rattle.go_type_syntax.specs.declared.tree.TypeExpr.{TypeExpr}
use Rattle.go_syntax.specs.declared.tree.FuncDecl.{FuncDecl}
use Rattle.go_syntax.specs.declared.tree.TParam.{TParam}
use Rattle.go_syntax.specs.declared.tree.SourceFile.{SourceFile}
use Rattle.go_expr_syntax.specs.Names.{IsNames}
use Rattle.go_type_syntax.specs.Grammar.{IsType}
use Rattle.go_syntax.specs.Generics.{IsTParams}
use Rattle.go_syntax.specs.Skipped.{IsSkipped}
use Rattle.go_syntax.specs.Functions.{IsFunc}
use Rattle.go_syntax.specs.Constants.{IsConstSpec, counted}

-- with the value of this literal as its path
abbrev pub import : Option Ident → Quoted → Import
import name path = record { name = name; path = value_of path.1; at = path.0.start }

abbrev pub vars : List Ident → Option TypeExpr → Top
vars names ty = top.Var (record { names = names; ty = ty })

abbrev pub defined : Ident → List TParam → TypeExpr → Top
defined i ps ty = top.Defined (record { name = i; tparams = ps; ty = ty })

abbrev pub alias : Ident → List TParam → TypeExpr → Top
alias i ps ty = top.Alias (record { name = i; tparams = ps; ty = ty })

abbrev pub source_file : Ident → List Import → List Top → SourceFile
source_file i imports tops = record { name = i; imports = imports; tops = tops }

-- ImportSpec = [ identifier ] string_lit
pub data IsImport : ℕ → List Symbol → Import → List Symbol → Type 0 where
  plainly : (s : Quoted) (rest : List Symbol) → IsImport 0 (t.Text s ∷ rest) (import None s) rest
  named_so : (i : Ident) (s : Quoted) (rest : List Symbol)
      → IsImport 0 (t.Ident i ∷ t.Text s ∷ rest) (import (Some i) s) rest

-- ImportSpec = [ identifier | "." ] string_lit, as Go has it: the dot imports all the names of a package
pub data IsAnyImport : ℕ → List Symbol → Import → List Symbol → Type 0 where
  by_name : (n : ℕ) (ts : List Symbol) (x : Import) (rest : List Symbol) → IsImport n ts x rest
      → IsAnyImport n ts x rest
  all_names : (d : ℕ) (s : Quoted) (rest : List Symbol) → IsAnyImport 0 (t.Dot d ∷ t.Text s ∷ rest) (import None s) rest

-- [ "=" skipped ], in one line of code
pub data IsValue : List Symbol → List Symbol → Type 0 where
  no_value : (rest : List Symbol) → IsValue rest rest
  value : (a : ℕ) (ts rest : List Symbol) → IsSkipped true ts rest → IsValue (t.Assign a ∷ ts) rest

-- VarSpec = IdentifierList ( Type [ "=" skipped ] | "=" skipped )
pub data IsVarSpec : ℕ → List Symbol → Top → List Symbol → Type 0 where
  of_type : (n : ℕ) (ts : List Symbol) (i : Ident) (names : List Ident) (us : List Symbol) (ty : TypeExpr)
      (vs rest : List Symbol) → IsNames ts (i ∷ names) us → IsType n us ty vs → IsValue vs rest
      → IsVarSpec n ts (vars (i ∷ names) (Some ty)) rest
  of_value : (a : ℕ) (ts : List Symbol) (i : Ident) (names : List Ident) (us rest : List Symbol)
      → IsNames ts (i ∷ names) (t.Assign a ∷ us) → IsSkipped true us rest
      → IsVarSpec 0 ts (vars (i ∷ names) None) rest

-- TypeSpec = identifier [ TypeParams ] [ "=" ] Type
pub data IsTypeSpec : ℕ → List Symbol → Top → List Symbol → Type 0 where
  defines : (n : ℕ) (i : Ident) (ts : List Symbol) (ty : TypeExpr) (rest : List Symbol) → IsType n ts ty rest
      → IsTypeSpec n (t.Ident i ∷ ts) (defined i [] ty) rest
  renames : (n : ℕ) (i : Ident) (a : ℕ) (ts : List Symbol) (ty : TypeExpr) (rest : List Symbol) → IsType n ts ty rest
      → IsTypeSpec n (t.Ident i ∷ t.Assign a ∷ ts) (alias i [] ty) rest
  -- a bracket and an identifier open type parameters, unless the token after them goes on with a length
  defines_generic : (m n : ℕ) (i : Ident) (a : ℕ) (j : Ident) (ts : List Symbol) (ps : List TParam) (us : List Symbol)
      (ty : TypeExpr) (rest : List Symbol)
      → starts shows_length ts ≡ false → IsTParams m (t.Ident j ∷ ts) ps us → IsType n us ty rest
      → IsTypeSpec (max m n) (t.Ident i ∷ t.OpenBracket a ∷ t.Ident j ∷ ts) (defined i ps ty) rest
  renames_generic : (m n : ℕ) (i : Ident) (a : ℕ) (j : Ident) (ts : List Symbol) (ps : List TParam) (e : ℕ)
      (us : List Symbol) (ty : TypeExpr) (rest : List Symbol)
      → starts shows_length ts ≡ false → IsTParams m (t.Ident j ∷ ts) ps (t.Assign e ∷ us) → IsType n us ty rest
      → IsTypeSpec (max m n) (t.Ident i ∷ t.OpenBracket a ∷ t.Ident j ∷ ts) (alias i ps ty) rest

-- specifications up to the parenthesis that closes; the last semicolon may be left out
pub data IsBlock {X : Type 0} (F : ℕ → List Symbol → X → List Symbol → Type 0) : ℕ → List Symbol → List X → List Symbol
    → Type 0 where
  none_in_block : (c : ℕ) (rest : List Symbol) → IsBlock F 0 (t.CloseParen c ∷ rest) [] rest
  last_in_block : (n c : ℕ) (ts : List Symbol) (x : X) (rest : List Symbol) → F n ts x (t.CloseParen c ∷ rest)
      → IsBlock F n ts (x ∷ []) rest
  more_in_block : (m n s : ℕ) (ts us : List Symbol) (x : X) (xs : List X) (rest : List Symbol)
      → F m ts x (t.Semicolon s ∷ us) → IsBlock F n us xs rest → IsBlock F (max m n) ts (x ∷ xs) rest

-- one specification, or several in parentheses
pub data IsGroup {X : Type 0} (F : ℕ → List Symbol → X → List Symbol → Type 0) : ℕ → List Symbol → List X → List Symbol
    → Type 0 where
  single : (n : ℕ) (ts : List Symbol) (x : X) (rest : List Symbol) → F n ts x rest → IsGroup F n ts (x ∷ []) rest
  grouped : (n o : ℕ) (ts : List Symbol) (xs : List X) (rest : List Symbol) → IsBlock F n ts xs rest
      → IsGroup F n (t.OpenParen o ∷ ts) xs rest

-- { ImportDecl ";" }, of such specifications
pub data IsImportsOf (F : ℕ → List Symbol → Import → List Symbol → Type 0) : ℕ → List Symbol → List Import → List Symbol
    → Type 0 where
  no_import : (rest : List Symbol) → IsImportsOf F 0 rest [] rest
  imports_too : (m n at s : ℕ) (ts us : List Symbol) (xs ys : List Import) (rest : List Symbol)
      → IsGroup F m ts xs (t.Semicolon s ∷ us) → IsImportsOf F n us ys rest
      → IsImportsOf F (max m n) (t.Import at ∷ ts) (xs ++ ys) rest

abbrev pub IsImports : ℕ → List Symbol → List Import → List Symbol → Type 0
IsImports = IsImportsOf IsImport

-- { TopLevelDecl ";" }
pub data IsTops : ℕ → List Symbol → List Top → List Symbol → Type 0 where
  no_top : (rest : List Symbol) → IsTops 0 rest [] rest
  vars_too : (m n at s : ℕ) (ts us : List Symbol) (xs ys : List Top) (rest : List Symbol)
      → IsGroup IsVarSpec m ts xs (t.Semicolon s ∷ us) → IsTops n us ys rest
      → IsTops (max m n) (t.Var at ∷ ts) (xs ++ ys) rest
  types_too : (m n at s : ℕ) (ts us : List Symbol) (xs ys : List Top) (rest : List Symbol)
      → IsGroup IsTypeSpec m ts xs (t.Semicolon s ∷ us) → IsTops n us ys rest
      → IsTops (max m n) (t.Type at ∷ ts) (xs ++ ys) rest
  consts_too : (m n at s : ℕ) (ts us : List Symbol) (ws : List Written) (ys : List Top) (rest : List Symbol)
      → IsGroup IsConstSpec m ts ws (t.Semicolon s ∷ us) → IsTops n us ys rest
      → IsTops (max m n) (t.Const at ∷ ts) (counted 0 0 ws ++ ys) rest
  func_too : (m n at s : ℕ) (ts us : List Symbol) (f : FuncDecl) (ys : List Top) (rest : List Symbol)
      → IsFunc m ts f (t.Semicolon s ∷ us) → IsTops n us ys rest
      → IsTops (max m n) (t.Func at ∷ ts) (top.Func f ∷ ys) rest

-- SourceFile = PackageClause ";" { ImportDecl ";" } { TopLevelDecl ";" }, with such specifications of imports
pub data IsFileWith (F : ℕ → List Symbol → Import → List Symbol → Type 0) : ℕ → List Symbol → SourceFile → List Symbol
    → Type 0 where
  file : (m n at : ℕ) (i : Ident) (s : ℕ) (ts us : List Symbol) (imports : List Import) (tops : List Top)
      (rest : List Symbol) → IsImportsOf F m ts imports us → IsTops n us tops rest
      → IsFileWith F (max m n) (t.Package at ∷ t.Ident i ∷ t.Semicolon s ∷ ts) (source_file i imports tops) rest

abbrev pub IsFileOf : ℕ → List Symbol → SourceFile → List Symbol → Type 0
IsFileOf = IsFileWith IsImport
