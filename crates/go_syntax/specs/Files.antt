-- Declarations and files, as they are read.
use Rattle.std.specs.Prelude.{ℕ, Bool, true, false, List, [], ◌∷◌, ◌++◌, length, Option, Some, None, Result, Ok, Err}
use Rattle.go_expr_syntax.specs.declared.symbols.Symbol.{Symbol}
use Rattle.go_expr_syntax.specs.declared.symbols.Symbol.TheVariants as t
use Rattle.go_expr_syntax.specs.declared.symbols.Ident.{Ident}
use Rattle.go_expr_syntax.specs.declared.faults.Fault.{Fault}
use Rattle.go_expr_syntax.specs.declared.faults.Fault.TheVariants.{DotImport}
use Rattle.go_syntax.specs.declared.constants.Written.{Written}
use Rattle.go_syntax.specs.declared.tree.Import.{Import}
use Rattle.go_syntax.specs.declared.tree.TParam.{TParam}
use Rattle.go_syntax.specs.declared.tree.Top.{Top}
use Rattle.go_syntax.specs.declared.tree.Top.TheVariants as top
use Rattle.go_syntax.specs.declared.tree.SourceFile.{SourceFile}
use Rattle.go_expr_syntax.specs.Reading.{Quoted, Reply, ◌>>=◌, unexpected, past, choose, is_package, is_semicolon}
use Rattle.go_expr_syntax.specs.Reading.{is_comma, is_assign, is_open_paren, is_close_paren, is_open_bracket, is_import}
use Rattle.go_expr_syntax.specs.Reading.{is_var, is_type, is_const, is_func, row, steps}
use Rattle.go_expr_syntax.specs.Names.{ident_at, names_at, names_more}
use Rattle.go_type_syntax.specs.Types.{type_at}
use Rattle.go_syntax.specs.Generics.{opens_params, tparams_at}
use Rattle.go_syntax.specs.Skipped.{skip}
use Rattle.go_syntax.specs.Functions.{func_at}
use Rattle.go_syntax.specs.Constants.{counted, const_spec_at}
use Rattle.go_syntax.specs.Decls.{import, vars, defined, alias, source_file}

abbrev pub text_at : List Symbol → Reply Quoted
text_at (t.Text s ∷ ts) = Ok (s, ts)
text_at ts = unexpected ts

abbrev pub named_import : Ident → List Symbol → Reply Import
named_import i ts = text_at ts >>= λ s. Ok (import (Some i) s.0, s.1)

abbrev pub dot_import : {X : Type 0} → List Symbol → Result X Fault
dot_import ts = Err (DotImport (length ts))

abbrev pub import_at : List Symbol → Reply Import
import_at (t.Text s ∷ ts) = Ok (import None s, ts)
import_at (t.Ident i ∷ ts) = named_import i ts
import_at (t.Dot at ∷ ts) = dot_import (t.Dot at ∷ ts)
import_at ts = unexpected ts

-- after the sign
abbrev pub value_by : Top → List Symbol → Reply Top
value_by x ts = skip true [] ts >>= λ z. Ok (x, z.1)

abbrev pub value_at : Top → List Symbol → Reply Top
value_at x ts = choose (past is_assign ts) (value_by x) (Ok (x, ts))

abbrev pub vars_typed : ℕ → List Ident → List Symbol → Reply Top
vars_typed n names ts = type_at n ts >>= λ ty. value_at (vars names (Some ty.0.0)) ty.1

-- after the names
abbrev pub vars_rest : ℕ → List Ident → List Symbol → Reply Top
vars_rest n names ts = choose (past is_assign ts) (value_by (vars names None)) (vars_typed n names ts)

abbrev pub vars_more : ℕ → Ident → List Symbol → Reply Top
vars_more n i ts = names_more names_at i ts >>= λ names. vars_rest n names.0 names.1

abbrev pub vars_first : ℕ → Ident → List Symbol → Reply Top
vars_first n i ts = choose (past is_comma ts) (vars_more n i) (vars_rest n (i ∷ []) ts)

abbrev pub var_spec_at : ℕ → List Symbol → Reply Top
var_spec_at n ts = ident_at ts >>= λ i. vars_first n i.0 i.1

abbrev pub alias_by : ℕ → Ident → List TParam → List Symbol → Reply Top
alias_by n i ps ts = type_at n ts >>= λ ty. Ok (alias i ps ty.0.0, ty.1)

abbrev pub defined_by : ℕ → Ident → List TParam → List Symbol → Reply Top
defined_by n i ps ts = type_at n ts >>= λ ty. Ok (defined i ps ty.0.0, ty.1)

-- after the type parameters
abbrev pub declared_by : ℕ → Ident → List TParam → List Symbol → Reply Top
declared_by n i ps ts = choose (past is_assign ts) (alias_by n i ps) (defined_by n i ps ts)

abbrev pub generic_by : ℕ → Ident → List Symbol → Reply Top
generic_by n i ts = tparams_at n ts >>= λ ps. declared_by n i ps.0 ps.1

abbrev pub type_if : Bool → ℕ → Ident → List Symbol → Reply Top
type_if true n i ts = past is_open_bracket ts >>= λ us. generic_by n i us
type_if false n i ts = declared_by n i [] ts

-- after the name
abbrev pub type_first : ℕ → Ident → List Symbol → Reply Top
type_first n i ts = type_if (opens_params ts) n i ts

abbrev pub type_spec_at : ℕ → List Symbol → Reply Top
type_spec_at n ts = ident_at ts >>= λ i. type_first n i.0 i.1

-- ---- groups

abbrev pub single_at : {X : Type 0} → (List Symbol → Reply X) → List Symbol → Reply (List X)
single_at one ts = one ts >>= λ x. Ok (x.0 ∷ [], x.1)

abbrev pub group_at : {X : Type 0} → (List Symbol → Reply X) → List Symbol → Reply (List X)
group_at one ts = choose (past is_open_paren ts) (row is_close_paren one) (single_at one ts)

-- the specifications that were read, counted
abbrev pub counting : ℕ → ℕ → Reply (List Written) → Reply (List Top)
counting iota last read = read >>= λ ws. Ok (counted iota last ws.0, ws.1)

abbrev pub const_group_at : ℕ → List Symbol → Reply (List Top)
const_group_at n ts = counting 0 0 (group_at (const_spec_at n) ts)

-- a function alone
abbrev pub func_group_at : ℕ → List Symbol → Reply (List Top)
func_group_at n ts = func_at n ts >>= λ f. Ok (top.Func f.0 ∷ [], f.1)

-- ---- declarations, as long as there are more

abbrev pub decl_more : {X : Type 0} → (List Symbol → Reply (List X)) → List X → List Symbol → Reply (List X)
decl_more more xs us = more us >>= λ ys. Ok (xs ++ ys.0, ys.1)

abbrev pub decl_end : {X : Type 0} → (List Symbol → Reply (List X)) → List X → List Symbol → Reply (List X)
decl_end more xs ts = past is_semicolon ts >>= λ us. decl_more more xs us

-- after the keyword
abbrev pub decl_at : {X : Type 0} → (List Symbol → Reply (List X)) → (List Symbol → Reply (List X)) → List Symbol
    → Reply (List X)
decl_at group more ts = group ts >>= λ xs. decl_end more xs.0 xs.1

abbrev pub import_step : (List Symbol → Reply (List Import)) → List Symbol → Reply (List Import)
import_step more ts = choose (past is_import ts) (decl_at (group_at import_at) more) (Ok ([], ts))

abbrev pub top_step : ℕ → (List Symbol → Reply (List Top)) → List Symbol → Reply (List Top)
top_step n more ts =
    choose (past is_var ts) (decl_at (group_at (var_spec_at n)) more)
    (choose (past is_type ts) (decl_at (group_at (type_spec_at n)) more)
    (choose (past is_const ts) (decl_at (const_group_at n) more)
    (choose (past is_func ts) (decl_at (func_group_at n) more) (Ok ([], ts)))))

abbrev pub imports_at : List Symbol → Reply (List Import)
imports_at ts = steps import_step ts

abbrev pub tops_at : ℕ → List Symbol → Reply (List Top)
tops_at n ts = steps (top_step n) ts

-- one declaration with its semicolon, if there is one
abbrev pub some_semicolon : {X : Type 0} → List X → List Symbol → Reply (Option (List X))
some_semicolon xs ts = past is_semicolon ts >>= λ us. Ok (Some xs, us)

abbrev pub some_decl : {X : Type 0} → (List Symbol → Reply (List X)) → List Symbol → Reply (Option (List X))
some_decl group ts = group ts >>= λ xs. some_semicolon xs.0 xs.1

abbrev pub no_decl : {X : Type 0} → List Symbol → Reply (Option (List X))
no_decl ts = Ok (None, ts)

abbrev pub import_decl : List Symbol → Reply (Option (List Import))
import_decl ts = choose (past is_import ts) (some_decl (group_at import_at)) (no_decl ts)

abbrev pub top_decl : ℕ → List Symbol → Reply (Option (List Top))
top_decl n ts =
    choose (past is_var ts) (some_decl (group_at (var_spec_at n)))
    (choose (past is_type ts) (some_decl (group_at (type_spec_at n)))
    (choose (past is_const ts) (some_decl (const_group_at n))
    (choose (past is_func ts) (some_decl (func_group_at n)) (no_decl ts))))

abbrev pub step_end : {X : Type 0} → (List Symbol → Reply (List X)) → Option (List X) → List Symbol → Reply (List X)
step_end more None ts = Ok ([], ts)
step_end more (Some xs) ts = decl_more more xs ts

-- ---- files

abbrev pub file_tops : ℕ → Ident → List Import → List Symbol → Reply SourceFile
file_tops n i imports ts = tops_at n ts >>= λ tops. Ok (source_file i imports tops.0, tops.1)

abbrev pub file_imports : ℕ → Ident → List Symbol → Reply SourceFile
file_imports n i ts = imports_at ts >>= λ imports. file_tops n i imports.0 imports.1

abbrev pub file_clause : ℕ → Ident → List Symbol → Reply SourceFile
file_clause n i ts = past is_semicolon ts >>= λ us. file_imports n i us

abbrev pub file_name : ℕ → List Symbol → Reply SourceFile
file_name n ts = ident_at ts >>= λ i. file_clause n i.0 i.1

-- the declarations of a file, with what is left after them
unfoldable pub file_front : ℕ → List Symbol → Reply SourceFile
file_front n ts = past is_package ts >>= λ us. file_name n us

abbrev pub at_end : SourceFile → List Symbol → Result SourceFile Fault
at_end f [] = Ok f
at_end f (k ∷ ts) = unexpected (k ∷ ts)

abbrev pub file_at : ℕ → List Symbol → Result SourceFile Fault
file_at n ts = file_front n ts >>= λ f. at_end f.0 f.1
