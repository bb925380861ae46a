-- Declarations of functions and methods, as they are written and as they are read.
use Rattle.std.specs.Prelude.{◌≡◌, ℕ, max, Bool, true, false, List, [], ◌∷◌, ◌++◌, Option, Some, None, Ok}
use Rattle.go_expr_syntax.specs.declared.symbols.Symbol.{Symbol}
use Rattle.go_expr_syntax.specs.declared.symbols.Symbol.TheVariants as t
use Rattle.go_expr_syntax.specs.declared.symbols.Ident.{Ident}
use Rattle.go_syntax.specs.declared.tree.Receiver.{Receiver}
use Rattle.go_syntax.specs.declared.tree.FuncDecl.{FuncDecl}
use Rattle.go_type_syntax.specs.declared.tree.SigExpr.{SigExpr}
use Rattle.go_syntax.specs.declared.tree.TParam.{TParam}
use Rattle.go_expr_syntax.specs.Reading.{Reply, ◌>>=◌, unexpected, past, choose, starts, is_comma, is_close_paren}
use Rattle.go_expr_syntax.specs.Reading.{is_open_paren}
use Rattle.go_expr_syntax.specs.Reading.{is_open_bracket, is_close_bracket, is_open_brace, is_close_brace, is_star}
use Rattle.go_expr_syntax.specs.Reading.{ListForm, series_item, series}
use Rattle.go_expr_syntax.specs.Names.{ident_at, ident_or}
use Rattle.go_type_syntax.specs.Grammar.{IsSig}
use Rattle.go_type_syntax.specs.Params.{sig_at}
use Rattle.go_type_syntax.specs.Types.{type_at}
use Rattle.go_syntax.specs.Generics.{IsGeneric, generic_at}
use Rattle.go_syntax.specs.Skipped.{IsSkipped, skip}

-- one that begins at this place
abbrev pub receiver : Option Ident → Bool → Ident → List Ident → ℕ → Receiver
receiver name pointer base args at =
    record { name = name; pointer = pointer; base = base; args = args; at = at }

abbrev pub function : Option Receiver → Ident → List TParam → SigExpr → FuncDecl
function r i ps sig = record { receiver = r; name = i; tparams = ps; sig = sig }

-- ---- the grammar

-- identifiers up to the bracket that closes, with a comma between each two, and perhaps after the last
pub data IsIdents : List Symbol → List Ident → List Symbol → Type 0 where
  no_ident : (c : ℕ) (rest : List Symbol) → IsIdents (t.CloseBracket c ∷ rest) [] rest
  last_ident : (i : Ident) (c : ℕ) (rest : List Symbol) → IsIdents (t.Ident i ∷ t.CloseBracket c ∷ rest) (i ∷ []) rest
  more_idents : (i : Ident) (s : ℕ) (ts : List Symbol) (names : List Ident) (rest : List Symbol)
      → IsIdents ts names rest → IsIdents (t.Ident i ∷ t.Comma s ∷ ts) (i ∷ names) rest

-- [ "[" IdentifierList [ "," ] "]" ]
pub data IsArgs : List Symbol → List Ident → List Symbol → Type 0 where
  no_args : (rest : List Symbol) → IsArgs rest [] rest
  some_args : (o : ℕ) (ts : List Symbol) (names : List Ident) (rest : List Symbol)
      → starts is_close_bracket ts ≡ false → IsIdents ts names rest → IsArgs (t.OpenBracket o ∷ ts) names rest

-- [ "," ] ")"
pub data IsReceiverEnd : List Symbol → List Symbol → Type 0 where
  closes : (c : ℕ) (rest : List Symbol) → IsReceiverEnd (t.CloseParen c ∷ rest) rest
  closes_late : (s c : ℕ) (rest : List Symbol) → IsReceiverEnd (t.Comma s ∷ t.CloseParen c ∷ rest) rest

-- after the parenthesis: [ identifier ] [ "*" ] identifier [ Args ] [ "," ] ")"
pub data IsReceiver : List Symbol → Receiver → List Symbol → Type 0 where
  by_value : (base : Ident) (ts : List Symbol) (args : List Ident) (us rest : List Symbol) → IsArgs ts args us
      → IsReceiverEnd us rest → IsReceiver (t.Ident base ∷ ts) (receiver None false base args base.start) rest
  by_pointer : (p : ℕ) (base : Ident) (ts : List Symbol) (args : List Ident) (us rest : List Symbol)
      → IsArgs ts args us → IsReceiverEnd us rest
      → IsReceiver (t.Star p ∷ t.Ident base ∷ ts) (receiver None true base args p) rest
  named_value : (i base : Ident) (ts : List Symbol) (args : List Ident) (us rest : List Symbol) → IsArgs ts args us
      → IsReceiverEnd us rest
      → IsReceiver (t.Ident i ∷ t.Ident base ∷ ts) (receiver (Some i) false base args i.start) rest
  named_pointer : (i : Ident) (p : ℕ) (base : Ident) (ts : List Symbol) (args : List Ident) (us rest : List Symbol)
      → IsArgs ts args us → IsReceiverEnd us rest
      → IsReceiver (t.Ident i ∷ t.Star p ∷ t.Ident base ∷ ts) (receiver (Some i) true base args i.start) rest

-- [ "{" skipped "}" ]
pub data IsBody : List Symbol → List Symbol → Type 0 where
  no_body : (rest : List Symbol) → IsBody rest rest
  body : (o c : ℕ) (ts rest : List Symbol) → IsSkipped false ts (t.CloseBrace c ∷ rest)
      → IsBody (t.OpenBrace o ∷ ts) rest

-- FunctionDecl = "func" identifier [ TypeParams ] Signature [ Body ], MethodDecl = "func" Receiver identifier
-- Signature [ Body ], after the word
pub data IsFunc : ℕ → List Symbol → FuncDecl → List Symbol → Type 0 where
  plain_func : (m n : ℕ) (i : Ident) (ts : List Symbol) (ps : List TParam) (us vs : List Symbol) (sig : SigExpr)
      (rest : List Symbol) → IsGeneric m ts ps us → IsSig n us sig vs → IsBody vs rest
      → IsFunc (max m n) (t.Ident i ∷ ts) (function None i ps sig) rest
  method_func : (n o : ℕ) (ts : List Symbol) (r : Receiver) (i : Ident) (us vs : List Symbol) (sig : SigExpr)
      (rest : List Symbol) → IsReceiver ts r (t.Ident i ∷ us) → IsSig n us sig vs → IsBody vs rest
      → IsFunc n (t.OpenParen o ∷ ts) (function (Some r) i [] sig) rest

-- ---- reading

abbrev pub idents : ListForm Ident (List Ident)
idents = record { sep = is_comma; closes = is_close_bracket; final = λ x. false; nil = []; cons = λ x xs. x ∷ xs }

-- such identifiers behind others
abbrev pub idents_row : List Ident → List Symbol → Reply (List Ident)
idents_row found ts = series idents ident_at ts >>= λ names. Ok (found ++ names.0, names.1)

-- one identifier at least, up to the bracket
abbrev pub idents_at : List Symbol → Reply (List Ident)
idents_at ts = series_item idents ident_at (series idents ident_at) ts

abbrev pub args_at : List Symbol → Reply (List Ident)
args_at ts = choose (past is_open_bracket ts) idents_at (Ok ([], ts))

abbrev pub receiver_close : Receiver → List Symbol → Reply Receiver
receiver_close r ts = past is_close_paren ts >>= λ rest. Ok (r, rest)

abbrev pub receiver_end : Receiver → List Symbol → Reply Receiver
receiver_end r ts = choose (past is_comma ts) (receiver_close r) (receiver_close r ts)

-- after the base
abbrev pub receiver_base : Option Ident → Bool → Ident → ℕ → List Symbol → Reply Receiver
receiver_base name pointer base at ts =
    args_at ts >>= λ args. receiver_end (receiver name pointer base args.0 at) args.1

-- after the star
abbrev pub receiver_pointer : Option Ident → ℕ → List Symbol → Reply Receiver
receiver_pointer name at ts = ident_at ts >>= λ base. receiver_base name true base.0 at base.1

-- after the first identifier
abbrev pub receiver_first : Ident → List Symbol → Reply Receiver
receiver_first i ts =
    ident_or (ident_at ts) (λ base us. receiver_base (Some i) false base i.start us)
    (choose (past is_star ts) (receiver_pointer (Some i) i.start) (receiver_base None false i i.start ts))

abbrev pub receiver_at : List Symbol → Reply Receiver
receiver_at (t.Star at ∷ ts) = receiver_pointer None at ts
receiver_at (t.Ident i ∷ ts) = receiver_first i ts
receiver_at ts = unexpected ts

abbrev pub body_close : FuncDecl → List Symbol → Reply FuncDecl
body_close f ts = past is_close_brace ts >>= λ rest. Ok (f, rest)

abbrev pub body_by : FuncDecl → List Symbol → Reply FuncDecl
body_by f ts = skip false [] ts >>= λ x. body_close f x.1

abbrev pub body_at : FuncDecl → List Symbol → Reply FuncDecl
body_at f ts = choose (past is_open_brace ts) (body_by f) (Ok (f, ts))

-- after the name and the type parameters
abbrev pub func_sig : ℕ → Option Receiver → Ident → List TParam → List Symbol → Reply FuncDecl
func_sig n r i ps ts = sig_at n (type_at n) ts >>= λ sig. body_at (function r i ps sig.0.0) sig.1

abbrev pub method_name : ℕ → Receiver → List Symbol → Reply FuncDecl
method_name n r ts = ident_at ts >>= λ i. func_sig n (Some r) i.0 [] i.1

abbrev pub method_by : ℕ → List Symbol → Reply FuncDecl
method_by n ts = receiver_at ts >>= λ r. method_name n r.0 r.1

abbrev pub func_generic : ℕ → Ident → List Symbol → Reply FuncDecl
func_generic n i ts = generic_at n ts >>= λ ps. func_sig n None i ps.0 ps.1

abbrev pub func_name : ℕ → List Symbol → Reply FuncDecl
func_name n ts = ident_at ts >>= λ i. func_generic n i.0 i.1

abbrev pub func_at : ℕ → List Symbol → Reply FuncDecl
func_at n ts = choose (past is_open_paren ts) (method_by n) (func_name n ts)
