-- The codes in the order in which they count, and their names.
use Rattle.std.specs.Prelude.{ℕ, List, [], ◌∷◌, codes}
use Rattle.refusal_codes.specs.declared.codes.Code.{Code}
use Rattle.refusal_codes.specs.declared.codes.Code.TheVariants as code

abbrev pub order_of : Code → ℕ
order_of code.Lex = 0
order_of code.Syntax = 1
order_of code.LeftOut = 2
order_of code.NoVarType = 3
order_of code.Duplicate = 4
order_of code.Undefined = 5
order_of code.Damaged = 6
order_of code.NotAType = 7
order_of code.NotAConstant = 8
order_of code.Cycle = 9
order_of code.Constant = 10
order_of code.Arity = 11
order_of code.Receiver = 12
order_of code.Embed = 13
order_of code.Method = 14
order_of code.Key = 15
order_of code.Union = 16
order_of code.Expands = 17
order_of code.Clash = 18

-- all codes, each at its place in the order
abbrev pub all_codes : List Code
all_codes =
    code.Lex ∷ code.Syntax ∷ code.LeftOut ∷ code.NoVarType ∷ code.Duplicate ∷ code.Undefined ∷ code.Damaged ∷
    code.NotAType ∷ code.NotAConstant ∷ code.Cycle ∷ code.Constant ∷ code.Arity ∷ code.Receiver ∷ code.Embed ∷
    code.Method ∷ code.Key ∷ code.Union ∷ code.Expands ∷ code.Clash ∷ []

abbrev pub code_name : Code → List ℕ
code_name code.Lex = codes "Lex"
code_name code.Syntax = codes "Syntax"
code_name code.LeftOut = codes "LeftOut"
code_name code.NoVarType = codes "NoVarType"
code_name code.Duplicate = codes "Duplicate"
code_name code.Undefined = codes "Undefined"
code_name code.Damaged = codes "Damaged"
code_name code.NotAType = codes "NotAType"
code_name code.NotAConstant = codes "NotAConstant"
code_name code.Cycle = codes "Cycle"
code_name code.Constant = codes "Constant"
code_name code.Arity = codes "Arity"
code_name code.Receiver = codes "Receiver"
code_name code.Embed = codes "Embed"
code_name code.Method = codes "Method"
code_name code.Key = codes "Key"
code_name code.Union = codes "Union"
code_name code.Expands = codes "Expands"
code_name code.Clash = codes "Clash"
