-- Each code stands once in the order.
use Rattle.std.specs.Prelude.{◌≡◌, refl, Some, slice_get}
use Rattle.std.specs.List.{Contains}
use Rattle.code_tables.specs.Numbering.{below_count, exact_numbers}
use Rattle.refusal_codes.specs.declared.codes.Code.{Code}
use Rattle.refusal_codes.specs.declared.codes.Code.TheVariants as code
use Rattle.refusal_codes.specs.Codes.{order_of, all_codes}

at_its_place : (x : Code) → slice_get all_codes (order_of x) ≡ Some x
at_its_place code.Lex = refl
at_its_place code.Syntax = refl
at_its_place code.LeftOut = refl
at_its_place code.NoVarType = refl
at_its_place code.Duplicate = refl
at_its_place code.Undefined = refl
at_its_place code.Damaged = refl
at_its_place code.NotAType = refl
at_its_place code.NotAConstant = refl
at_its_place code.Cycle = refl
at_its_place code.Constant = refl
at_its_place code.Arity = refl
at_its_place code.Receiver = refl
at_its_place code.Embed = refl
at_its_place code.Method = refl
at_its_place code.Key = refl
at_its_place code.Union = refl
at_its_place code.Expands = refl
at_its_place code.Clash = refl

-- all codes are listed
pub whole_list : (x : Code) → Contains all_codes x
whole_list code.Lex = (0, below_count all_codes order_of at_its_place code.Lex, refl)
whole_list code.Syntax = (1, below_count all_codes order_of at_its_place code.Syntax, refl)
whole_list code.LeftOut = (2, below_count all_codes order_of at_its_place code.LeftOut, refl)
whole_list code.NoVarType = (3, below_count all_codes order_of at_its_place code.NoVarType, refl)
whole_list code.Duplicate = (4, below_count all_codes order_of at_its_place code.Duplicate, refl)
whole_list code.Undefined = (5, below_count all_codes order_of at_its_place code.Undefined, refl)
whole_list code.Damaged = (6, below_count all_codes order_of at_its_place code.Damaged, refl)
whole_list code.NotAType = (7, below_count all_codes order_of at_its_place code.NotAType, refl)
whole_list code.NotAConstant = (8, below_count all_codes order_of at_its_place code.NotAConstant, refl)
whole_list code.Cycle = (9, below_count all_codes order_of at_its_place code.Cycle, refl)
whole_list code.Constant = (10, below_count all_codes order_of at_its_place code.Constant, refl)
whole_list code.Arity = (11, below_count all_codes order_of at_its_place code.Arity, refl)
whole_list code.Receiver = (12, below_count all_codes order_of at_its_place code.Receiver, refl)
whole_list code.Embed = (13, below_count all_codes order_of at_its_place code.Embed, refl)
whole_list code.Method = (14, below_count all_codes order_of at_its_place code.Method, refl)
whole_list code.Key = (15, below_count all_codes order_of at_its_place code.Key, refl)
whole_list code.Union = (16, below_count all_codes order_of at_its_place code.Union, refl)
whole_list code.Expands = (17, below_count all_codes order_of at_its_place code.Expands, refl)
whole_list code.Clash = (18, below_count all_codes order_of at_its_place code.Clash, refl)

-- no two have one place
pub distinct_order : (a b : Code) → order_of a ≡ order_of b → a ≡ b
distinct_order = exact_numbers all_codes order_of at_its_place
