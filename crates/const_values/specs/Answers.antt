-- What an operation on constants answers: its exact result, or the first fault that applies.
use Rattle.std.specs.Prelude.{Bool, true, false, not, ◌&&◌, List, [], ◌∷◌, Option, Some, None, Result, Ok, Err}
use Rattle.std.specs.Prelude.{if◌then◌else◌, is_none, unwrap_or}
use Rattle.code_tables.specs.declared.predeclared.Basic.{Basic}
use Rattle.code_tables.specs.declared.predeclared.Basic.TheVariants.{UntypedInt}
use Rattle.go_values.specs.declared.constants.Const.{Const}
use Rattle.const_values.specs.declared.values.Value.{Value}
use Rattle.const_values.specs.declared.operators.ConstFault.{ConstFault}
use Rattle.const_values.specs.declared.operators.ConstFault.TheVariants.{Mismatch, DivideByZero, Wide, Overflow}
use Rattle.const_values.specs.declared.operators.ConstFault.TheVariants.{NegativeShift, FloatConstant}
use Rattle.const_values.specs.declared.operators.BinaryOp.{BinaryOp}
use Rattle.const_values.specs.declared.operators.BinaryOp.TheVariants.{Div, Rem}
use Rattle.const_values.specs.declared.operators.UnaryOp.{UnaryOp}
use Rattle.const_values.specs.Kinds.{common_kind, is_floating}
use Rattle.const_values.specs.Values.{admits, in_range}
use Rattle.const_values.specs.Exact.{has, result_of, result_kind, has_unary, unary_result, both_whole, is_zero}
use Rattle.const_values.specs.Exact.{is_below_zero, shifted}

-- an operation as it stands before its faults are looked at
pub record Attempt : Type 0 where
  pub operands : Option Basic  -- the kind of the operands, if they have one together and it has the operator
  pub operands_fit : Bool
  pub zero_divisor : Bool
  pub negative_count : Bool
  pub kind : Basic  -- the kind of the result
  pub exact : Const

-- the faults of a result
abbrev pub range_faults : Basic → Const → List (ConstFault × Bool)
range_faults kind exact =
    (Wide, not (in_range UntypedInt exact))
    ∷ (Overflow, not (in_range kind exact))
    ∷ []

-- The faults, in the order in which the first one that applies counts.
abbrev pub faults : Attempt → List (ConstFault × Bool)
faults a =
    (Mismatch, is_none a.operands)
    ∷ (Overflow, not a.operands_fit)
    ∷ (DivideByZero, a.zero_divisor)
    ∷ (NegativeShift, a.negative_count)
    ∷ range_faults a.kind a.exact

abbrev pub first_of_faults : List (ConstFault × Bool) → Value → Result Value ConstFault
first_of_faults [] value = Ok value
first_of_faults (fault ∷ rest) value = if fault.1 then Err fault.0 else first_of_faults rest value

abbrev pub within_kind : Basic → Const → Result Value ConstFault
within_kind kind exact = first_of_faults (range_faults kind exact) (record { kind = kind; value = exact })

abbrev pub answer : Attempt → Result Value ConstFault
answer a = first_of_faults (faults a) (record { kind = a.kind; value = a.exact })

abbrev pub unary_attempt : UnaryOp → Value → Attempt
unary_attempt op v = record {
  operands = if has_unary op v.value then Some v.kind else None;
  operands_fit = true;
  zero_divisor = false;
  negative_count = false;
  kind = v.kind;
  exact = unary_result op v.kind v.value;
}

unfoldable pub unary_answer : UnaryOp → Value → Result Value ConstFault
unary_answer op v = answer (unary_attempt op v)

abbrev pub is_division : BinaryOp → Bool
is_division Div = true
is_division Rem = true
is_division _ = false

abbrev pub binary_kind : BinaryOp → Value → Value → Option Basic
binary_kind op left right = if has op left.value right.value then common_kind left.kind right.kind else None

abbrev pub binary_attempt : BinaryOp → Value → Value → Attempt
binary_attempt op left right =
    let operands = binary_kind op left right in
    let kind = unwrap_or operands left.kind in
    record {
      operands = operands;
      operands_fit = in_range kind left.value && in_range kind right.value;
      zero_divisor = is_division op && is_zero right.value;
      negative_count = false;
      kind = result_kind op kind;
      exact = result_of op left.value right.value;
    }

unfoldable pub binary_answer : BinaryOp → Value → Value → Result Value ConstFault
binary_answer op left right = answer (binary_attempt op left right)

abbrev pub shift_attempt : Bool → Value → Value → Attempt
shift_attempt left v count = record {
  operands = if both_whole v.value count.value then Some v.kind else None;
  operands_fit = true;
  zero_divisor = false;
  negative_count = is_below_zero count.value;
  kind = v.kind;
  exact = shifted left v.value count.value;
}

unfoldable pub shift_answer : Bool → Value → Value → Result Value ConstFault
shift_answer left v count = answer (shift_attempt left v count)

-- A conversion keeps the value, which has to be one of the new kind.
unfoldable pub convert_answer : Basic → Value → Result Value ConstFault
convert_answer to v =
    first_of_faults
    ((FloatConstant, is_floating to)
    ∷ (Mismatch, not (admits to v.value))
    ∷ (Overflow, not (in_range to v.value))
    ∷ [])
    (record { kind = to; value = v.value })
