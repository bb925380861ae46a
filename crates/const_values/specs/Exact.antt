-- The exact results of the operators, on whole numbers without bounds.
use Rattle.std.specs.Prelude.{ℕ, ℤ, pos, negsuc, ◌+ℤ◌, ◌-ℤ◌, ◌*ℤ◌, neg_ℤ, int_div, int_rem, int_lt, int_le, ◌-◌, ◌/◌}
use Rattle.std.specs.Prelude.{◌^◌, Bool, true, false, not, ◌&&◌, ◌||◌, List, ◌++◌, nat_eq, if◌then◌else◌}
use Rattle.std.specs.Bool.{beq}
use Rattle.std.specs.Ordering.{int_eq, nat_cmp, is_lt, is_gt}
use Rattle.std.specs.Cmp.Lexicographic.{pointwise, slice_cmp}
use Rattle.code_tables.specs.declared.predeclared.Basic.{Basic}
use Rattle.code_tables.specs.declared.predeclared.Basic.TheVariants.{UntypedBool}
use Rattle.go_values.specs.declared.constants.Const.{Const}
use Rattle.go_values.specs.declared.constants.Const.TheVariants.{Bool as Truth, Int, Str}
use Rattle.const_values.specs.declared.operators.BinaryOp.{BinaryOp}
use Rattle.const_values.specs.declared.operators.BinaryOp.TheVariants.{Or, And, Eq, Ne, Lt, Le, Gt, Ge, Add, Sub, BitOr}
use Rattle.const_values.specs.declared.operators.BinaryOp.TheVariants.{Xor, Mul, Div, Rem, BitAnd, AndNot}
use Rattle.const_values.specs.declared.operators.UnaryOp.{UnaryOp}
use Rattle.const_values.specs.declared.operators.UnaryOp.TheVariants.{Plus, Minus, Flip, Not}
use Rattle.const_values.specs.Bitwise.{flip, both, either, one_of}
use Rattle.const_values.specs.Kinds.{is_unsigned, size}

-- the operators that truth values have, and their results
abbrev pub has_truth : BinaryOp → Bool
has_truth Or = true
has_truth And = true
has_truth Eq = true
has_truth Ne = true
has_truth _ = false

abbrev pub of_truths : BinaryOp → Bool → Bool → Bool
of_truths Or x y = x || y
of_truths And x y = x && y
of_truths Eq x y = beq x y
of_truths Ne x y = not (beq x y)
of_truths _ x y = false

-- those of texts, which are compared bytewise
abbrev pub has_text : BinaryOp → Bool
has_text Add = true
has_text Eq = true
has_text Ne = true
has_text Lt = true
has_text Le = true
has_text Gt = true
has_text Ge = true
has_text _ = false

abbrev pub of_texts : BinaryOp → List ℕ → List ℕ → Const
of_texts Add x y = Str (x ++ y)
of_texts Eq x y = Truth (pointwise nat_eq x y)
of_texts Ne x y = Truth (not (pointwise nat_eq x y))
of_texts Lt x y = Truth (is_lt (slice_cmp nat_cmp x y))
of_texts Le x y = Truth (not (is_gt (slice_cmp nat_cmp x y)))
of_texts Gt x y = Truth (is_gt (slice_cmp nat_cmp x y))
of_texts Ge x y = Truth (not (is_lt (slice_cmp nat_cmp x y)))
of_texts _ x y = Str x

-- those of whole numbers: division truncates toward zero
abbrev pub has_whole : BinaryOp → Bool
has_whole Or = false
has_whole And = false
has_whole _ = true

abbrev pub of_wholes : BinaryOp → ℤ → ℤ → Const
of_wholes Eq x y = Truth (int_eq x y)
of_wholes Ne x y = Truth (not (int_eq x y))
of_wholes Lt x y = Truth (int_lt x y)
of_wholes Le x y = Truth (int_le x y)
of_wholes Gt x y = Truth (int_lt y x)
of_wholes Ge x y = Truth (int_le y x)
of_wholes Add x y = Int (x +ℤ y)
of_wholes Sub x y = Int (x -ℤ y)
of_wholes BitOr x y = Int (either x y)
of_wholes Xor x y = Int (one_of x y)
of_wholes Mul x y = Int (x *ℤ y)
of_wholes Div x y = Int (int_div x y)
of_wholes Rem x y = Int (int_rem x y)
of_wholes BitAnd x y = Int (both x y)
of_wholes AndNot x y = Int (both x (flip y))
of_wholes _ x y = Int x

abbrev pub has : BinaryOp → Const → Const → Bool
has op (Truth x) (Truth y) = has_truth op
has op (Int x) (Int y) = has_whole op
has op (Str x) (Str y) = has_text op
has op _ _ = false

abbrev pub result_of : BinaryOp → Const → Const → Const
result_of op (Truth x) (Truth y) = Truth (of_truths op x y)
result_of op (Int x) (Int y) = of_wholes op x y
result_of op (Str x) (Str y) = of_texts op x y
result_of op x y = x

abbrev pub is_comparison : BinaryOp → Bool
is_comparison Eq = true
is_comparison Ne = true
is_comparison Lt = true
is_comparison Le = true
is_comparison Gt = true
is_comparison Ge = true
is_comparison _ = false

-- a comparison gives an untyped bool
abbrev pub result_kind : BinaryOp → Basic → Basic
result_kind op kind = if is_comparison op then UntypedBool else kind

-- the operators with one operand; `^` on an unsigned kind flips the bits of its size
abbrev pub has_unary : UnaryOp → Const → Bool
has_unary Not (Truth b) = true
has_unary Plus (Int z) = true
has_unary Minus (Int z) = true
has_unary Flip (Int z) = true
has_unary _ _ = false

abbrev pub flip_within : Basic → ℤ → ℤ
flip_within kind z = if is_unsigned kind then pos (2 ^ size kind - 1) -ℤ z else flip z

abbrev pub unary_result : UnaryOp → Basic → Const → Const
unary_result Not kind (Truth b) = Truth (not b)
unary_result Minus kind (Int z) = Int (neg_ℤ z)
unary_result Flip kind (Int z) = Int (flip_within kind z)
unary_result _ kind value = value

-- a shift by a count: a shift to the right rounds down
abbrev pub shift_left : ℤ → ℕ → ℤ
shift_left z count = z *ℤ pos (2 ^ count)

abbrev pub shift_right : ℤ → ℕ → ℤ
shift_right (pos n) count = pos (n / 2 ^ count)
shift_right (negsuc n) count = negsuc (n / 2 ^ count)

abbrev pub shift_by : Bool → ℤ → ℕ → ℤ
shift_by left z count = if left then shift_left z count else shift_right z count

abbrev pub is_below_zero : Const → Bool
is_below_zero (Int (negsuc n)) = true
is_below_zero _ = false

abbrev pub is_zero : Const → Bool
is_zero (Int z) = int_eq z (pos 0)
is_zero _ = false

abbrev pub both_whole : Const → Const → Bool
both_whole (Int x) (Int y) = true
both_whole _ _ = false

abbrev pub shifted : Bool → Const → Const → Const
shifted left (Int z) (Int (pos count)) = Int (shift_by left z count)
shifted left value count = value
