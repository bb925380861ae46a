-- The kind of a result admits it.
use Rattle.std.proofs.Common.{◌≡◌, ◌⊎◌, inl, inr, ℤ, List, ℕ, Bool, true, false, cond, Some, None, refl, sym, ◌∙◌, ap}
use Rattle.code_tables.specs.declared.predeclared.Basic.{Basic}
use Rattle.code_tables.specs.declared.predeclared.Basic.TheVariants.{UntypedBool, UntypedRune}
use Rattle.go_values.specs.declared.constants.Const.{Const}
use Rattle.go_values.specs.declared.constants.Const.TheVariants.{Bool as Truth, Int, Str}
use Rattle.const_values.specs.declared.operators.BinaryOp.{BinaryOp}
use Rattle.const_values.specs.declared.operators.BinaryOp.TheVariants.{Eq, Ne, Lt, Le, Gt, Ge}
use Rattle.const_values.specs.Kinds.{is_truth, is_whole, is_text, is_untyped, same_kind, untyped_kind, common_kind}
use Rattle.const_values.specs.Values.{admits}
use Rattle.const_values.specs.Exact.{has, is_comparison, result_kind, result_of, of_wholes, of_texts}

untyped_is_one : (left right : Basic) → (untyped_kind left right ≡ left) ⊎ (untyped_kind left right ≡ right)
untyped_is_one UntypedRune right = inl refl
untyped_is_one _ right = inr refl

one_of_two : (left right kind : Basic) (a b same : Bool)
    → cond a (cond b (Some (untyped_kind left right)) (Some right)) (cond b (Some left) (cond same (Some left) None)) ≡ Some kind
    → (kind ≡ left) ⊎ (kind ≡ right)
one_of_two left right kind true true same h =
    let is : untyped_kind left right ≡ kind = cc in
    elim (untyped_is_one left right) [ inl e ↦ inl (sym is ∙ e) | inr e ↦ inr (sym is ∙ e) ]
one_of_two left right kind true false same h = inr (cc)
one_of_two left right kind false true same h = inl (cc)
one_of_two left right kind false false true h = inl (cc)
one_of_two left right kind false false false h = cc

-- operands of one class have a kind of that class together
common_class : (class : Basic → Bool) (left right kind : Basic) → common_kind left right ≡ Some kind → class left ≡ true → class right ≡ true → class kind ≡ true
common_class class left right kind h left_is right_is =
    elim (one_of_two left right kind (is_untyped left) (is_untyped right) (same_kind left right) h) [ inl e ↦ ap class e ∙ left_is | inr e ↦ ap class e ∙ right_is ]

truths : (kind : Basic) (comparison : Bool) → is_truth kind ≡ true → is_truth (cond comparison UntypedBool kind) ≡ true
truths kind true h = refl
truths kind false h = h

wholes : (op : BinaryOp) (kind : Basic) (x y : ℤ) → is_whole kind ≡ true → admits (result_kind op kind) (of_wholes op x y) ≡ true
wholes Eq kind x y h = refl
wholes Ne kind x y h = refl
wholes Lt kind x y h = refl
wholes Le kind x y h = refl
wholes Gt kind x y h = refl
wholes Ge kind x y h = refl
wholes _ kind x y h = h

texts : (op : BinaryOp) (kind : Basic) (x y : List ℕ) → is_text kind ≡ true → admits (result_kind op kind) (of_texts op x y) ≡ true
texts Eq kind x y h = refl
texts Ne kind x y h = refl
texts Lt kind x y h = refl
texts Le kind x y h = refl
texts Gt kind x y h = refl
texts Ge kind x y h = refl
texts _ kind x y h = h

pub admits_result : (op : BinaryOp) (left_kind right_kind kind : Basic) (left right : Const) → admits left_kind left ≡ true → admits right_kind right ≡ true
    → has op left right ≡ true → common_kind left_kind right_kind ≡ Some kind → admits (result_kind op kind) (result_of op left right) ≡ true
admits_result op left_kind right_kind kind (Truth x) (Truth y) left_is right_is has_op common = truths kind (is_comparison op) (common_class is_truth left_kind right_kind kind common left_is right_is)
admits_result op left_kind right_kind kind (Int x) (Int y) left_is right_is has_op common = wholes op kind x y (common_class is_whole left_kind right_kind kind common left_is right_is)
admits_result op left_kind right_kind kind (Str x) (Str y) left_is right_is has_op common = texts op kind x y (common_class is_text left_kind right_kind kind common left_is right_is)
admits_result op left_kind right_kind kind _ _ left_is right_is has_op common = cc
