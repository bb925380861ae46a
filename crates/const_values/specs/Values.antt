-- The values of a kind.
use Rattle.std.specs.Prelude.{Bool, true, IsTrue}
use Rattle.code_tables.specs.declared.predeclared.Basic.{Basic}
use Rattle.go_values.specs.declared.constants.Const.{Const}
use Rattle.go_values.specs.declared.constants.Const.TheVariants.{Bool as Truth, Int, Str}
use Rattle.const_values.specs.Kinds.{is_truth, is_whole, is_text, fits}
use Rattle.const_values.specs.declared.values.Value.{Value}

-- whether the kind has values of this class
abbrev pub admits : Basic → Const → Bool
admits kind (Truth b) = is_truth kind
admits kind (Int z) = is_whole kind
admits kind (Str text) = is_text kind

-- whether a whole number is in the kind's range
abbrev pub in_range : Basic → Const → Bool
in_range kind (Truth b) = true
in_range kind (Int z) = fits kind z
in_range kind (Str text) = true

-- a value of its kind
pub record IsValue (v : Value) : Type 0 where
  pub admitted : IsTrue (admits v.kind v.value)
  pub ranged : IsTrue (in_range v.kind v.value)

abbrev pub IsText : Const → Type 0
IsText (Truth b) = ⊥
IsText (Int z) = ⊥
IsText (Str text) = Unit {0}
