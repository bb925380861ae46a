-- What stands last in a declaration: one whole number, or nothing.
use Rattle.std.proofs.Common.{◌≡◌, ℕ, Bool, List, [], ◌∷◌, refl, ◌⊎◌, inl, inr}
use Rattle.std.specs.Prelude.{ℤ}
use Rattle.go_values.specs.declared.constants.Const.{Const}
use Rattle.go_values.specs.declared.constants.Const.TheVariants.{Bool as truth, Int as whole, Str as chars}
use Rattle.type_terms.specs.declared.declarations.DeclNode.{DeclNode}
use Rattle.type_terms.specs.declared.declarations.DeclNode.TheVariants.{Var, Func, Constant, Defined, Alias, Parameter}
use Rattle.decl_spelling.specs.Constants.{Kind, spelled, floating, none, flag, offset, number}
use Rattle.file_layout.specs.Items.{Item, a_whole, constant_kind}
use Rattle.block_writer.specs.declared.declarations.Told.{Told}
use Rattle.block_writer.specs.Declaring.{last_items, last_of}

abbrev pub IsLast : List Item → Type 0
IsLast last = (last ≡ []) ⊎ ((signed : Bool) × (max : ℕ) × (n : ℤ) × (last ≡ a_whole signed max n ∷ []))

in_kind : (kind : Kind) (value : Const) → IsLast (last_items kind value)
in_kind (spelled flag) (truth x) = inl refl
in_kind (spelled flag) (whole x) = inl refl
in_kind (spelled flag) (chars x) = inl refl
in_kind (spelled offset) (truth x) = inl refl
in_kind (spelled offset) (whole x) = inl refl
in_kind (spelled offset) (chars x) = inl refl
in_kind (spelled (number signed max)) (truth x) = inl refl
in_kind (spelled (number signed max)) (whole x) = inr (signed, max, x, refl)
in_kind (spelled (number signed max)) (chars x) = inl refl
in_kind floating value = inl refl
in_kind none value = inl refl

pub is_last : (told : Told) (decl : DeclNode) → IsLast (last_of told.basic decl)
is_last told (Var pos ty) = inl refl
is_last told (Func pos tparams sig) = inl refl
is_last told (Constant pos ty value) = in_kind (constant_kind told.basic) value
is_last told (Defined pos tparams underlying methods) = inl refl
is_last told (Alias pos tparams ty) = inl refl
is_last told (Parameter pos implicit constraint) = inl refl
