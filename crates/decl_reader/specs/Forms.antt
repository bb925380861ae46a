-- What the parts of declarations that are read mean, with types still by their typeOffs.
use Rattle.std.specs.Prelude.{ℕ, map}
use Rattle.go_values.specs.declared.positions.Pos.{Pos}
use Rattle.type_terms.specs.Trees.{Text}
use Rattle.type_terms.specs.Declarations.{ReceiverOf, Form, var_of, function_of, constant_of, defined_of, renamed_of}
use Rattle.type_terms.specs.Declarations.{type_parameter_of}
use Rattle.block_reader.specs.declared.declarations.ReceiverParts.{ReceiverParts}
use Rattle.block_reader.specs.declared.declarations.DeclParts.{DeclParts}
use Rattle.block_reader.specs.declared.declarations.DeclParts.TheVariants.{Var, Func, Constant, Defined, Alias}
use Rattle.block_reader.specs.declared.declarations.DeclParts.TheVariants.{Parameter}
use Rattle.block_reader.specs.declared.declarations.DeclHead.{DeclHead}
use Rattle.block_reader.specs.declared.declarations.DeclHead.TheVariants as heads
use Rattle.decl_reader.specs.Shapes.{param_shape, sig_shape}

abbrev pub receiver_shape : ReceiverParts → ReceiverOf Pos Text ℕ
receiver_shape x =
    record { pos = x.pos.pos; name = x.name.text; recv = param_shape x.recv; sig = sig_shape x.signature }

abbrev pub decl_form : DeclParts → Form Pos Text ℕ
decl_form (Var pos ty) = var_of pos.pos ty
decl_form (Func pos tparams signature) = function_of pos.pos tparams.items (sig_shape signature)
decl_form (Constant pos ty value) = constant_of pos.pos ty value.value
decl_form (Defined pos tparams underlying methods) =
    defined_of pos.pos tparams.items underlying (map receiver_shape methods.items)
decl_form (Alias pos tparams ty) = renamed_of pos.pos tparams.items ty
decl_form (Parameter pos implicit constraint) = type_parameter_of pos.pos implicit constraint

-- The value of a constant stands behind its head, so no head is a whole one.
abbrev pub IsUpToTypes : DeclHead → Type 0
IsUpToTypes (heads.Whole (Constant pos ty value)) = ⊥
IsUpToTypes _ = Unit {0}
