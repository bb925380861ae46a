-- Nodes and declarations as they are written, where nodes were made for the types that stand in it.
use Rattle.std.specs.Prelude.{◌≡◌, ℕ, List, [], map}
use Rattle.std.specs.List.Sorted.{IsPermutation}
use Rattle.type_terms.specs.declared.literals.Origin.{Origin}
use Rattle.type_terms.specs.declared.literals.ParamNode.{ParamNode}
use Rattle.type_terms.specs.declared.literals.Sig.{Sig}
use Rattle.type_terms.specs.declared.literals.Field.{Field}
use Rattle.type_terms.specs.declared.literals.IMethod.{IMethod}
use Rattle.type_terms.specs.declared.literals.Term.{Term}
use Rattle.type_terms.specs.declared.declarations.Method.{Method as Receiver}
use Rattle.type_terms.specs.declared.declarations.DeclNode.{DeclNode}
use Rattle.type_terms.specs.declared.declarations.DeclNode.TheVariants.{Var, Func, Constant, Defined, Alias, Parameter}
use Rattle.written_types.specs.ByName.{Method, by_name}
use Rattle.written_types.specs.Written.{position_written}

abbrev pub no_origin : Origin
no_origin = record { text = []; path = [] }

-- What stands in a node, where each type has another number.
module _ (number : ℕ → ℕ) where
  abbrev pub param_made : ParamNode → ParamNode
  param_made x = record { pos = position_written x.pos; name = x.name; ty = number x.ty }

  abbrev pub sig_made : Sig → Sig
  sig_made x =
      record { params = map param_made x.params; results = map param_made x.results; variadic = x.variadic }

  abbrev pub field_made : Field → Field
  field_made x = record {
    origin = no_origin;
    pos = position_written x.pos;
    name = x.name;
    ty = number x.ty;
    embedded = x.embedded;
    tag = x.tag;
  }

  abbrev pub method_made : IMethod → IMethod
  method_made x = record { origin = no_origin; pos = position_written x.pos; name = x.name; sig = sig_made x.sig }

  abbrev pub receiver_made : Receiver → Receiver
  receiver_made x =
      record { pos = position_written x.pos; name = x.name; recv = param_made x.recv; sig = sig_made x.sig }

  abbrev pub term_made : Term → Term
  term_made x = record { tilde = x.tilde; ty = number x.ty }

  abbrev pub decl_made : DeclNode → DeclNode
  decl_made (Var pos ty) = Var (position_written pos) (number ty)
  decl_made (Func pos tparams sig) = Func (position_written pos) (map number tparams) (sig_made sig)
  decl_made (Constant pos ty value) = Constant (position_written pos) (number ty) value
  decl_made (Defined pos tparams underlying methods) =
      Defined (position_written pos) (map number tparams) (number underlying) (map receiver_made methods)
  decl_made (Alias pos tparams ty) = Alias (position_written pos) (map number tparams) (number ty)
  decl_made (Parameter pos implicit constraint) = Parameter (position_written pos) implicit (number constraint)

-- The same methods in the order of their names, whatever else each of them is.
pub record InOrder (old new : List IMethod) : Type 0 where
  pub same : IsPermutation old new
  pub by_name : (meant : IMethod → Method) → ((x : IMethod) → (meant x).name ≡ x.name)
      → map meant new ≡ by_name (map meant old)
