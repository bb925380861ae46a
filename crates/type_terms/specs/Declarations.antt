-- What stands in a declaration, flat, with P for a position, S for a text and R for a type. A declaration that is meant
-- has trees for its types.
use Rattle.std.specs.Prelude.{ℕ, Bool, List, [], ◌∷◌, ◌++◌, map}
use Rattle.std.specs.List.{flat_map}
use Rattle.go_values.specs.declared.positions.Pos.{Pos}
use Rattle.go_values.specs.declared.constants.Const.{Const}
use Rattle.type_terms.specs.declared.declarations.Method.{Method}
use Rattle.type_terms.specs.declared.declarations.DeclNode.{DeclNode}
use Rattle.type_terms.specs.declared.declarations.DeclNode.TheVariants.{Var, Func, Constant, Defined, Alias, Parameter}
use Rattle.type_terms.specs.Shapes.{ParamOf, SigOf, param_map, sig_map, sig_types}
use Rattle.type_terms.specs.Trees.{Text, Tree}
use Rattle.type_terms.specs.declared.descriptors.Node.{Node}
use Rattle.type_terms.specs.NodeShapes.{param_shape, sig_shape}
use Rattle.type_terms.specs.Denotation.{tree}

-- a method of a defined type, with its receiver
pub record ReceiverOf (P S R : Type 0) : Type 0 where
  pub pos : P
  pub name : S
  pub recv : ParamOf P S R
  pub sig : SigOf P S R

-- R also stands for a type parameter in a list of these, which is empty where a declaration has none
pub data Form (P S R : Type 0) : Type 0 where
  var_of : P → R → Form P S R
  function_of : P → List R → SigOf P S R → Form P S R
  constant_of : P → R → Const → Form P S R
  defined_of : P → List R → R → List (ReceiverOf P S R) → Form P S R
  renamed_of : P → List R → R → Form P S R
  type_parameter_of : P → Bool → R → Form P S R

module _ {P P' S S' R R' : Type 0} (p : P → P') (s : S → S') (r : R → R') where
  abbrev pub receiver_map : ReceiverOf P S R → ReceiverOf P' S' R'
  receiver_map x = record
      { pos = p x.pos; name = s x.name; recv = param_map p s s r x.recv; sig = sig_map p s s r x.sig }

  abbrev pub form_map : Form P S R → Form P' S' R'
  form_map (var_of pos type) = var_of (p pos) (r type)
  form_map (function_of pos tparams sig) = function_of (p pos) (map r tparams) (sig_map p s s r sig)
  form_map (constant_of pos type value) = constant_of (p pos) (r type) value
  form_map (defined_of pos tparams underlying methods) = defined_of (p pos) (map r tparams) (r underlying)
      (map receiver_map methods)
  form_map (renamed_of pos tparams type) = renamed_of (p pos) (map r tparams) (r type)
  form_map (type_parameter_of pos implicit constraint) = type_parameter_of (p pos) implicit (r constraint)

-- the types that stand in a declaration, in reading order
module _ {P S R : Type 0} where
  abbrev pub receiver_types : ReceiverOf P S R → List R
  receiver_types x = x.recv.type ∷ sig_types x.sig

  abbrev pub form_types : Form P S R → List R
  form_types (var_of pos type) = type ∷ []
  form_types (function_of pos tparams sig) = tparams ++ sig_types sig
  form_types (constant_of pos type value) = type ∷ []
  form_types (defined_of pos tparams underlying methods) = tparams ++ underlying ∷ flat_map receiver_types methods
  form_types (renamed_of pos tparams type) = tparams ++ type ∷ []
  form_types (type_parameter_of pos implicit constraint) = constraint ∷ []

-- a declaration that is meant
abbrev pub Decl : Type 0
Decl = Form Pos Text Tree

abbrev pub receiver_shape : Method → ReceiverOf Pos Text ℕ
receiver_shape x = record { pos = x.pos; name = x.name; recv = param_shape x.recv; sig = sig_shape x.sig }

abbrev pub decl_form : DeclNode → Form Pos Text ℕ
decl_form (Var pos ty) = var_of pos ty
decl_form (Func pos tparams sig) = function_of pos tparams (sig_shape sig)
decl_form (Constant pos ty value) = constant_of pos ty value
decl_form (Defined pos tparams underlying methods) = defined_of pos tparams underlying (map receiver_shape methods)
decl_form (Alias pos tparams ty) = renamed_of pos tparams ty
decl_form (Parameter pos implicit constraint) = type_parameter_of pos implicit constraint

-- the nodes that stand in a declaration, in reading order
abbrev pub decl_nodes : DeclNode → List ℕ
decl_nodes decl = form_types (decl_form decl)

-- the declaration that a declaration over nodes denotes
abbrev pub decl_of : List Node → DeclNode → Decl
decl_of nodes node = form_map (λ x. x) (λ x. x) (tree nodes) (decl_form node)
