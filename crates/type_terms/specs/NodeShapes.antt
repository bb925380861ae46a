-- A node of an arena, flat: the types that stand in it are numbers of nodes.
use Rattle.std.specs.Prelude.{ℕ, List, map}
use Rattle.go_values.specs.declared.positions.Pos.{Pos}
use Rattle.type_terms.specs.declared.literals.Origin.{Origin}
use Rattle.type_terms.specs.declared.literals.ParamNode.{ParamNode}
use Rattle.type_terms.specs.declared.literals.Sig.{Sig}
use Rattle.type_terms.specs.declared.literals.Field.{Field}
use Rattle.type_terms.specs.declared.literals.IMethod.{IMethod}
use Rattle.type_terms.specs.declared.literals.Term.{Term}
use Rattle.type_terms.specs.declared.descriptors.Node.{Node}
use Rattle.type_terms.specs.declared.descriptors.Node.TheVariants.{Predeclared, Named, Param, AliasName, Pointer, Slice}
use Rattle.type_terms.specs.declared.descriptors.Node.TheVariants.{Array, Chan, MapOf, FuncOf, StructOf, Iface}
use Rattle.type_terms.specs.declared.descriptors.Node.TheVariants.{Instance, Union}
use Rattle.type_terms.specs.Shapes.{ParamOf, SigOf, OriginOf, FieldOf, MethodOf, TermOf, Shape, predeclared_of}
use Rattle.type_terms.specs.Shapes.{named_of, parameter_of, alias_of, pointer_of, slice_of, array_of, chan_of, map_of}
use Rattle.type_terms.specs.Shapes.{func_of, struct_of, interface_of, instance_of, union_of, shape_types}
use Rattle.type_terms.specs.Trees.{Text}

abbrev pub origin_shape : Origin → OriginOf Text Text
origin_shape x = record { text = x.text; path = x.path }

abbrev pub param_shape : ParamNode → ParamOf Pos Text ℕ
param_shape x = record { pos = x.pos; name = x.name; type = x.ty }

abbrev pub sig_shape : Sig → SigOf Pos Text ℕ
sig_shape x = record { params = map param_shape x.params; results = map param_shape x.results; variadic = x.variadic }

abbrev pub field_shape : Field → FieldOf Pos Text Text ℕ
field_shape x = record
    { origin = origin_shape x.origin; pos = x.pos; name = x.name; type = x.ty; embedded = x.embedded; tag = x.tag }

abbrev pub method_shape : IMethod → MethodOf Pos Text Text ℕ
method_shape x = record { origin = origin_shape x.origin; pos = x.pos; name = x.name; sig = sig_shape x.sig }

abbrev pub term_shape : Term → TermOf ℕ
term_shape x = record { tilde = x.tilde; type = x.ty }

abbrev pub node_shape : Node → Shape Pos Text Text ℕ
node_shape (Predeclared basic) = predeclared_of basic
node_shape (Named q) = named_of q.name q.path
node_shape (Param q) = parameter_of q.name q.path
node_shape (AliasName q) = alias_of q.name q.path
node_shape (Pointer id) = pointer_of id
node_shape (Slice id) = slice_of id
node_shape (Array size id) = array_of size id
node_shape (Chan dir id) = chan_of dir id
node_shape (MapOf key id) = map_of key id
node_shape (FuncOf home sig) = func_of home (sig_shape sig)
node_shape (StructOf home inner) = struct_of home (map field_shape inner)
node_shape (Iface home embedded inner) = interface_of home embedded (map method_shape inner)
node_shape (Instance base args) = instance_of base args
node_shape (Union inner) = union_of (map term_shape inner)

-- the nodes that stand in a node
abbrev pub children : Node → List ℕ
children node = shape_types (node_shape node)
