-- A node is told by its shape.
use Rattle.std.proofs.Common.{◌≡◌, ℕ, List, [], ◌∷◌, map, refl, ap, sym, ◌∙◌}
use Rattle.go_values.specs.declared.positions.Pos.{Pos}
use Rattle.type_terms.specs.declared.literals.ParamNode.{ParamNode}
use Rattle.type_terms.specs.declared.literals.Sig.{Sig}
use Rattle.type_terms.specs.declared.literals.Field.{Field}
use Rattle.type_terms.specs.declared.literals.IMethod.{IMethod}
use Rattle.type_terms.specs.declared.literals.Term.{Term}
use Rattle.type_terms.specs.declared.descriptors.Node.{Node}
use Rattle.type_terms.specs.declared.descriptors.Node.TheVariants.{Predeclared, Named, Param, AliasName, Pointer, Slice}
use Rattle.type_terms.specs.declared.descriptors.Node.TheVariants.{Array, Chan, MapOf, FuncOf, StructOf, Iface}
use Rattle.type_terms.specs.declared.descriptors.Node.TheVariants.{Instance, Union}
use Rattle.type_terms.specs.Shapes.{ParamOf, SigOf, FieldOf, MethodOf, TermOf, Shape, predeclared_of, named_of}
use Rattle.type_terms.specs.Shapes.{parameter_of, alias_of, pointer_of, slice_of, array_of, chan_of, map_of, func_of}
use Rattle.type_terms.specs.Shapes.{struct_of, interface_of, instance_of, union_of}
use Rattle.type_terms.specs.Trees.{Text}
use Rattle.type_terms.specs.NodeShapes.{param_shape, sig_shape, field_shape, method_shape, term_shape, node_shape}

abbrev param_node : ParamOf Pos Text ℕ → ParamNode
param_node x = record { pos = x.pos; name = x.name; ty = x.type }

abbrev sig_node : SigOf Pos Text ℕ → Sig
sig_node x = record { params = map param_node x.params; results = map param_node x.results; variadic = x.variadic }

abbrev field_node : FieldOf Pos Text Text ℕ → Field
field_node x = record {
  origin = record { text = x.origin.text; path = x.origin.path };
  pos = x.pos;
  name = x.name;
  ty = x.type;
  embedded = x.embedded;
  tag = x.tag;
}

abbrev method_node : MethodOf Pos Text Text ℕ → IMethod
method_node x = record
    { origin = record { text = x.origin.text; path = x.origin.path }; pos = x.pos; name = x.name; sig = sig_node x.sig }

abbrev term_node : TermOf ℕ → Term
term_node x = record { tilde = x.tilde; ty = x.type }

abbrev shape_node : Shape Pos Text Text ℕ → Node
shape_node (predeclared_of basic) = Predeclared basic
shape_node (named_of name path) = Named (record { path = path; name = name })
shape_node (parameter_of name path) = Param (record { path = path; name = name })
shape_node (alias_of name path) = AliasName (record { path = path; name = name })
shape_node (pointer_of id) = Pointer id
shape_node (slice_of id) = Slice id
shape_node (array_of size id) = Array size id
shape_node (chan_of dir id) = Chan dir id
shape_node (map_of key id) = MapOf key id
shape_node (func_of home sig) = FuncOf home (sig_node sig)
shape_node (struct_of home inner) = StructOf home (map field_node inner)
shape_node (interface_of home embedded inner) = Iface home embedded (map method_node inner)
shape_node (instance_of base args) = Instance base args
shape_node (union_of inner) = Union (map term_node inner)

map_back : {A B : Type 0} (f : A → B) (g : B → A) → ((x : A) → g (f x) ≡ x) → (xs : List A) → map g (map f xs) ≡ xs
map_back f g each [] = refl
map_back f g each (x ∷ xs) = λ i. each x i ∷ map_back f g each xs i

params_back : (xs : List ParamNode) → map param_node (map param_shape xs) ≡ xs
params_back = map_back param_shape param_node (λ x. refl)

sig_back : (x : Sig) → sig_node (sig_shape x) ≡ x
sig_back x = λ i. record { params = params_back x.params i; results = params_back x.results i; variadic = x.variadic }

method_back : (x : IMethod) → method_node (method_shape x) ≡ x
method_back x = λ i. record { origin = x.origin; pos = x.pos; name = x.name; sig = sig_back x.sig i }

node_back : (node : Node) → shape_node (node_shape node) ≡ node
node_back (FuncOf home sig) = ap (FuncOf home) (sig_back sig)
node_back (StructOf home inner) = ap (StructOf home) (map_back field_shape field_node (λ x. refl) inner)
node_back (Iface home embedded inner) = ap (Iface home embedded) (map_back method_shape method_node method_back inner)
node_back (Union inner) = ap Union (map_back term_shape term_node (λ x. refl) inner)
node_back _ = refl

pub node_told : (x y : Node) → node_shape x ≡ node_shape y → x ≡ y
node_told x y e = sym (node_back x) ∙ ap shape_node e ∙ node_back y
