-- What an interface holds, over the nodes of an arena.
use Rattle.std.specs.Prelude.{ℕ, List, [], ◌∷◌, ◌++◌, false, cond, map, Option, Some, None}
use Rattle.std.specs.List.{flat_map}
use Rattle.go_values.specs.declared.qualified.QName.{QName}
use Rattle.go_values.specs.declared.positions.Pos.{Pos}
use Rattle.go_values.specs.declared.positions.Pos.TheVariants.{Nowhere}
use Rattle.code_tables.specs.declared.predeclared.Basic.{Basic}
use Rattle.code_tables.specs.declared.predeclared.Basic.TheVariants.{Error, String as StringType}
use Rattle.type_terms.specs.declared.descriptors.Node.{Node}
use Rattle.type_terms.specs.declared.literals.IMethod.{IMethod}
use Rattle.type_terms.specs.Denotation.{tree}
use Rattle.type_terms.specs.NodeShapes.{sig_shape}
use Rattle.type_terms.specs.Shapes.{sig_map, sig_types}
use Rattle.type_terms.specs.Trees.{Text, Tree, predeclared}
use Rattle.environments.specs.Exported.{exported}
use Rattle.interface_opening.specs.Elements.{Interface}
use Rattle.type_sets.specs.Interfaces.{SetMethod as Method, element}
use Rattle.interface_nodes.specs.declared.methods.SetMethod.{SetMethod}
use Rattle.interface_nodes.specs.declared.held.Held.{Held}

-- the home of a method with this name
abbrev pub home_of : Text → Text → Text
home_of home name = cond (exported name) [] home

abbrev pub set_method_of : Text → IMethod → SetMethod
set_method_of home method = record { name = method.name; home = home_of home method.name; sig = method.sig }

-- the method of `error`, where this is the node of `string`
abbrev pub error_at : ℕ → SetMethod
error_at string = record {
  name = 69 ∷ 114 ∷ 114 ∷ 111 ∷ 114 ∷ [];
  home = [];
  sig = record { params = []; results = record { pos = Nowhere; name = []; ty = string } ∷ []; variadic = false };
}

-- the method and the interface that are meant, where the arena has these nodes
abbrev pub method_meant : List Node → SetMethod → Method
method_meant nodes x = record {
  name = x.name;
  home = x.home;
  sig = sig_map (λ (pos : Pos). pos) (λ (text : Text). text) (λ (text : Text). text) (tree nodes) (sig_shape x.sig);
}

abbrev pub meant : List Node → Option QName → Held → Interface Tree QName Method
meant nodes name x = record {
  name = name;
  own = map (method_meant nodes) x.own.items;
  flag = x.comparable;
  elements = map (λ id. element (tree nodes id)) x.embedded.items;
}

-- the nodes that stand in what an interface holds
abbrev pub method_nodes : SetMethod → List ℕ
method_nodes x = sig_types (sig_shape x.sig)

abbrev pub held_nodes : Held → List ℕ
held_nodes x = x.embedded.items ++ flat_map method_nodes x.own.items

-- the types that come to an arena as what a type holds is read
abbrev pub made_for : Tree → List Tree
made_for (predeclared Error) = predeclared StringType ∷ []
made_for _ = []
