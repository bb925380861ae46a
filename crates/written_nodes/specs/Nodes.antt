-- A node as it is written, over nodes that were made for the types that stand in it.
use Rattle.std.specs.Prelude.{◌≡◌, ℕ, Bool, true, false, List, [], ◌∷◌, map, slice_get, Option, Some}
use Rattle.type_terms.specs.declared.literals.IMethod.{IMethod}
use Rattle.type_terms.specs.declared.literals.Term.{Term}
use Rattle.type_terms.specs.declared.descriptors.Node.{Node}
use Rattle.type_terms.specs.declared.descriptors.Node.TheVariants.{Pointer, Slice}
use Rattle.type_terms.specs.declared.descriptors.Node.TheVariants.{Array, Chan, MapOf, FuncOf, StructOf, Iface}
use Rattle.type_terms.specs.declared.descriptors.Node.TheVariants.{Instance, Union}
use Rattle.written_nodes.specs.Making.{sig_made, field_made, method_made, term_made, InOrder}

-- ---- embedded elements

-- the type of the one term, if it has no tilde
abbrev pub without_tilde : Bool → ℕ → ℕ → ℕ
without_tilde false type other = type
without_tilde true type other = other

abbrev pub only_term : List Term → ℕ → ℕ
only_term [] other = other
only_term (term ∷ []) other = without_tilde term.tilde term.ty other
only_term (term ∷ more ∷ rest) other = other

abbrev pub element_by : Option Node → ℕ → ℕ
element_by (Some (Union terms)) id = only_term terms id
element_by _ id = id

-- the type of an element that is one term without a tilde, and else the element
abbrev pub element_in : List Node → ℕ → ℕ
element_in nodes id = element_by (slice_get nodes id) id

-- ---- nodes

-- all but interfaces
abbrev pub node_made : (ℕ → ℕ) → Node → Node
node_made number (Pointer id) = Pointer (number id)
node_made number (Slice id) = Slice (number id)
node_made number (Array size id) = Array size (number id)
node_made number (Chan dir id) = Chan dir (number id)
node_made number (MapOf key id) = MapOf (number key) (number id)
node_made number (FuncOf home sig) = FuncOf home (sig_made number sig)
node_made number (StructOf home inner) = StructOf home (map (field_made number) inner)
node_made number (Instance base args) = Instance (number base) (map number args)
node_made number (Union inner) = Union (map (term_made number) inner)
node_made number node = node

-- an interface has the types of its elements, and its methods in order
pub record MakesInterface (nodes : List Node) (number : ℕ → ℕ) (home : List ℕ) (embedded : List ℕ)
    (methods : List IMethod) (made : Node) : Type 0 where
  pub sorted : List IMethod
  pub is : made ≡ Iface home (map (element_in nodes) (map number embedded)) sorted
  pub order : InOrder (map (method_made number) methods) sorted

abbrev pub MakesNode : List Node → (ℕ → ℕ) → Node → Node → Type 0
MakesNode nodes number (Iface home embedded methods) made = MakesInterface nodes number home embedded methods made
MakesNode nodes number node made = made ≡ node_made number node
