-- Items as they are meant, where each number of a type stands for a type.
use Rattle.std.specs.Prelude.{◌≡◌, ℕ, List, ◌++◌, map}
use Rattle.go_values.specs.declared.positions.Pos.{Pos}
use Rattle.go_values.specs.declared.positions.Pos.TheVariants.{Nowhere}
use Rattle.type_terms.specs.declared.literals.ParamNode.{ParamNode}
use Rattle.type_terms.specs.declared.literals.Sig.{Sig}
use Rattle.type_terms.specs.declared.literals.Field.{Field}
use Rattle.type_terms.specs.declared.literals.IMethod.{IMethod}
use Rattle.type_terms.specs.declared.literals.Term.{Term}
use Rattle.type_terms.specs.declared.declarations.Method.{Method}
use Rattle.type_terms.specs.declared.declarations.DeclNode.{DeclNode}
use Rattle.type_terms.specs.Shapes.{ParamOf, SigOf, FieldOf, MethodOf, TermOf, param_map, sig_map, field_map}
use Rattle.type_terms.specs.Shapes.{method_map, term_map}
use Rattle.type_terms.specs.NodeShapes.{param_shape, sig_shape, field_shape, method_shape, term_shape}
use Rattle.type_terms.specs.Declarations.{ReceiverOf, receiver_map, receiver_shape, Decl, form_map, decl_form}
use Rattle.type_terms.specs.Trees.{Text, Tree}
use Rattle.file_layout.specs.Items.{Item, a_number, a_flag, a_text, a_path, a_position, a_type}
use Rattle.block_writer.specs.declared.items.Item.{Item as Put}
use Rattle.block_writer.specs.declared.items.Item.TheVariants as put

module _ (type : ℕ → Tree) where
  abbrev pub meant : Put → Item
  meant (put.Number n) = a_number n
  meant (put.Flag x) = a_flag x
  meant (put.Text text) = a_text text.now
  meant (put.Path path) = a_path path.now
  meant (put.Position pos) = a_position pos.now
  meant put.NoPosition = a_position Nowhere
  meant (put.Type id) = a_type (type id)

  -- what nodes hold, with the types of numbers
  abbrev pub param_over : ParamNode → ParamOf Pos Text Tree
  param_over x = param_map (λ (x : Pos). x) (λ (x : Text). x) (λ (x : Text). x) type (param_shape x)

  abbrev pub params_over : List ParamNode → List (ParamOf Pos Text Tree)
  params_over xs = map (param_map (λ (x : Pos). x) (λ (x : Text). x) (λ (x : Text). x) type) (map param_shape xs)

  abbrev pub sig_over : Sig → SigOf Pos Text Tree
  sig_over x = sig_map (λ (x : Pos). x) (λ (x : Text). x) (λ (x : Text). x) type (sig_shape x)

  abbrev pub field_over : Field → FieldOf Pos Text Text Tree
  field_over x = field_map (λ x. x) (λ x. x) (λ x. x) type (field_shape x)

  abbrev pub fields_over : List Field → List (FieldOf Pos Text Text Tree)
  fields_over xs = map (field_map (λ x. x) (λ x. x) (λ x. x) type) (map field_shape xs)

  abbrev pub method_over : IMethod → MethodOf Pos Text Text Tree
  method_over x = method_map (λ x. x) (λ x. x) (λ x. x) type (method_shape x)

  abbrev pub methods_over : List IMethod → List (MethodOf Pos Text Text Tree)
  methods_over xs = map (method_map (λ x. x) (λ x. x) (λ x. x) type) (map method_shape xs)

  abbrev pub term_over : Term → TermOf Tree
  term_over x = term_map (λ (x : Pos). x) (λ (x : Text). x) (λ (x : Text). x) type (term_shape x)

  abbrev pub terms_over : List Term → List (TermOf Tree)
  terms_over xs = map (term_map (λ (x : Pos). x) (λ (x : Text). x) (λ (x : Text). x) type) (map term_shape xs)

  abbrev pub receiver_over : Method → ReceiverOf Pos Text Tree
  receiver_over x = receiver_map (λ x. x) (λ x. x) type (receiver_shape x)

  abbrev pub receivers_over : List Method → List (ReceiverOf Pos Text Tree)
  receivers_over xs = map (receiver_map (λ x. x) (λ x. x) type) (map receiver_shape xs)

  abbrev pub decl_over : DeclNode → Decl
  decl_over decl = form_map (λ x. x) (λ x. x) type (decl_form decl)

-- Items were added, whatever types the numbers stand for.
abbrev pub Adds : List Put → List Put → ((ℕ → Tree) → List Item) → Type 0
Adds old new items = (type : ℕ → Tree) → map (meant type) new ≡ map (meant type) old ++ items type
