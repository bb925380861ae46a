-- The text of each part of a line that nodes make, by the text of its references.
use Rattle.std.specs.Prelude.{ℕ, List, map}
use Rattle.go_values.specs.declared.positions.Pos.{Pos}
use Rattle.type_terms.specs.declared.descriptors.Node.{Node}
use Rattle.type_terms.specs.declared.literals.ParamNode.{ParamNode}
use Rattle.type_terms.specs.declared.literals.Sig.{Sig}
use Rattle.type_terms.specs.declared.literals.Field.{Field}
use Rattle.type_terms.specs.declared.literals.IMethod.{IMethod}
use Rattle.type_terms.specs.declared.literals.Term.{Term}
use Rattle.type_terms.specs.declared.declarations.Method.{Method}
use Rattle.type_terms.specs.declared.declarations.DeclNode.{DeclNode}
use Rattle.type_terms.specs.Declarations.{ReceiverOf, receiver_map, receiver_shape, form_map, decl_form}
use Rattle.type_terms.specs.Shapes.{ParamOf, FieldOf, MethodOf, TermOf, param_map, sig_map, field_map, method_map}
use Rattle.type_terms.specs.Shapes.{term_map, retype}
use Rattle.type_terms.specs.Trees.{Text}
use Rattle.type_terms.specs.NodeShapes.{param_shape, sig_shape, field_shape, method_shape, term_shape, node_shape}
use Rattle.decl_text.specs.DeclText.{Described, method_line as method_line_of}
use Rattle.decl_text.specs.TypeText.{param_text, sig_text, field_text, method_text, term_text, type_text}

module _ (refer : ℕ → Text) where
  abbrev pub described_param : ParamOf Pos Text ℕ → ParamOf Pos Text Text
  described_param x = param_map (λ x. x) (λ x. x) (λ (x : Text). x) refer x

  abbrev pub described_params : List ParamNode → List (ParamOf Pos Text Text)
  described_params xs = map described_param (map param_shape xs)

  abbrev pub param_line : ParamNode → Text
  param_line x = param_text (described_param (param_shape x))

  abbrev pub sig_line : Sig → Text
  sig_line x = sig_text (sig_map (λ x. x) (λ x. x) (λ (x : Text). x) refer (sig_shape x))

  abbrev pub described_field : FieldOf Pos Text Text ℕ → FieldOf Pos Text Text Text
  described_field x = field_map (λ x. x) (λ x. x) (λ x. x) refer x

  abbrev pub field_line : Field → Text
  field_line x = field_text (described_field (field_shape x))

  abbrev pub described_method : MethodOf Pos Text Text ℕ → MethodOf Pos Text Text Text
  described_method x = method_map (λ x. x) (λ x. x) (λ x. x) refer x

  abbrev pub method_line : IMethod → Text
  method_line x = method_text (described_method (method_shape x))

  abbrev pub described_term : TermOf ℕ → TermOf Text
  described_term x = term_map (λ (x : Pos). x) (λ (x : Text). x) (λ (x : Text). x) refer x

  abbrev pub term_line : Term → Text
  term_line x = term_text (described_term (term_shape x))

  abbrev pub node_line : Node → Text
  node_line node = type_text (retype refer (node_shape node))

  -- a line of a method of a defined type
  abbrev pub described_receiver : ReceiverOf Pos Text ℕ → ReceiverOf Pos Text Text
  described_receiver x = receiver_map (λ x. x) (λ x. x) refer x

  abbrev pub receiver_line : Method → Text
  receiver_line x = method_line_of (described_receiver (receiver_shape x))

  -- a declaration over nodes, where each type is given by the text of its reference
  abbrev pub described_decl : DeclNode → Described
  described_decl decl = form_map (λ x. x) (λ x. x) refer (decl_form decl)
