-- Expressions, types and signatures as they are written: plain trees with texts and the values of literals.
use Rattle.std.specs.Prelude.{ℕ, List, Option, Some, None}
use Rattle.go_expr_syntax.specs.declared.tree.Expr.{Expr}
use Rattle.go_expr_syntax.specs.PlainExprs.{PlainExpr, plain_expr}
use Rattle.go_type_syntax.specs.declared.tree.ElemExpr.{ElemExpr}
use Rattle.go_type_syntax.specs.declared.tree.FieldExpr.{FieldExpr}
use Rattle.go_type_syntax.specs.declared.tree.ParamExpr.{ParamExpr}
use Rattle.go_type_syntax.specs.declared.tree.SigExpr.{SigExpr}
use Rattle.go_type_syntax.specs.declared.tree.TermExpr.{TermExpr}
use Rattle.go_type_syntax.specs.declared.tree.TypeExpr.{TypeExpr}
use Rattle.go_type_syntax.specs.PlainTypes.{PlainType, PlainSig, PlainField, PlainParam, PlainElem, PlainTerm}
use Rattle.go_type_syntax.specs.PlainTypes.{plain_type, plain_sig, plain_field, plain_param, plain_elem, plain_term}
use Rattle.source_trees.specs.declared.literals.Literal.{Literal}
use Rattle.source_trees.specs.Literals.{literal_of}
use Rattle.source_trees.specs.Words.{Word, word}

abbrev pub WrittenExpr : Type 0
WrittenExpr = PlainExpr Word Literal

abbrev pub WrittenType : Type 0
WrittenType = PlainType Word Literal

abbrev pub WrittenSig : Type 0
WrittenSig = PlainSig Word Literal

abbrev pub written_expr : List ℕ → Expr → WrittenExpr
written_expr source x = plain_expr (word source) (literal_of source) x

abbrev pub written_type : List ℕ → TypeExpr → WrittenType
written_type source x = plain_type (word source) (literal_of source) x

abbrev pub written_sig : List ℕ → SigExpr → WrittenSig
written_sig source x = plain_sig (word source) (literal_of source) x

abbrev pub written_field : List ℕ → FieldExpr → PlainField Word Literal
written_field source x = plain_field (word source) (literal_of source) x

abbrev pub written_param : List ℕ → ParamExpr → PlainParam Word Literal
written_param source x = plain_param (word source) (literal_of source) x

abbrev pub written_elem : List ℕ → ElemExpr → PlainElem Word Literal
written_elem source x = plain_elem (word source) (literal_of source) x

abbrev pub written_term : List ℕ → TermExpr → PlainTerm Word Literal
written_term source x = plain_term (word source) (literal_of source) x

abbrev pub type_if_any : List ℕ → Option TypeExpr → Option WrittenType
type_if_any source (Some x) = Some (written_type source x)
type_if_any source None = None
