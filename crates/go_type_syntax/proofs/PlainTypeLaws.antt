-- Types as plain trees, a case a variant.
use Rattle.std.proofs.Common.{◌≡◌, ℕ, Bool, List, map, sym, ap, ◌∙◌}
use Rattle.go_lexer.specs.declared.token_kinds.Token.{Token}
use Rattle.go_expr_syntax.specs.declared.symbols.Ident.{Ident}
use Rattle.go_expr_syntax.specs.declared.tree.NameExpr.{NameExpr}
use Rattle.go_expr_syntax.specs.declared.tree.Expr.{Expr}
use Rattle.go_expr_syntax.specs.PlainExprs.{plain_name, plain_expr}
use Rattle.go_type_syntax.specs.declared.tree.FieldExpr.{FieldExpr}
use Rattle.go_type_syntax.specs.declared.tree.ParamExpr.{ParamExpr}
use Rattle.go_type_syntax.specs.declared.tree.SigExpr.{SigExpr}
use Rattle.go_type_syntax.specs.declared.tree.TermExpr.{TermExpr}
use Rattle.go_type_syntax.specs.declared.tree.ElemExpr.{ElemExpr}
use Rattle.go_type_syntax.specs.declared.tree.ElemExpr.TheVariants as e
use Rattle.go_type_syntax.specs.declared.tree.TypeExpr.{TypeExpr}
use Rattle.go_type_syntax.specs.declared.tree.TypeExpr.TheVariants as y
use Rattle.go_type_syntax.specs.declared.tree.ElemExpr.TheOpen.{ElemExpr-F, TypeExpr-F}
use Rattle.go_type_syntax.specs.declared.tree.ElemExpr.TheFolds.{fold-roll-ElemExpr, fold-roll-TypeExpr, fold-roll-SigExpr, fold_out-FieldExpr, fold_out-ParamExpr, fold_out-TermExpr}
use Rattle.go_type_syntax.specs.Grammar.{signature}
use Rattle.go_type_syntax.specs.PlainTypes as p
use Rattle.go_type_syntax.specs.PlainTypes.{PlainType, PlainSig, PlainField, PlainParam, PlainElem, PlainTerm, types_of, fields_of, params_of, elems_of, terms_of, type_step, elem_step, field_step, param_step, sig_step, term_step}
use Rattle.go_type_syntax.specs.PlainTypes.{plain_type, plain_sig, plain_field, plain_param, plain_elem, plain_term}

module _ {W L : Type 0} (word : Ident → W) (value : Token → L) where
  pub plain_named : (x : NameExpr) (args : List TypeExpr) (at : ℕ) → plain_type word value (y.Name x args at) ≡ p.named (plain_name word x) (types_of (map (plain_type word value) args)) at
  plain_named x args at = ap (plain_type word value) (sym (y.rolls-Name x args at)) ∙ fold-roll-TypeExpr (PlainElem W L) (PlainType W L) (PlainField W L) (PlainParam W L) (PlainSig W L) (PlainTerm W L) (elem_step word) (type_step word value) (field_step word) (param_step word) sig_step term_step (TypeExpr-F.Name x args at)

  pub plain_paren : (ty : TypeExpr) (at : ℕ) → plain_type word value (y.Paren ty at) ≡ p.paren (plain_type word value ty) at
  plain_paren ty at = ap (plain_type word value) (sym (y.rolls-Paren ty at)) ∙ fold-roll-TypeExpr (PlainElem W L) (PlainType W L) (PlainField W L) (PlainParam W L) (PlainSig W L) (PlainTerm W L) (elem_step word) (type_step word value) (field_step word) (param_step word) sig_step term_step (TypeExpr-F.Paren ty at)

  pub plain_pointer : (ty : TypeExpr) (at : ℕ) → plain_type word value (y.Pointer ty at) ≡ p.pointer (plain_type word value ty) at
  plain_pointer ty at = ap (plain_type word value) (sym (y.rolls-Pointer ty at)) ∙ fold-roll-TypeExpr (PlainElem W L) (PlainType W L) (PlainField W L) (PlainParam W L) (PlainSig W L) (PlainTerm W L) (elem_step word) (type_step word value) (field_step word) (param_step word) sig_step term_step (TypeExpr-F.Pointer ty at)

  pub plain_slice : (ty : TypeExpr) (at : ℕ) → plain_type word value (y.Slice ty at) ≡ p.slice (plain_type word value ty) at
  plain_slice ty at = ap (plain_type word value) (sym (y.rolls-Slice ty at)) ∙ fold-roll-TypeExpr (PlainElem W L) (PlainType W L) (PlainField W L) (PlainParam W L) (PlainSig W L) (PlainTerm W L) (elem_step word) (type_step word value) (field_step word) (param_step word) sig_step term_step (TypeExpr-F.Slice ty at)

  pub plain_array : (x : Expr) (ty : TypeExpr) (at : ℕ) → plain_type word value (y.Array x ty at) ≡ p.array (plain_expr word value x) (plain_type word value ty) at
  plain_array x ty at = ap (plain_type word value) (sym (y.rolls-Array x ty at)) ∙ fold-roll-TypeExpr (PlainElem W L) (PlainType W L) (PlainField W L) (PlainParam W L) (PlainSig W L) (PlainTerm W L) (elem_step word) (type_step word value) (field_step word) (param_step word) sig_step term_step (TypeExpr-F.Array x ty at)

  pub plain_map : (key ty : TypeExpr) (at : ℕ) → plain_type word value (y.MapOf key ty at) ≡ p.map_of (plain_type word value key) (plain_type word value ty) at
  plain_map key ty at = ap (plain_type word value) (sym (y.rolls-MapOf key ty at)) ∙ fold-roll-TypeExpr (PlainElem W L) (PlainType W L) (PlainField W L) (PlainParam W L) (PlainSig W L) (PlainTerm W L) (elem_step word) (type_step word value) (field_step word) (param_step word) sig_step term_step (TypeExpr-F.MapOf key ty at)

  pub plain_chan : (r s : Bool) (ty : TypeExpr) (at : ℕ) → plain_type word value (y.Chan r s ty at) ≡ p.chan r s (plain_type word value ty) at
  plain_chan r s ty at = ap (plain_type word value) (sym (y.rolls-Chan r s ty at)) ∙ fold-roll-TypeExpr (PlainElem W L) (PlainType W L) (PlainField W L) (PlainParam W L) (PlainSig W L) (PlainTerm W L) (elem_step word) (type_step word value) (field_step word) (param_step word) sig_step term_step (TypeExpr-F.Chan r s ty at)

  pub plain_func : (sig : SigExpr) (at : ℕ) → plain_type word value (y.Func sig at) ≡ p.func (plain_sig word value sig) at
  plain_func sig at = ap (plain_type word value) (sym (y.rolls-Func sig at)) ∙ fold-roll-TypeExpr (PlainElem W L) (PlainType W L) (PlainField W L) (PlainParam W L) (PlainSig W L) (PlainTerm W L) (elem_step word) (type_step word value) (field_step word) (param_step word) sig_step term_step (TypeExpr-F.Func sig at)

  pub plain_struct : (fields : List FieldExpr) (at : ℕ) → plain_type word value (y.Struct fields at) ≡ p.struct (fields_of (map (plain_field word value) fields)) at
  plain_struct fields at = ap (plain_type word value) (sym (y.rolls-Struct fields at)) ∙ fold-roll-TypeExpr (PlainElem W L) (PlainType W L) (PlainField W L) (PlainParam W L) (PlainSig W L) (PlainTerm W L) (elem_step word) (type_step word value) (field_step word) (param_step word) sig_step term_step (TypeExpr-F.Struct fields at)

  pub plain_interface : (elems : List ElemExpr) (at : ℕ) → plain_type word value (y.Interface elems at) ≡ p.interface (elems_of (map (plain_elem word value) elems)) at
  plain_interface elems at = ap (plain_type word value) (sym (y.rolls-Interface elems at)) ∙ fold-roll-TypeExpr (PlainElem W L) (PlainType W L) (PlainField W L) (PlainParam W L) (PlainSig W L) (PlainTerm W L) (elem_step word) (type_step word value) (field_step word) (param_step word) sig_step term_step (TypeExpr-F.Interface elems at)

  pub plain_union : (terms : List TermExpr) (at : ℕ) → plain_type word value (y.Union terms at) ≡ p.union (terms_of (map (plain_term word value) terms)) at
  plain_union terms at = ap (plain_type word value) (sym (y.rolls-Union terms at)) ∙ fold-roll-TypeExpr (PlainElem W L) (PlainType W L) (PlainField W L) (PlainParam W L) (PlainSig W L) (PlainTerm W L) (elem_step word) (type_step word value) (field_step word) (param_step word) sig_step term_step (TypeExpr-F.Union terms at)

  pub plain_method : (i : Ident) (sig : SigExpr) (at : ℕ) → plain_elem word value (e.Method i sig at) ≡ p.method (word i) (plain_sig word value sig) at
  plain_method i sig at = ap (plain_elem word value) (sym (e.rolls-Method i sig at)) ∙ fold-roll-ElemExpr (PlainElem W L) (PlainType W L) (PlainField W L) (PlainParam W L) (PlainSig W L) (PlainTerm W L) (elem_step word) (type_step word value) (field_step word) (param_step word) sig_step term_step (ElemExpr-F.Method i sig at)

  pub plain_embedded : (ty : TypeExpr) (at : ℕ) → plain_elem word value (e.Embedded ty at) ≡ p.embedded (plain_type word value ty) at
  plain_embedded ty at = ap (plain_elem word value) (sym (e.rolls-Embedded ty at)) ∙ fold-roll-ElemExpr (PlainElem W L) (PlainType W L) (PlainField W L) (PlainParam W L) (PlainSig W L) (PlainTerm W L) (elem_step word) (type_step word value) (field_step word) (param_step word) sig_step term_step (ElemExpr-F.Embedded ty at)

  pub plain_signature : (ps rs : List ParamExpr) (at : ℕ) → plain_sig word value (signature ps rs at) ≡ p.signature (params_of (map (plain_param word value) ps)) (params_of (map (plain_param word value) rs)) at
  plain_signature ps rs at = fold-roll-SigExpr (PlainElem W L) (PlainType W L) (PlainField W L) (PlainParam W L) (PlainSig W L) (PlainTerm W L) (elem_step word) (type_step word value) (field_step word) (param_step word) sig_step term_step (record { params = ps; results = rs; at = at })

  pub plain_having : (f : FieldExpr) → plain_field word value f ≡ p.having (map word f.names) (plain_type word value f.ty) f.tag f.at
  plain_having f = fold_out-FieldExpr (PlainElem W L) (PlainType W L) (PlainField W L) (PlainParam W L) (PlainSig W L) (PlainTerm W L) (elem_step word) (type_step word value) (field_step word) (param_step word) sig_step term_step f

  pub plain_sharing : (x : ParamExpr) → plain_param word value x ≡ p.sharing (map word x.names) x.variadic (plain_type word value x.ty) x.at
  plain_sharing x = fold_out-ParamExpr (PlainElem W L) (PlainType W L) (PlainField W L) (PlainParam W L) (PlainSig W L) (PlainTerm W L) (elem_step word) (type_step word value) (field_step word) (param_step word) sig_step term_step x

  pub plain_of_type : (x : TermExpr) → plain_term word value x ≡ p.of_type x.tilde (plain_type word value x.ty) x.at
  plain_of_type x = fold_out-TermExpr (PlainElem W L) (PlainType W L) (PlainField W L) (PlainParam W L) (PlainSig W L) (PlainTerm W L) (elem_step word) (type_step word value) (field_step word) (param_step word) sig_step term_step x
