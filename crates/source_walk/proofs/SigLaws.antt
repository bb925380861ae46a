-- A signature as a plain tree, by its parts.
use Rattle.std.proofs.Common.{◌≡◌, map}
use Rattle.go_lexer.specs.declared.token_kinds.Token.{Token}
use Rattle.go_expr_syntax.specs.declared.symbols.Ident.{Ident}
use Rattle.go_type_syntax.specs.declared.tree.SigExpr.{SigExpr, out-SigExpr}
use Rattle.go_type_syntax.specs.declared.tree.ElemExpr.TheFolds.{fold_out-SigExpr}
use Rattle.go_type_syntax.specs.PlainTypes as p
use Rattle.go_type_syntax.specs.PlainTypes.{PlainType, PlainField, PlainParam, PlainSig, PlainElem, PlainTerm, plain_sig, plain_param, params_of, type_step, elem_step, field_step, param_step, sig_step, term_step}

pub plain_sig_out : {W L : Type 0} (word : Ident → W) (value : Token → L) (s : SigExpr) → plain_sig word value s ≡ p.signature (params_of (map (plain_param word value) (out-SigExpr s).params)) (params_of (map (plain_param word value) (out-SigExpr s).results)) (out-SigExpr s).at
plain_sig_out {W} {L} word value s = fold_out-SigExpr (PlainElem W L) (PlainType W L) (PlainField W L) (PlainParam W L) (PlainSig W L) (PlainTerm W L) (elem_step word) (type_step word value) (field_step word) (param_step word) sig_step term_step s
