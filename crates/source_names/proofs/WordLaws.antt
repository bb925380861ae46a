-- Lists of names, item by item.
use Rattle.std.proofs.Common.{◌≡◌, ℕ, suc, Bool, true, false, ◌&&◌, IsTrue, ◌↔◌, List, [], ◌∷◌, ◌++◌, Option, Some, None, map, flat_map, refl, sym, ap, ◌∙◌}
use Rattle.std.proofs.lemmas.List.Concat.{flat_map-append}
use Rattle.go_expr_syntax.specs.declared.symbols.Ident.{Ident}
use Rattle.go_type_syntax.specs.declared.tree.ElemExpr.{ElemExpr}
use Rattle.go_type_syntax.specs.declared.tree.FieldExpr.{FieldExpr}
use Rattle.go_type_syntax.specs.declared.tree.ParamExpr.{ParamExpr}
use Rattle.go_type_syntax.specs.declared.tree.SigExpr.{SigExpr, out-SigExpr}
use Rattle.go_type_syntax.specs.PlainTypes.{params_of, fields_of, elems_of}
use Rattle.go_type_syntax.proofs.PlainTypeLaws.{plain_sharing, plain_having}
use Rattle.source_trees.specs.Literals.{literal_of}
use Rattle.source_walk.proofs.SigLaws.{plain_sig_out}
use Rattle.go_syntax.specs.declared.tree.Receiver.{Receiver}
use Rattle.go_syntax.specs.declared.tree.TParam.{TParam}
use Rattle.go_syntax.specs.declared.tree.Top.{Top}
use Rattle.go_syntax.specs.declared.tree.Top.TheVariants as top
use Rattle.repeated_names.specs.Firsts.{first}
use Rattle.repeated_names.specs.Names.{Named}
use Rattle.source_trees.specs.Files.{receiver_if_any, written_tparam, written_top, written_tops}
use Rattle.source_trees.specs.Trees.{WrittenType, written_param, written_field, written_elem, written_sig, written_type}
use Rattle.source_trees.specs.Words.{Word, word}
use Rattle.source_walk.specs.Spots.{tparam_words}
use Rattle.source_names.specs.Duplicates.{is_bare, init_at, func_inits, no_params, no_tparams, names_or_embedded, param_words, params_words, field_words, fields_words, elem_words, methods_words}
use Rattle.source_names.specs.Names.{declared_at, words_at, top_words}

pub words_at_append : (file : ℕ) (xs ys : List Word) → words_at file (xs ++ ys) ≡ words_at file xs ++ words_at file ys
words_at_append file xs ys = flat_map-append (declared_at file) xs ys

module _ (source : List ℕ) where
  pub each_word : (xs : List Ident) → flat_map (λ x. word source x ∷ []) xs ≡ map (word source) xs
  each_word [] = refl
  each_word (x ∷ xs) = ap (λ k. word source x ∷ k) (each_word xs)

  pub each_param : (xs : List ParamExpr) → flat_map (λ x. param_words (written_param source x)) xs ≡ params_words (params_of (map (written_param source) xs))
  each_param [] = refl
  each_param (x ∷ xs) = ap (λ k. param_words (written_param source x) ++ k) (each_param xs)

  pub each_field : (xs : List FieldExpr) → flat_map (λ x. field_words (written_field source x)) xs ≡ fields_words (fields_of (map (written_field source) xs))
  each_field [] = refl
  each_field (x ∷ xs) = ap (λ k. field_words (written_field source x) ++ k) (each_field xs)

  pub each_elem : (xs : List ElemExpr) → flat_map (λ x. elem_words (written_elem source x)) xs ≡ methods_words (elems_of (map (written_elem source) xs))
  each_elem [] = refl
  each_elem (x ∷ xs) = ap (λ k. elem_words (written_elem source x) ++ k) (each_elem xs)

  pub each_tparam : (xs : List TParam) → flat_map (λ x. (written_tparam source x).names) xs ≡ tparam_words (map (written_tparam source) xs)
  each_tparam [] = refl
  each_tparam (x ∷ xs) = ap (λ k. (written_tparam source x).names ++ k) (each_tparam xs)

  -- what constants repeat has no part in their names
  same_top : (all : List Top) (k : ℕ) (x : Top) → top_words (written_top source [] 0 x) ≡ top_words (written_top source all k x)
  same_top all k (top.Constant c) = refl
  same_top all k (top.Var c) = refl
  same_top all k (top.Defined c) = refl
  same_top all k (top.Alias c) = refl
  same_top all k (top.Func c) = refl

  pub each_top : (all : List Top) (k : ℕ) (xs : List Top) → flat_map (λ x. top_words (written_top source [] 0 x)) xs ≡ flat_map top_words (written_tops source all k xs)
  each_top all k [] = refl
  each_top all k (x ∷ xs) =
      ap (λ z. z ++ flat_map (λ y. top_words (written_top source [] 0 y)) xs) (same_top all k x)
      ∙ ap (λ z. top_words (written_top source all k x) ++ z) (each_top all (suc k) xs)

  -- ---- the lists of one item

  pub param_names : (p : ParamExpr) → flat_map (λ x. word source x ∷ []) p.names ≡ param_words (written_param source p)
  param_names p = each_word p.names ∙ sym (ap param_words (plain_sharing (word source) (literal_of source) p))

  some_names : (xs : List Ident) (ty : WrittenType) → (xs ≡ [] → ⊥) → names_or_embedded (map (word source) xs) ty ≡ map (word source) xs
  some_names [] ty h = absurd (h refl)
  some_names (x ∷ xs) ty h = refl

  pub field_names : (f : FieldExpr) → (f.names ≡ [] → ⊥) → flat_map (λ x. word source x ∷ []) f.names ≡ field_words (written_field source f)
  field_names f h = each_word f.names ∙ sym (ap field_words (plain_having (word source) (literal_of source) f) ∙ some_names f.names (written_type source f.ty) h)

  -- ---- functions that take and give nothing

  pub empty_tparams : (xs : List TParam) (b : Bool) → IsTrue b ↔ (xs ≡ []) → b ≡ no_tparams (map (written_tparam source) xs)
  empty_tparams [] b h = h.1 refl
  empty_tparams (x ∷ xs) true h = let k : x ∷ xs ≡ [] = h.0 refl in absurd cc
  empty_tparams (x ∷ xs) false h = refl

  pub empty_params : (xs : List ParamExpr) (b : Bool) → IsTrue b ↔ (xs ≡ []) → b ≡ no_params (params_of (map (written_param source) xs))
  empty_params [] b h = h.1 refl
  empty_params (x ∷ xs) true h = let k : x ∷ xs ≡ [] = h.0 refl in absurd cc
  empty_params (x ∷ xs) false h = refl

  all_three : (a b c v : Bool) → a ≡ true → b ≡ true → v ≡ c → v ≡ (a && b && c)
  all_three true true c v p q e = e
  all_three false b c v p q e = absurd cc
  all_three true false c v p q e = absurd cc

  not_first : (a b c v : Bool) → a ≡ false → v ≡ false → v ≡ (a && b && c)
  not_first false b c v p e = e
  not_first true b c v p e = absurd cc

  not_second : (a b c v : Bool) → b ≡ false → v ≡ false → v ≡ (a && b && c)
  not_second false b c v p e = e
  not_second true false c v p e = e
  not_second true true c v p e = absurd cc

  -- the parts of a signature tell whether it is bare
  bare_by : (tparams : List TParam) (sig : SigExpr) → is_bare (map (written_tparam source) tparams) (written_sig source sig)
      ≡ (no_tparams (map (written_tparam source) tparams) && no_params (params_of (map (written_param source) (out-SigExpr sig).params))
      && no_params (params_of (map (written_param source) (out-SigExpr sig).results)))
  bare_by tparams sig = ap (is_bare (map (written_tparam source) tparams)) (plain_sig_out (word source) (literal_of source) sig)

  pub is_bare_all : (tparams : List TParam) (sig : SigExpr) (v : Bool) → true ≡ no_tparams (map (written_tparam source) tparams)
      → true ≡ no_params (params_of (map (written_param source) (out-SigExpr sig).params)) → v ≡ no_params (params_of (map (written_param source) (out-SigExpr sig).results))
      → v ≡ is_bare (map (written_tparam source) tparams) (written_sig source sig)
  is_bare_all tparams sig v a b c = all_three _ _ _ v (sym a) (sym b) c ∙ sym (bare_by tparams sig)

  pub not_bare_tparams : (tparams : List TParam) (sig : SigExpr) (v : Bool) → false ≡ no_tparams (map (written_tparam source) tparams) → v ≡ false
      → v ≡ is_bare (map (written_tparam source) tparams) (written_sig source sig)
  not_bare_tparams tparams sig v a e = not_first _ _ _ v (sym a) e ∙ sym (bare_by tparams sig)

  pub not_bare_params : (tparams : List TParam) (sig : SigExpr) (v : Bool) → false ≡ no_params (params_of (map (written_param source) (out-SigExpr sig).params)) → v ≡ false
      → v ≡ is_bare (map (written_tparam source) tparams) (written_sig source sig)
  not_bare_params tparams sig v a e = not_second _ _ _ v (sym a) e ∙ sym (bare_by tparams sig)

-- ---- a function called `init`

pub bare_init : (file : ℕ) (source : List ℕ) (r : Option Receiver) (b : Bool) (w : Word) → r ≡ None → b ≡ true → None ≡ first (func_inits file (receiver_if_any source r) b w)
bare_init file source (Some x) b w is e = absurd cc
bare_init file source None true w is e = refl
bare_init file source None false w is e = absurd cc

pub no_init : (file : ℕ) (source : List ℕ) (r : Option Receiver) (b : Bool) (w : Word) → r ≡ None → b ≡ false → first (init_at file w) ≡ first (func_inits file (receiver_if_any source r) b w)
no_init file source (Some x) b w is e = absurd cc
no_init file source None false w is e = refl
no_init file source None true w is e = absurd cc

pub ruleset words = (words_at_append, each_word, each_param, each_field, each_elem, each_tparam, each_top)
