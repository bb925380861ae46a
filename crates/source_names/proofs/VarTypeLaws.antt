-- A walk sees variables without a type at declarations alone, so what it gives is what the declarations give.
use Rattle.std.proofs.Common.{◌≡◌, ℕ, suc, List, [], ◌∷◌, ◌++◌, Option, Some, None, refl, sym, ap, ◌∙◌}
use Rattle.std.proofs.lemmas.List.{append_assoc, append-nil}
use Rattle.go_expr_syntax.specs.PlainExprs.{literal, named, convert, paren, unary, binary}
use Rattle.go_type_syntax.specs.PlainTypes as t
use Rattle.go_type_syntax.specs.PlainTypes.{PlainTypes, PlainParams, PlainParam, PlainFields, PlainField, PlainElems}
use Rattle.go_type_syntax.specs.PlainTypes.{PlainElem, PlainTerms, PlainTerm}
use Rattle.go_type_syntax.specs.PlainTypes.{no_type, and_type, signature, no_param, and_param}
use Rattle.go_type_syntax.specs.PlainTypes.{sharing, no_field, and_field}
use Rattle.go_type_syntax.specs.PlainTypes.{having, no_elem, and_elem, method, embedded, no_term, and_term, of_type}
use Rattle.source_places.specs.declared.places.Found.{Found}
use Rattle.source_trees.specs.declared.literals.Literal.{Literal}
use Rattle.source_trees.specs.Words.{Word}
use Rattle.source_trees.specs.Trees.{WrittenExpr, WrittenType, WrittenSig}
use Rattle.source_trees.specs.Files.{WrittenTParam, WrittenTypeSpec, WrittenTop, WrittenFile, constants, variables}
use Rattle.source_trees.specs.Files.{defined, alias, func}
use Rattle.source_walk.specs.declared.spots.Spot.{Spot}
use Rattle.source_walk.specs.Spots.{scope, start, value_of, constraint_of, right_side_of, signature_of, inside}
use Rattle.source_walk.specs.Spots.{element_of, term_of}
use Rattle.source_walk.specs.Rules.{places_in}
use Rattle.source_walk.specs.Visits.{Visit, expr_visits, type_visits, types_visits, sig_visits, params_visits}
use Rattle.source_walk.specs.Visits.{param_visits, fields_visits, field_visits, elems_visits, elem_visits, terms_visits}
use Rattle.source_walk.specs.Visits.{term_visits, numbered, type_if_any_visits, value_visits, tparams_visits}
use Rattle.source_walk.specs.Visits.{type_spec_visits, inside_top, top_visits, file_visits, files_visits}
use Rattle.source_names.specs.VarTypes.{untyped_top, untyped_tops, untyped_files, no_var_types, no_var_type}

in_both : {C : Type 0} (f : Visit → List (Found C)) (us vs : List Visit) → places_in f (us ++ vs) ≡ places_in f us ++ places_in f vs
in_both f [] vs = refl
in_both f (u ∷ us) vs = ap (λ k. f u ++ k) (in_both f us vs) ∙ sym (append_assoc (f u) (places_in f us) (places_in f vs))

none : {C : Type 0} (cause : C) (us vs : List Visit) → places_in (no_var_type cause) us ≡ [] → places_in (no_var_type cause) vs ≡ [] → places_in (no_var_type cause) (us ++ vs) ≡ []
none cause us vs a b = in_both (no_var_type cause) us vs ∙ ap (λ k. k ++ places_in (no_var_type cause) vs) a ∙ b

-- ---- none in expressions and types

in_expr : {C : Type 0} (c : C) (s : Spot) (w : List Word) (e : WrittenExpr) → places_in (no_var_type c) (expr_visits s w e) ≡ []
in_expr c s w (literal x at) = refl
in_expr c s w (named x at) = refl
in_expr c s w (convert x e at) = in_expr c s w e
in_expr c s w (paren e at) = in_expr c s w e
in_expr c s w (unary op e at) = in_expr c s w e
in_expr c s w (binary op p e f at) = none c (expr_visits s w e) (expr_visits s w f) (in_expr c s w e) (in_expr c s w f)

mutual
  in_type : {C : Type 0} (c : C) (s : Spot) (w : List Word) (ty : WrittenType) → places_in (no_var_type c) (type_visits s w ty) ≡ []
  in_type c s w (t.named x args at) = in_types c (inside s) w args
  in_type c s w (t.paren ty at) = in_type c s w ty
  in_type c s w (t.pointer ty at) = in_type c (inside s) w ty
  in_type c s w (t.slice ty at) = in_type c (inside s) w ty
  in_type c s w (t.array e ty at) = none c (expr_visits (inside s) w e) (type_visits (inside s) w ty) (in_expr c (inside s) w e) (in_type c (inside s) w ty)
  in_type c s w (t.map_of k ty at) = none c (type_visits (inside s) w k) (type_visits (inside s) w ty) (in_type c (inside s) w k) (in_type c (inside s) w ty)
  in_type c s w (t.chan r d ty at) = in_type c (inside s) w ty
  in_type c s w (t.func sig at) = in_sig c (inside s) w sig
  in_type c s w (t.struct fields at) = in_fields c (inside s) w fields
  in_type c s w (t.interface elems at) = in_elems c s w elems
  in_type c s w (t.union terms at) = in_terms c (term_of s) w terms

  in_types : {C : Type 0} (c : C) (s : Spot) (w : List Word) (ts : PlainTypes Word Literal) → places_in (no_var_type c) (types_visits s w ts) ≡ []
  in_types c s w no_type = refl
  in_types c s w (and_type ty ts) = none c (type_visits s w ty) (types_visits s w ts) (in_type c s w ty) (in_types c s w ts)

  in_sig : {C : Type 0} (c : C) (s : Spot) (w : List Word) (sig : WrittenSig) → places_in (no_var_type c) (sig_visits s w sig) ≡ []
  in_sig c s w (signature ps rs at) = none c (params_visits s w ps) (params_visits s w rs) (in_params c s w ps) (in_params c s w rs)

  in_params : {C : Type 0} (c : C) (s : Spot) (w : List Word) (ps : PlainParams Word Literal) → places_in (no_var_type c) (params_visits s w ps) ≡ []
  in_params c s w no_param = refl
  in_params c s w (and_param p ps) = none c (param_visits s w p) (params_visits s w ps) (in_param c s w p) (in_params c s w ps)

  in_param : {C : Type 0} (c : C) (s : Spot) (w : List Word) (p : PlainParam Word Literal) → places_in (no_var_type c) (param_visits s w p) ≡ []
  in_param c s w (sharing names variadic ty at) = in_type c s w ty

  in_fields : {C : Type 0} (c : C) (s : Spot) (w : List Word) (fs : PlainFields Word Literal) → places_in (no_var_type c) (fields_visits s w fs) ≡ []
  in_fields c s w no_field = refl
  in_fields c s w (and_field f fs) = none c (field_visits s w f) (fields_visits s w fs) (in_field c s w f) (in_fields c s w fs)

  in_field : {C : Type 0} (c : C) (s : Spot) (w : List Word) (f : PlainField Word Literal) → places_in (no_var_type c) (field_visits s w f) ≡ []
  in_field c s w (having names ty tag at) = in_type c s w ty

  in_elems : {C : Type 0} (c : C) (s : Spot) (w : List Word) (es : PlainElems Word Literal) → places_in (no_var_type c) (elems_visits s w es) ≡ []
  in_elems c s w no_elem = refl
  in_elems c s w (and_elem e es) = none c (elem_visits s w e) (elems_visits s w es) (in_elem c s w e) (in_elems c s w es)

  in_elem : {C : Type 0} (c : C) (s : Spot) (w : List Word) (e : PlainElem Word Literal) → places_in (no_var_type c) (elem_visits s w e) ≡ []
  in_elem c s w (method name sig at) = in_sig c (inside s) w sig
  in_elem c s w (embedded ty at) = in_type c (element_of s) w ty

  in_terms : {C : Type 0} (c : C) (s : Spot) (w : List Word) (xs : PlainTerms Word Literal) → places_in (no_var_type c) (terms_visits s w xs) ≡ []
  in_terms c s w no_term = refl
  in_terms c s w (and_term x xs) = none c (term_visits s w x) (terms_visits s w xs) (in_term c s w x) (in_terms c s w xs)

  in_term : {C : Type 0} (c : C) (s : Spot) (w : List Word) (x : PlainTerm Word Literal) → places_in (no_var_type c) (term_visits s w x) ≡ []
  in_term c s w (of_type tilde ty at) = in_type c s w ty

-- ---- none inside of a declaration

in_type_if_any : {C : Type 0} (c : C) (s : Spot) (w : List Word) (ty : Option WrittenType) → places_in (no_var_type c) (type_if_any_visits s w ty) ≡ []
in_type_if_any c s w (Some ty) = in_type c s w ty
in_type_if_any c s w None = refl

in_values : {C : Type 0} (c : C) (s : Spot) (w : List Word) (i : ℕ) (es : List WrittenExpr) → places_in (no_var_type c) (numbered (value_visits s w) i es) ≡ []
in_values c s w i [] = refl
in_values c s w i (e ∷ es) = none c (value_visits s w i e) (numbered (value_visits s w) (suc i) es) (in_expr c (value_of i s) w e) (in_values c s w (suc i) es)

in_tparams : {C : Type 0} (c : C) (s : Spot) (w : List Word) (ps : List WrittenTParam) → places_in (no_var_type c) (tparams_visits s w ps) ≡ []
in_tparams c s w [] = refl
in_tparams c s w (p ∷ ps) = none c (type_visits (constraint_of s) w p.constraint) (tparams_visits s w ps) (in_type c (constraint_of s) w p.constraint) (in_tparams c s w ps)

in_spec : {C : Type 0} (c : C) (s : Spot) (w : List Word) (d : WrittenTypeSpec) → places_in (no_var_type c) (type_spec_visits s w d) ≡ []
in_spec c s w d = none c (tparams_visits s w d.tparams) (type_visits (right_side_of s) w d.ty) (in_tparams c s w d.tparams) (in_type c (right_side_of s) w d.ty)

in_inside : {C : Type 0} (c : C) (s : Spot) (w : List Word) (d : WrittenTop) → places_in (no_var_type c) (inside_top s w d) ≡ []
in_inside c s w (constants d) = none c (type_if_any_visits s w d.ty) (numbered (value_visits s w) 0 d.values) (in_type_if_any c s w d.ty) (in_values c s w 0 d.values)
in_inside c s w (variables v) = in_type_if_any c s w v.ty
in_inside c s w (defined d) = in_spec c s w d
in_inside c s w (alias d) = in_spec c s w d
in_inside c s w (func f) = none c (tparams_visits s w f.tparams) (sig_visits (signature_of s) w f.sig) (in_tparams c s w f.tparams) (in_sig c (signature_of s) w f.sig)

-- ---- declarations and files

start_file : (file k : ℕ) (d : WrittenTop) → (start file k d).file ≡ file
unfolding start
start_file file k d = refl

in_top : {C : Type 0} (c : C) (file k : ℕ) (d : WrittenTop) → places_in (no_var_type c) (top_visits file k d) ≡ untyped_top c file d
in_top c file k d =
    ap (λ z. untyped_top c (start file k d).file d ++ z) (in_inside c (start file k d) (scope d) d)
    ∙ append-nil (untyped_top c (start file k d).file d) ∙ ap (λ n. untyped_top c n d) (start_file file k d)

in_tops : {C : Type 0} (c : C) (file k : ℕ) (ds : List WrittenTop) → places_in (no_var_type c) (numbered (top_visits file) k ds) ≡ untyped_tops c file ds
in_tops c file k [] = refl
in_tops c file k (d ∷ ds) =
    in_both (no_var_type c) (top_visits file k d) (numbered (top_visits file) (suc k) ds)
    ∙ ap (λ z. z ++ places_in (no_var_type c) (numbered (top_visits file) (suc k) ds)) (in_top c file k d)
    ∙ ap (λ z. untyped_top c file d ++ z) (in_tops c file (suc k) ds)

in_files : {C : Type 0} (c : C) (n : ℕ) (fs : List WrittenFile) → places_in (no_var_type c) (numbered file_visits n fs) ≡ untyped_files c n fs
in_files c n [] = refl
in_files c n (f ∷ fs) =
    in_both (no_var_type c) (file_visits n f) (numbered file_visits (suc n) fs)
    ∙ ap (λ z. z ++ places_in (no_var_type c) (numbered file_visits (suc n) fs)) (in_tops c n 0 f.tops)
    ∙ ap (λ z. untyped_tops c n f.tops ++ z) (in_files c (suc n) fs)

-- what a walk gives in all files
pub walked : {C : Type 0} (c : C) (files : List WrittenFile) → places_in (no_var_type c) (files_visits files) ≡ no_var_types c files
walked c files = in_files c 0 files

pub ruleset walks = (walked)
