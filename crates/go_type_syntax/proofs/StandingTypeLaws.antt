-- A type begins at its first token, and one whose tokens stand in a source stands there.
use Rattle.std.proofs.Common.{◌≡◌, ℕ, Bool, true, false, List, [], ◌∷◌, map, refl, sym, ap, subst, ◌∙◌}
use Rattle.go_expr_syntax.specs.declared.symbols.Ident.{Ident}
use Rattle.go_expr_syntax.specs.declared.symbols.Symbol.{Symbol}
use Rattle.go_expr_syntax.specs.declared.symbols.Symbol.TheVariants as t
use Rattle.go_expr_syntax.specs.declared.tree.NameExpr.{NameExpr}
use Rattle.go_expr_syntax.specs.Names.{IsTypeName, own, of_package}
use Rattle.go_expr_syntax.specs.Reading.{start_of}
use Rattle.go_expr_syntax.specs.StandingExprs.{IdentsStand, PlaceStands, SymbolsStand}
use Rattle.go_expr_syntax.proofs.StandingLaws.{ident_place, name_stands, names_stand, tag_stands, expr_stands}
use Rattle.go_type_syntax.specs.declared.tree.FieldExpr.{FieldExpr}
use Rattle.go_type_syntax.specs.declared.tree.ParamExpr.{ParamExpr}
use Rattle.go_type_syntax.specs.declared.tree.SigExpr.{SigExpr}
use Rattle.go_type_syntax.specs.declared.tree.TermExpr.{TermExpr}
use Rattle.go_type_syntax.specs.declared.tree.ElemExpr.{ElemExpr}
use Rattle.go_type_syntax.specs.declared.tree.TypeExpr.{TypeExpr}
use Rattle.go_type_syntax.specs.declared.tree.TypeExpr.TheVariants as y
use Rattle.go_type_syntax.specs.Grammar as g
use Rattle.go_type_syntax.specs.Grammar.{instance, field, param, signature, term, IsType, IsNamed, IsArgs, IsTypes, IsField, IsFields, IsParam, IsParams, IsSig, IsTerm, IsTerms, IsUnion, IsElem, IsElems}
use Rattle.go_type_syntax.specs.PlainTypes.{types_of, fields_of, params_of, elems_of, terms_of, plain_type, plain_sig, plain_field, plain_param, plain_elem, plain_term, type_place, type_start}
use Rattle.go_type_syntax.specs.StandingTypes.{is_named, is_embedded, TypeStands, TypesStand, SigStands, ParamsStand, ParamStands, FieldsStand, FieldStands, ElemsStand, ElemStands, TermsStand, TermStands}
use Rattle.go_type_syntax.proofs.PlainTypeLaws.{plain_named, plain_paren, plain_pointer, plain_slice, plain_array, plain_map, plain_chan, plain_func, plain_struct, plain_interface, plain_union, plain_method, plain_embedded, plain_signature, plain_having, plain_sharing, plain_of_type}

-- ---- where a type begins

pub name_start : (ts : List Symbol) (x : NameExpr) (rest : List Symbol) → IsTypeName ts x rest → x.at ≡ start_of ts
name_start ts x rest (own i r) = refl
name_start ts x rest (of_package q d i r) = refl

named_start : (m : ℕ) (ts : List Symbol) (ty : TypeExpr) (rest : List Symbol) → IsNamed m ts ty rest → type_start ty ≡ start_of ts
named_start m ts ty rest (g.by_name n us x vs args r w a) = ap type_place (plain_named (λ i. i) (λ v. v) x args x.at) ∙ name_start us x vs w

pub starts_at : (m : ℕ) (ts : List Symbol) (ty : TypeExpr) (rest : List Symbol) → IsType m ts ty rest → type_start ty ≡ start_of ts
starts_at m ts ty rest (g.name n us z r w) = named_start n us z r w
starts_at m ts ty rest (g.paren n at c us z r w) = ap type_place (plain_paren (λ i. i) (λ v. v) z at)
starts_at m ts ty rest (g.pointer n at us z r w) = ap type_place (plain_pointer (λ i. i) (λ v. v) z at)
starts_at m ts ty rest (g.slice n at c us z r w) = ap type_place (plain_slice (λ i. i) (λ v. v) z at)
starts_at m ts ty rest (g.array j n at c us x vs z r w v) = ap type_place (plain_array (λ i. i) (λ v. v) x.expr z at)
starts_at m ts ty rest (g.map_of j n at b c us k vs z r w v) = ap type_place (plain_map (λ i. i) (λ v. v) k z at)
starts_at m ts ty rest (g.both_ways n at us z r e w) = ap type_place (plain_chan (λ i. i) (λ v. v) true true z at)
starts_at m ts ty rest (g.send_only n at b us z r w) = ap type_place (plain_chan (λ i. i) (λ v. v) false true z at)
starts_at m ts ty rest (g.receive_only n at b us z r w) = ap type_place (plain_chan (λ i. i) (λ v. v) true false z at)
starts_at m ts ty rest (g.struct n at b us fields r w) = ap type_place (plain_struct (λ i. i) (λ v. v) fields at)
starts_at m ts ty rest (g.func n at us sig r w) = ap type_place (plain_func (λ i. i) (λ v. v) sig at)
starts_at m ts ty rest (g.interface n at b us elems r w) = ap type_place (plain_interface (λ i. i) (λ v. v) elems at)

-- ---- what stands

-- It stands, its first token does, and so does what is left.
pub data Stood (src : List ℕ) (ts : List Symbol) (T : Type 0) (rest : List Symbol) : Type 0 where
  stood : T → PlaceStands src (start_of ts) → SymbolsStand src rest → Stood src ts T rest

pub tree_of : {src : List ℕ} {ts : List Symbol} {T : Type 0} {rest : List Symbol} → Stood src ts T rest → T
tree_of (stood x p r) = x

pub place_of : {src : List ℕ} {ts : List Symbol} {T : Type 0} {rest : List Symbol} → Stood src ts T rest → PlaceStands src (start_of ts)
place_of (stood x p r) = p

pub left_of : {src : List ℕ} {ts : List Symbol} {T : Type 0} {rest : List Symbol} → Stood src ts T rest → SymbolsStand src rest
left_of (stood x p r) = r

same_idents : (src : List ℕ) (names : List Ident) → IdentsStand src names → IdentsStand src (map (λ i. i) names)
same_idents src [] h = tt
same_idents src (i ∷ names) h = (h.0, same_idents src names h.1)

is_a_name : (m : ℕ) (ts : List Symbol) (ty : TypeExpr) (rest : List Symbol) → IsNamed m ts ty rest → is_named (plain_type (λ i. i) (λ v. v) ty) ≡ true
is_a_name m ts ty rest (g.by_name n us x vs args r w a) = ap is_named (plain_named (λ i. i) (λ v. v) x args x.at)

embeds_name : (m : ℕ) (ts : List Symbol) (ty : TypeExpr) (rest : List Symbol) → IsNamed m ts ty rest → is_embedded (plain_type (λ i. i) (λ v. v) ty) ≡ true
embeds_name m ts ty rest (g.by_name n us x vs args r w a) = ap is_embedded (plain_named (λ i. i) (λ v. v) x args x.at)

embeds_pointer : (m at : ℕ) (ts : List Symbol) (ty : TypeExpr) (rest : List Symbol) → IsNamed m ts ty rest → is_embedded (plain_type (λ i. i) (λ v. v) (y.Pointer ty at)) ≡ true
embeds_pointer m at ts ty rest w = ap is_embedded (plain_pointer (λ i. i) (λ v. v) ty at) ∙ is_a_name m ts ty rest w

mutual
  pub type_in : (src : List ℕ) (m : ℕ) (ts : List Symbol) (ty : TypeExpr) (rest : List Symbol) → IsType m ts ty rest → SymbolsStand src ts → Stood src ts (TypeStands src (plain_type (λ i. i) (λ v. v) ty)) rest
  type_in src m ts ty rest (g.name n us z r w) h = named_in src n us z r w h
  type_in src m ts ty rest (g.paren n at c us z r w) h = let q = type_in src n us z (t.CloseParen c ∷ r) w h.1 in stood (subst (TypeStands src) (sym (plain_paren (λ i. i) (λ v. v) z at)) (tree_of q, h.0)) h.0 (left_of q).1
  type_in src m ts ty rest (g.pointer n at us z r w) h = let q = type_in src n us z r w h.1 in stood (subst (TypeStands src) (sym (plain_pointer (λ i. i) (λ v. v) z at)) (tree_of q, h.0)) h.0 (left_of q)
  type_in src m ts ty rest (g.slice n at c us z r w) h = let q = type_in src n us z r w h.1.1 in stood (subst (TypeStands src) (sym (plain_slice (λ i. i) (λ v. v) z at)) (tree_of q, h.0)) h.0 (left_of q)
  type_in src m ts ty rest (g.array j n at c us x vs z r w v) h =
      let o = expr_stands src 5 j us x (t.CloseBracket c ∷ vs) w h.1 in
      let q = type_in src n vs z r v o.1.1 in
      stood (subst (TypeStands src) (sym (plain_array (λ i. i) (λ v. v) x.expr z at)) (o.0, tree_of q, h.0)) h.0 (left_of q)
  type_in src m ts ty rest (g.map_of j n at b c us k vs z r w v) h =
      let o = type_in src j us k (t.CloseBracket c ∷ vs) w h.1.1 in
      let q = type_in src n vs z r v (left_of o).1 in
      stood (subst (TypeStands src) (sym (plain_map (λ i. i) (λ v. v) k z at)) (tree_of o, tree_of q, h.0)) h.0 (left_of q)
  type_in src m ts ty rest (g.both_ways n at us z r e w) h = let q = type_in src n us z r w h.1 in stood (subst (TypeStands src) (sym (plain_chan (λ i. i) (λ v. v) true true z at)) (tree_of q, h.0)) h.0 (left_of q)
  type_in src m ts ty rest (g.send_only n at b us z r w) h = let q = type_in src n us z r w h.1.1 in stood (subst (TypeStands src) (sym (plain_chan (λ i. i) (λ v. v) false true z at)) (tree_of q, h.0)) h.0 (left_of q)
  type_in src m ts ty rest (g.receive_only n at b us z r w) h = let q = type_in src n us z r w h.1.1 in stood (subst (TypeStands src) (sym (plain_chan (λ i. i) (λ v. v) true false z at)) (tree_of q, h.0)) h.0 (left_of q)
  type_in src m ts ty rest (g.struct n at b us fields r w) h = let q = fields_in src n us fields r w h.1.1 in stood (subst (TypeStands src) (sym (plain_struct (λ i. i) (λ v. v) fields at)) (q.0, h.0)) h.0 q.1
  type_in src m ts ty rest (g.func n at us sig r w) h = let q = sig_in src n us sig r w h.1 in stood (subst (TypeStands src) (sym (plain_func (λ i. i) (λ v. v) sig at)) (tree_of q, h.0)) h.0 (left_of q)
  type_in src m ts ty rest (g.interface n at b us elems r w) h = let q = elems_in src n us elems r w h.1.1 in stood (subst (TypeStands src) (sym (plain_interface (λ i. i) (λ v. v) elems at)) (q.0, h.0)) h.0 q.1

  pub named_in : (src : List ℕ) (m : ℕ) (ts : List Symbol) (ty : TypeExpr) (rest : List Symbol) → IsNamed m ts ty rest → SymbolsStand src ts → Stood src ts (TypeStands src (plain_type (λ i. i) (λ v. v) ty)) rest
  named_in src m ts ty rest (g.by_name n us x vs args r w a) h =
      let o = name_stands src us x vs w h in
      let q = args_in src n vs args r a o.1 in
      stood (subst (TypeStands src) (sym (plain_named (λ i. i) (λ v. v) x args x.at)) (o.0, q.0, o.0.2)) (subst (PlaceStands src) (name_start us x vs w) o.0.2) q.1

  args_in : (src : List ℕ) (m : ℕ) (ts : List Symbol) (args : List TypeExpr) (rest : List Symbol) → IsArgs m ts args rest → SymbolsStand src ts → TypesStand src (types_of (map (plain_type (λ i. i) (λ v. v)) args)) × SymbolsStand src rest
  args_in src m ts args rest (g.no_args r) h = (tt, h)
  args_in src m ts args rest (g.some_args n o us xs r e w) h = types_in src n us xs r w h.1

  types_in : (src : List ℕ) (m : ℕ) (ts : List Symbol) (args : List TypeExpr) (rest : List Symbol) → IsTypes m ts args rest → SymbolsStand src ts → TypesStand src (types_of (map (plain_type (λ i. i) (λ v. v)) args)) × SymbolsStand src rest
  types_in src m ts args rest (g.no_type c r) h = (tt, h.1)
  types_in src m ts args rest (g.last_type n c us z r w) h = let q = type_in src n us z (t.CloseBracket c ∷ r) w h in ((tree_of q, tt), (left_of q).1)
  types_in src m ts args rest (g.more_types j n s us vs z zs r w v) h =
      let q = type_in src j us z (t.Comma s ∷ vs) w h in
      let o = types_in src n vs zs r v (left_of q).1 in
      ((tree_of q, o.0), o.1)

  field_in : (src : List ℕ) (m : ℕ) (ts : List Symbol) (x : FieldExpr) (rest : List Symbol) → IsField m ts x rest → SymbolsStand src ts → FieldStands src (plain_field (λ i. i) (λ v. v) x) × SymbolsStand src rest
  field_in src m ts x rest (g.shared n i names us vs z ws tag r a w b) h =
      let o = names_stand src us (i ∷ names) vs a h in
      let q = type_in src n vs z ws w o.1 in
      (subst (FieldStands src) (sym (plain_having (λ i. i) (λ v. v) (field (i ∷ names) z tag i.start))) (same_idents src (i ∷ names) o.0, tt, tree_of q, ident_place src i o.0.0), tag_stands src ws tag r b (left_of q))
  field_in src m ts x rest (g.embedded n us z vs tag r w b) h =
      let q = named_in src n us z vs w h in
      (subst (FieldStands src) (sym (plain_having (λ i. i) (λ v. v) (field [] z tag (start_of us)))) (tt, embeds_name n us z vs w, tree_of q, place_of q), tag_stands src vs tag r b (left_of q))
  field_in src m ts x rest (g.embedded_pointer n at us z vs tag r w b) h =
      let q = named_in src n us z vs w h.1 in (
        subst (FieldStands src) (sym (plain_having (λ i. i) (λ v. v) (field [] (y.Pointer z at) tag at)))
            (tt, embeds_pointer n at us z vs w, subst (TypeStands src) (sym (plain_pointer (λ i. i) (λ v. v) z at)) (tree_of q, h.0), h.0),
        tag_stands src vs tag r b (left_of q),
      )

  fields_in : (src : List ℕ) (m : ℕ) (ts : List Symbol) (xs : List FieldExpr) (rest : List Symbol) → IsFields m ts xs rest → SymbolsStand src ts → FieldsStand src (fields_of (map (plain_field (λ i. i) (λ v. v)) xs)) × SymbolsStand src rest
  fields_in src m ts xs rest (g.none c r) h = (tt, h.1)
  fields_in src m ts xs rest (g.last n c us z r w) h = let q = field_in src n us z (t.CloseBrace c ∷ r) w h in ((q.0, tt), q.1.1)
  fields_in src m ts xs rest (g.more j n s us vs z zs r w v) h =
      let q = field_in src j us z (t.Semicolon s ∷ vs) w h in
      let o = fields_in src n vs zs r v q.1.1 in
      ((q.0, o.0), o.1)

  param_in : (src : List ℕ) (u v f : Bool) (m : ℕ) (ts : List Symbol) (x : ParamExpr) (rest : List Symbol) → IsParam u v f m ts x rest → SymbolsStand src ts → ParamStands src (plain_param (λ i. i) (λ v. v) x) × SymbolsStand src rest
  param_in src u v f m ts x rest (g.unnamed v' n us z r w) h =
      let q = type_in src n us z r w h in
      (subst (ParamStands src) (sym (plain_sharing (λ i. i) (λ v. v) (param [] false z (start_of us)))) (tt, tree_of q, place_of q), left_of q)
  param_in src u v f m ts x rest (g.sharing v' n i names us vs z r a w) h =
      let o = names_stand src us (i ∷ names) vs a h in
      let q = type_in src n vs z r w o.1 in
      (subst (ParamStands src) (sym (plain_sharing (λ i. i) (λ v. v) (param (i ∷ names) false z i.start))) (same_idents src (i ∷ names) o.0, tree_of q, ident_place src i o.0.0), left_of q)
  param_in src u v f m ts x rest (g.unnamed_rest n at us z r w) h =
      let q = type_in src n us z r w h.1 in
      (subst (ParamStands src) (sym (plain_sharing (λ i. i) (λ v. v) (param [] true z at))) (tt, tree_of q, h.0), left_of q)
  param_in src u v f m ts x rest (g.named_rest n i at us z r w) h =
      let q = type_in src n us z r w h.1.1 in
      (subst (ParamStands src) (sym (plain_sharing (λ i. i) (λ v. v) (param (i ∷ []) true z i.start))) ((h.0, tt), tree_of q, ident_place src i h.0), left_of q)

  params_in : (src : List ℕ) (u v : Bool) (m : ℕ) (ts : List Symbol) (xs : List ParamExpr) (rest : List Symbol) → IsParams u v m ts xs rest → SymbolsStand src ts → ParamsStand src (params_of (map (plain_param (λ i. i) (λ v. v)) xs)) × SymbolsStand src rest
  params_in src u v m ts xs rest (g.no_param u' v' c r) h = (tt, h.1)
  params_in src u v m ts xs rest (g.last_param u' v' f n c us z r w) h = let q = param_in src u' v' f n us z (t.CloseParen c ∷ r) w h in ((q.0, tt), q.1.1)
  params_in src u v m ts xs rest (g.more_params u' v' j n s us vs z zs r w k) h =
      let q = param_in src u' v' false j us z (t.Comma s ∷ vs) w h in
      let o = params_in src u' v' n vs zs r k q.1.1 in
      ((q.0, o.0), o.1)
  params_in src u v m ts xs rest (g.variadic_comma u' v' n s c us z r w) h = let q = param_in src u' v' true n us z (t.Comma s ∷ t.CloseParen c ∷ r) w h in ((q.0, tt), q.1.1.1)

  pub sig_in : (src : List ℕ) (m : ℕ) (ts : List Symbol) (x : SigExpr) (rest : List Symbol) → IsSig m ts x rest → SymbolsStand src ts → Stood src ts (SigStands src (plain_sig (λ i. i) (λ v. v) x)) rest
  sig_in src m ts x rest (g.no_result u n at us ps r w) h =
      let q = params_in src u true n us ps r w h.1 in
      stood (subst (SigStands src) (sym (plain_signature (λ i. i) (λ v. v) ps [] at)) (q.0, tt, h.0)) h.0 q.1
  sig_in src m ts x rest (g.results u v j n at o us vs ps rs r w k) h =
      let q = params_in src u true j us ps (t.OpenParen o ∷ vs) w h.1 in
      let p = params_in src v false n vs rs r k q.1.1 in
      stood (subst (SigStands src) (sym (plain_signature (λ i. i) (λ v. v) ps rs at)) (q.0, p.0, h.0)) h.0 p.1
  sig_in src m ts x rest (g.result u j n at us vs ps z r w e k) h =
      let q = params_in src u true j us ps vs w h.1 in
      let p = type_in src n vs z r k q.1 in
      stood (subst (SigStands src) (sym (plain_signature (λ i. i) (λ v. v) ps (param [] false z (start_of vs) ∷ []) at))
      (q.0, (subst (ParamStands src) (sym (plain_sharing (λ i. i) (λ v. v) (param [] false z (start_of vs)))) (tt, tree_of p, place_of p), tt), h.0)) h.0 (left_of p)

  term_in : (src : List ℕ) (m : ℕ) (ts : List Symbol) (x : TermExpr) (rest : List Symbol) → IsTerm m ts x rest → SymbolsStand src ts → Stood src ts (TermStands src (plain_term (λ i. i) (λ v. v) x)) rest
  term_in src m ts x rest (g.exactly n us z r w) h = let q = type_in src n us z r w h in stood (subst (TermStands src) (sym (plain_of_type (λ i. i) (λ v. v) (term false z (start_of us)))) (tree_of q, place_of q)) (place_of q) (left_of q)
  term_in src m ts x rest (g.approximately n at us z r w) h = let q = type_in src n us z r w h.1 in stood (subst (TermStands src) (sym (plain_of_type (λ i. i) (λ v. v) (term true z at))) (tree_of q, h.0)) h.0 (left_of q)

  terms_in : (src : List ℕ) (m : ℕ) (ts : List Symbol) (xs : List TermExpr) (rest : List Symbol) → IsTerms m ts xs rest → SymbolsStand src ts → TermsStand src (terms_of (map (plain_term (λ i. i) (λ v. v)) xs)) × SymbolsStand src rest
  terms_in src m ts xs rest (g.one_term n us z r w) h = let q = term_in src n us z r w h in ((tree_of q, tt), left_of q)
  terms_in src m ts xs rest (g.more_terms j n b us vs z zs r w v) h =
      let q = term_in src j us z (t.Bar b ∷ vs) w h in
      let o = terms_in src n vs zs r v (left_of q).1 in
      ((tree_of q, o.0), o.1)

  pub union_in : (src : List ℕ) (m : ℕ) (ts : List Symbol) (ty : TypeExpr) (rest : List Symbol) → IsUnion m ts ty rest → SymbolsStand src ts → Stood src ts (TypeStands src (plain_type (λ i. i) (λ v. v) ty)) rest
  union_in src m ts ty rest (g.alone n us z r w) h = type_in src n us z r w h
  union_in src m ts ty rest (g.approximate n at us z r w) h =
      let q = type_in src n us z r w h.1 in
      stood (subst (TypeStands src) (sym (plain_union (λ i. i) (λ v. v) (term true z at ∷ []) at))
      (tt, (subst (TermStands src) (sym (plain_of_type (λ i. i) (λ v. v) (term true z at))) (tree_of q, h.0), tt), h.0)) h.0 (left_of q)
  union_in src m ts ty rest (g.several j n b us vs z zs r w v) h =
      let q = term_in src j us z (t.Bar b ∷ vs) w h in
      let o = terms_in src n vs zs r v (left_of q).1 in
      stood (subst (TypeStands src) (sym (plain_union (λ i. i) (λ v. v) (z ∷ zs) (start_of us))) (tt, (tree_of q, o.0), place_of q)) (place_of q) o.1

  elem_in : (src : List ℕ) (m : ℕ) (ts : List Symbol) (x : ElemExpr) (rest : List Symbol) → IsElem m ts x rest → SymbolsStand src ts → ElemStands src (plain_elem (λ i. i) (λ v. v) x) × SymbolsStand src rest
  elem_in src m ts x rest (g.method n i us sig r w) h =
      let q = sig_in src n us sig r w h.1 in
      (subst (ElemStands src) (sym (plain_method (λ i. i) (λ v. v) i sig i.start)) (h.0, tree_of q, ident_place src i h.0), left_of q)
  elem_in src m ts x rest (g.embeds n us z r w) h =
      let q = union_in src n us z r w h in
      (subst (ElemStands src) (sym (plain_embedded (λ i. i) (λ v. v) z (start_of us))) (tree_of q, place_of q), left_of q)

  elems_in : (src : List ℕ) (m : ℕ) (ts : List Symbol) (xs : List ElemExpr) (rest : List Symbol) → IsElems m ts xs rest → SymbolsStand src ts → ElemsStand src (elems_of (map (plain_elem (λ i. i) (λ v. v)) xs)) × SymbolsStand src rest
  elems_in src m ts xs rest (g.no_elem c r) h = (tt, h.1)
  elems_in src m ts xs rest (g.last_elem n c us z r w) h = let q = elem_in src n us z (t.CloseBrace c ∷ r) w h in ((q.0, tt), q.1.1)
  elems_in src m ts xs rest (g.more_elems j n s us vs z zs r w v) h =
      let q = elem_in src j us z (t.Semicolon s ∷ vs) w h in
      let o = elems_in src n vs zs r v q.1.1 in
      ((q.0, o.0), o.1)

pub type_stands : (src : List ℕ) (m : ℕ) (ts : List Symbol) (ty : TypeExpr) (rest : List Symbol) → IsType m ts ty rest → SymbolsStand src ts → TypeStands src (plain_type (λ i. i) (λ v. v) ty) × SymbolsStand src rest
type_stands src m ts ty rest w h = let q = type_in src m ts ty rest w h in (tree_of q, left_of q)
