-- Lists of parts, shaped one by one or all at once.
use Rattle.std.proofs.Common.{◌≡◌, ℕ, ◌<◌, ◌-◌, take, get_or, List, [], ◌∷◌, ◌++◌, length, map, refl, ap, sym, ◌∙◌, arith, codes}
use Rattle.std.specs.List.{flat_map}
use Rattle.std.proofs.lemmas.List.{map-append, append-nil}
use Rattle.go_values.specs.declared.positions.Pos.{Pos}
use Rattle.type_terms.specs.declared.literals.ParamNode.{ParamNode}
use Rattle.type_terms.specs.declared.literals.Field.{Field}
use Rattle.type_terms.specs.declared.literals.IMethod.{IMethod}
use Rattle.type_terms.specs.declared.literals.Term.{Term}
use Rattle.type_terms.specs.declared.declarations.Method.{Method}
use Rattle.type_terms.specs.Declarations.{ReceiverOf, receiver_types, receiver_shape}
use Rattle.decl_text.specs.DeclText.{method_line as method_line_of}
use Rattle.type_terms.specs.Shapes.{ParamOf, param_types, field_types, method_types, term_types}
use Rattle.type_terms.specs.Trees.{Text}
use Rattle.type_terms.specs.NodeShapes.{param_shape, field_shape, method_shape, term_shape}
use Rattle.decl_text.specs.Joined.{joined, between}
use Rattle.decl_text.specs.TypeText.{param_text, dotted, spread, field_text, method_text, term_text}
use Rattle.decl_text.specs.PieceText.{described_receiver, receiver_line, described_param, described_params, described_field, described_method, described_term, param_line, field_line, method_line, term_line}
use Rattle.decl_text.proofs.JoinedLemmas.{joined_append, length_map, split_last}

fused : {A B C D : Type 0} (f : C → D) (g : B → C) (h : A → B) (xs : List A) → map (λ (x : A). f (g (h x))) xs ≡ map f (map g (map h xs))
fused f g h [] = refl
fused f g h (x ∷ xs) = ap (λ rest. f (g (h x)) ∷ rest) (fused f g h xs)

types_fused : {A B R : Type 0} (parts : B → List R) (shape : A → B) (xs : List A) → flat_map (λ (x : A). parts (shape x)) xs ≡ flat_map parts (map shape xs)
types_fused parts shape [] = refl
types_fused parts shape (x ∷ xs) = ap (λ rest. parts (shape x) ++ rest) (types_fused parts shape xs)

pub params_types : (xs : List ParamNode) → flat_map (λ x. param_types (param_shape x)) xs ≡ flat_map param_types (map param_shape xs)
params_types = types_fused param_types param_shape

pub fields_types : (xs : List Field) → flat_map (λ x. field_types (field_shape x)) xs ≡ flat_map field_types (map field_shape xs)
fields_types = types_fused field_types field_shape

pub methods_types : (xs : List IMethod) → flat_map (λ x. method_types (method_shape x)) xs ≡ flat_map method_types (map method_shape xs)
methods_types = types_fused method_types method_shape

pub terms_types : (xs : List Term) → flat_map (λ x. term_types (term_shape x)) xs ≡ flat_map term_types (map term_shape xs)
terms_types = types_fused term_types term_shape

module _ (refer : ℕ → Text) where
  pub params_lines : (xs : List ParamNode) → map (param_line refer) xs ≡ map param_text (described_params refer xs)
  params_lines = fused param_text (described_param refer) param_shape

  pub fields_lines : (xs : List Field) → map (field_line refer) xs ≡ map field_text (map (described_field refer) (map field_shape xs))
  fields_lines = fused field_text (described_field refer) field_shape

  pub methods_lines : (xs : List IMethod) → map (method_line refer) xs ≡ map method_text (map (described_method refer) (map method_shape xs))
  methods_lines = fused method_text (described_method refer) method_shape

  pub terms_lines : (xs : List Term) → map (term_line refer) xs ≡ map term_text (map (described_term refer) (map term_shape xs))
  terms_lines = fused term_text (described_term refer) term_shape

  described_append : (xs ys : List ParamNode) → described_params refer (xs ++ ys) ≡ described_params refer xs ++ described_params refer ys
  described_append xs ys =
      ap (map (described_param refer)) (map-append param_shape xs ys) ∙ map-append (described_param refer) (map param_shape xs) (map param_shape ys)

  spread_lines : (front : List ParamNode) (last : ParamNode)
      → joined (codes ", ") (map param_text (spread (described_params refer (front ++ last ∷ []))))
      ≡ joined (codes ", ") (map (param_line refer) front) ++ (between (codes ", ") (length front) 1 ++ param_text (dotted (described_param refer (param_shape last))))
  spread_lines front last =
      let shown = described_params refer front in
      let lines = map param_text shown in
      let text = param_text (dotted (described_param refer (param_shape last))) in
      let size : length lines ≡ length front = length_map param_text shown ∙ length_map (described_param refer) (map param_shape front) ∙ length_map param_shape front in
      ap (λ xs. joined (codes ", ") (map param_text (spread xs))) (described_append front (last ∷ []))
      ∙ ap (λ xs. joined (codes ", ") (map param_text xs)) (spread_last shown (described_param refer (param_shape last)))
      ∙ ap (joined (codes ", ")) (map-append param_text shown (dotted (described_param refer (param_shape last)) ∷ []))
      ∙ joined_append (codes ", ") lines (text ∷ [])
      ∙ ap (λ n. joined (codes ", ") lines ++ (between (codes ", ") n 1 ++ (text ++ []))) size
      ∙ ap (λ (rest : Text). joined (codes ", ") lines ++ (between (codes ", ") (length front) 1 ++ rest)) (append-nil text)
      ∙ ap (λ xs. joined (codes ", ") xs ++ (between (codes ", ") (length front) 1 ++ text)) (sym (params_lines front))
    where
      spread_last : (xs : List (ParamOf Pos Text Text)) (x : ParamOf Pos Text Text) → spread (xs ++ x ∷ []) ≡ xs ++ dotted x ∷ []
      spread_last [] x = refl
      spread_last (y ∷ []) x = refl
      spread_last (y ∷ z ∷ rest) x = ap (λ more. y ∷ more) (spread_last (z ∷ rest) x)

  -- the same of a list that isn't empty
  pub spread_lines_of : (xs : List ParamNode) (last : ParamNode) → 0 < length xs → last ≡ get_or xs (length xs - 1) last
      → joined (codes ", ") (map param_text (spread (described_params refer xs)))
      ≡ joined (codes ", ") (map (param_line refer) (take (length xs - 1) xs)) ++ (between (codes ", ") (length (take (length xs - 1) xs)) 1 ++ param_text (dotted (described_param refer (param_shape last))))
  spread_lines_of xs last some is =
      let front = take (length xs - 1) xs in
      let whole : xs ≡ front ++ last ∷ [] = split_last xs last some ∙ ap (λ x. front ++ x ∷ []) (sym is) in
      ap (λ ys. joined (codes ", ") (map param_text (spread (described_params refer ys)))) whole ∙ spread_lines front last

  pub no_spread_lines : (xs : List ParamNode) → length xs < 1 → joined (codes ", ") (map param_text (spread (described_params refer xs))) ≡ []
  no_spread_lines [] h = refl
  no_spread_lines (x ∷ xs) h = absurd (omega arith)

pub receivers_types : (xs : List Method) → flat_map (λ x. receiver_types (receiver_shape x)) xs ≡ flat_map receiver_types (map receiver_shape xs)
receivers_types = types_fused receiver_types receiver_shape

joined_nothing : {X : Type 0} (f : X → Text) (xs : List X) → joined [] (map f xs) ≡ flat_map f xs
joined_nothing f [] = refl
joined_nothing {X = X} f (x ∷ xs) = ap (λ (rest : Text). f x ++ rest) (rest_of xs)
  where
    rest_of : (ys : List X) → flat_map (λ (other : Text). [] ++ other) (map f ys) ≡ flat_map f ys
    rest_of [] = refl
    rest_of (y ∷ ys) = ap (λ (rest : Text). f y ++ rest) (rest_of ys)

pub receivers_lines : (refer : ℕ → Text) (xs : List Method) → joined [] (map (receiver_line refer) xs) ≡ flat_map method_line_of (map (described_receiver refer) (map receiver_shape xs))
receivers_lines refer xs =
    joined_nothing (receiver_line refer) xs
    ∙ types_fused (λ (x : ReceiverOf Pos Text ℕ). method_line_of (described_receiver refer x)) receiver_shape xs
    ∙ types_fused method_line_of (described_receiver refer) (map receiver_shape xs)
