-- Types as plain trees, for definitions by recursion. They are generic in what stands for an identifier and for a
-- literal: their spans, or what these spell in a source. Each kind of list is a type of its own.
use Rattle.std.specs.Prelude.{ℕ, Bool, List, [], ◌∷◌, map}
use Rattle.go_lexer.specs.declared.token_kinds.Token.{Token}
use Rattle.go_expr_syntax.specs.declared.symbols.Ident.{Ident}
use Rattle.go_expr_syntax.specs.PlainExprs.{PlainName, PlainExpr, plain_name, plain_expr}
use Rattle.go_type_syntax.specs.declared.tree.FieldExpr.{FieldExpr}
use Rattle.go_type_syntax.specs.declared.tree.ParamExpr.{ParamExpr}
use Rattle.go_type_syntax.specs.declared.tree.SigExpr.{SigExpr}
use Rattle.go_type_syntax.specs.declared.tree.TermExpr.{TermExpr}
use Rattle.go_type_syntax.specs.declared.tree.ElemExpr.{ElemExpr}
use Rattle.go_type_syntax.specs.declared.tree.TypeExpr.{TypeExpr}
use Rattle.go_type_syntax.specs.declared.tree.ElemExpr.TheOpen.{ElemExpr-F, TypeExpr-F, FieldExpr-F, ParamExpr-F}
use Rattle.go_type_syntax.specs.declared.tree.ElemExpr.TheOpen.{SigExpr-F, TermExpr-F}
use Rattle.go_type_syntax.specs.declared.tree.ElemExpr.TheFolds.{fold-ElemExpr, fold-TypeExpr, fold-FieldExpr}
use Rattle.go_type_syntax.specs.declared.tree.ElemExpr.TheFolds.{fold-ParamExpr, fold-SigExpr, fold-TermExpr}

mutual
  pub data PlainType (W L : Type 0) : Type 0 where
    named : PlainName W → PlainTypes W L → ℕ → PlainType W L
    paren : PlainType W L → ℕ → PlainType W L
    pointer : PlainType W L → ℕ → PlainType W L
    slice : PlainType W L → ℕ → PlainType W L
    array : PlainExpr W L → PlainType W L → ℕ → PlainType W L
    map_of : PlainType W L → PlainType W L → ℕ → PlainType W L
    chan : Bool → Bool → PlainType W L → ℕ → PlainType W L
    func : PlainSig W L → ℕ → PlainType W L
    struct : PlainFields W L → ℕ → PlainType W L
    interface : PlainElems W L → ℕ → PlainType W L
    union : PlainTerms W L → ℕ → PlainType W L

  pub data PlainTypes (W L : Type 0) : Type 0 where
    no_type : PlainTypes W L
    and_type : PlainType W L → PlainTypes W L → PlainTypes W L

  -- parameters and results
  pub data PlainSig (W L : Type 0) : Type 0 where
    signature : PlainParams W L → PlainParams W L → ℕ → PlainSig W L

  pub data PlainParams (W L : Type 0) : Type 0 where
    no_param : PlainParams W L
    and_param : PlainParam W L → PlainParams W L → PlainParams W L

  -- its names, whether it is variadic, its type and its place
  pub data PlainParam (W L : Type 0) : Type 0 where
    sharing : List W → Bool → PlainType W L → ℕ → PlainParam W L

  pub data PlainFields (W L : Type 0) : Type 0 where
    no_field : PlainFields W L
    and_field : PlainField W L → PlainFields W L → PlainFields W L

  -- its names, its type, its tag and its place
  pub data PlainField (W L : Type 0) : Type 0 where
    having : List W → PlainType W L → List ℕ → ℕ → PlainField W L

  pub data PlainElems (W L : Type 0) : Type 0 where
    no_elem : PlainElems W L
    and_elem : PlainElem W L → PlainElems W L → PlainElems W L

  pub data PlainElem (W L : Type 0) : Type 0 where
    method : W → PlainSig W L → ℕ → PlainElem W L
    embedded : PlainType W L → ℕ → PlainElem W L

  pub data PlainTerms (W L : Type 0) : Type 0 where
    no_term : PlainTerms W L
    and_term : PlainTerm W L → PlainTerms W L → PlainTerms W L

  -- whether it has a tilde, its type and its place
  pub data PlainTerm (W L : Type 0) : Type 0 where
    of_type : Bool → PlainType W L → ℕ → PlainTerm W L

-- where a type begins
abbrev pub type_place : {W L : Type 0} → PlainType W L → ℕ
type_place (named x args at) = at
type_place (paren t at) = at
type_place (pointer t at) = at
type_place (slice t at) = at
type_place (array e t at) = at
type_place (map_of k t at) = at
type_place (chan r s t at) = at
type_place (func sig at) = at
type_place (struct fields at) = at
type_place (interface elems at) = at
type_place (union terms at) = at

-- ---- lists

abbrev pub types_of : {W L : Type 0} → List (PlainType W L) → PlainTypes W L
types_of [] = no_type
types_of (x ∷ xs) = and_type x (types_of xs)

abbrev pub params_of : {W L : Type 0} → List (PlainParam W L) → PlainParams W L
params_of [] = no_param
params_of (x ∷ xs) = and_param x (params_of xs)

abbrev pub fields_of : {W L : Type 0} → List (PlainField W L) → PlainFields W L
fields_of [] = no_field
fields_of (x ∷ xs) = and_field x (fields_of xs)

abbrev pub elems_of : {W L : Type 0} → List (PlainElem W L) → PlainElems W L
elems_of [] = no_elem
elems_of (x ∷ xs) = and_elem x (elems_of xs)

abbrev pub terms_of : {W L : Type 0} → List (PlainTerm W L) → PlainTerms W L
terms_of [] = no_term
terms_of (x ∷ xs) = and_term x (terms_of xs)

-- ---- one level, where what stands inside is plain

abbrev pub type_step : {W L : Type 0} → (Ident → W) → (Token → L)
    → TypeExpr-F (PlainElem W L) (PlainType W L) (PlainField W L) (PlainParam W L) (PlainSig W L) (PlainTerm W L)
    → PlainType W L
type_step word value (TypeExpr-F.Name x args at) = named (plain_name word x) (types_of args) at
type_step word value (TypeExpr-F.Paren t at) = paren t at
type_step word value (TypeExpr-F.Pointer t at) = pointer t at
type_step word value (TypeExpr-F.Slice t at) = slice t at
type_step word value (TypeExpr-F.Array e t at) = array (plain_expr word value e) t at
type_step word value (TypeExpr-F.MapOf k t at) = map_of k t at
type_step word value (TypeExpr-F.Chan r s t at) = chan r s t at
type_step word value (TypeExpr-F.Func sig at) = func sig at
type_step word value (TypeExpr-F.Struct fields at) = struct (fields_of fields) at
type_step word value (TypeExpr-F.Interface elems at) = interface (elems_of elems) at
type_step word value (TypeExpr-F.Union terms at) = union (terms_of terms) at

abbrev pub elem_step : {W L : Type 0} → (Ident → W)
    → ElemExpr-F (PlainElem W L) (PlainType W L) (PlainField W L) (PlainParam W L) (PlainSig W L) (PlainTerm W L)
    → PlainElem W L
elem_step word (ElemExpr-F.Method i sig at) = method (word i) sig at
elem_step word (ElemExpr-F.Embedded t at) = embedded t at

abbrev pub field_step : {W L : Type 0} → (Ident → W)
    → FieldExpr-F (PlainElem W L) (PlainType W L) (PlainField W L) (PlainParam W L) (PlainSig W L) (PlainTerm W L)
    → PlainField W L
field_step word f = having (map word f.names) f.ty f.tag f.at

abbrev pub param_step : {W L : Type 0} → (Ident → W)
    → ParamExpr-F (PlainElem W L) (PlainType W L) (PlainField W L) (PlainParam W L) (PlainSig W L) (PlainTerm W L)
    → PlainParam W L
param_step word p = sharing (map word p.names) p.variadic p.ty p.at

abbrev pub sig_step : {W L : Type 0}
    → SigExpr-F (PlainElem W L) (PlainType W L) (PlainField W L) (PlainParam W L) (PlainSig W L) (PlainTerm W L)
    → PlainSig W L
sig_step s = signature (params_of s.params) (params_of s.results) s.at

abbrev pub term_step : {W L : Type 0}
    → TermExpr-F (PlainElem W L) (PlainType W L) (PlainField W L) (PlainParam W L) (PlainSig W L) (PlainTerm W L)
    → PlainTerm W L
term_step x = of_type x.tilde x.ty x.at

-- ---- types as plain trees

abbrev pub plain_type : {W L : Type 0} → (Ident → W) → (Token → L) → TypeExpr → PlainType W L
plain_type {W} {L} word value x =
    fold-TypeExpr (PlainElem W L) (PlainType W L) (PlainField W L) (PlainParam W L) (PlainSig W L) (PlainTerm W L)
    (elem_step word) (type_step word value) (field_step word) (param_step word) sig_step term_step x

abbrev pub plain_sig : {W L : Type 0} → (Ident → W) → (Token → L) → SigExpr → PlainSig W L
plain_sig {W} {L} word value x =
    fold-SigExpr (PlainElem W L) (PlainType W L) (PlainField W L) (PlainParam W L) (PlainSig W L) (PlainTerm W L)
    (elem_step word) (type_step word value) (field_step word) (param_step word) sig_step term_step x

abbrev pub plain_field : {W L : Type 0} → (Ident → W) → (Token → L) → FieldExpr → PlainField W L
plain_field {W} {L} word value x =
    fold-FieldExpr (PlainElem W L) (PlainType W L) (PlainField W L) (PlainParam W L) (PlainSig W L) (PlainTerm W L)
    (elem_step word) (type_step word value) (field_step word) (param_step word) sig_step term_step x

abbrev pub plain_param : {W L : Type 0} → (Ident → W) → (Token → L) → ParamExpr → PlainParam W L
plain_param {W} {L} word value x =
    fold-ParamExpr (PlainElem W L) (PlainType W L) (PlainField W L) (PlainParam W L) (PlainSig W L) (PlainTerm W L)
    (elem_step word) (type_step word value) (field_step word) (param_step word) sig_step term_step x

abbrev pub plain_elem : {W L : Type 0} → (Ident → W) → (Token → L) → ElemExpr → PlainElem W L
plain_elem {W} {L} word value x =
    fold-ElemExpr (PlainElem W L) (PlainType W L) (PlainField W L) (PlainParam W L) (PlainSig W L) (PlainTerm W L)
    (elem_step word) (type_step word value) (field_step word) (param_step word) sig_step term_step x

abbrev pub plain_term : {W L : Type 0} → (Ident → W) → (Token → L) → TermExpr → PlainTerm W L
plain_term {W} {L} word value x =
    fold-TermExpr (PlainElem W L) (PlainType W L) (PlainField W L) (PlainParam W L) (PlainSig W L) (PlainTerm W L)
    (elem_step word) (type_step word value) (field_step word) (param_step word) sig_step term_step x

-- with the spans of its identifiers and its literals' tokens
abbrev pub spans_of_type : TypeExpr → PlainType Ident Token
spans_of_type x = plain_type (λ i. i) (λ token. token) x

abbrev pub spans_of_sig : SigExpr → PlainSig Ident Token
spans_of_sig x = plain_sig (λ i. i) (λ token. token) x

-- where a type begins
abbrev pub type_start : TypeExpr → ℕ
type_start x = type_place (spans_of_type x)
