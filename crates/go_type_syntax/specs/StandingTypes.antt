-- Types whose spans lie in a source and spell what they are.
use Rattle.std.specs.Prelude.{◌≡◌, ℕ, Bool, true, false, List, [], ◌∷◌}
use Rattle.go_lexer.specs.declared.token_kinds.Token.{Token}
use Rattle.go_expr_syntax.specs.declared.symbols.Ident.{Ident}
use Rattle.go_expr_syntax.specs.StandingExprs.{IdentStands, IdentsStand, PlaceStands, NameStands, ExprStands}
use Rattle.go_type_syntax.specs.PlainTypes.{PlainType, named, paren, pointer, slice, array, map_of, chan, func, struct}
use Rattle.go_type_syntax.specs.PlainTypes.{interface, union, PlainTypes, no_type, and_type, PlainSig, signature}
use Rattle.go_type_syntax.specs.PlainTypes.{PlainParams, no_param, and_param, PlainParam, sharing, PlainFields}
use Rattle.go_type_syntax.specs.PlainTypes.{no_field, and_field, PlainField, having, PlainElems, no_elem, and_elem}
use Rattle.go_type_syntax.specs.PlainTypes.{PlainElem, method, embedded, PlainTerms, no_term, and_term, PlainTerm}
use Rattle.go_type_syntax.specs.PlainTypes.{of_type}

-- a type that may be embedded: the name of one with its arguments, or a pointer to that
abbrev pub is_named : {W L : Type 0} → PlainType W L → Bool
is_named (named x args at) = true
is_named _ = false

abbrev pub is_embedded : {W L : Type 0} → PlainType W L → Bool
is_embedded (pointer t at) = is_named t
is_embedded t = is_named t

-- a field without names is an embedded type
abbrev pub NamesOrEmbedded : List Ident → PlainType Ident Token → Type 0
NamesOrEmbedded [] t = is_embedded t ≡ true
NamesOrEmbedded (i ∷ names) t = Unit {0}

-- There are some terms.
abbrev pub SomeTerms : PlainTerms Ident Token → Type 0
SomeTerms no_term = ⊥
SomeTerms (and_term x xs) = Unit {0}

abbrev mutual
  pub TypeStands : List ℕ → PlainType Ident Token → Type 0
  TypeStands src (named x args at) = NameStands src x × TypesStand src args × PlaceStands src at
  TypeStands src (paren t at) = TypeStands src t × PlaceStands src at
  TypeStands src (pointer t at) = TypeStands src t × PlaceStands src at
  TypeStands src (slice t at) = TypeStands src t × PlaceStands src at
  TypeStands src (array e t at) = ExprStands src e × TypeStands src t × PlaceStands src at
  TypeStands src (map_of k t at) = TypeStands src k × TypeStands src t × PlaceStands src at
  TypeStands src (chan r s t at) = TypeStands src t × PlaceStands src at
  TypeStands src (func sig at) = SigStands src sig × PlaceStands src at
  TypeStands src (struct fields at) = FieldsStand src fields × PlaceStands src at
  TypeStands src (interface elems at) = ElemsStand src elems × PlaceStands src at
  TypeStands src (union terms at) = SomeTerms terms × TermsStand src terms × PlaceStands src at

  pub TypesStand : List ℕ → PlainTypes Ident Token → Type 0
  TypesStand src no_type = Unit {0}
  TypesStand src (and_type t ts) = TypeStands src t × TypesStand src ts

  pub SigStands : List ℕ → PlainSig Ident Token → Type 0
  SigStands src (signature ps rs at) = ParamsStand src ps × ParamsStand src rs × PlaceStands src at

  pub ParamsStand : List ℕ → PlainParams Ident Token → Type 0
  ParamsStand src no_param = Unit {0}
  ParamsStand src (and_param p ps) = ParamStands src p × ParamsStand src ps

  pub ParamStands : List ℕ → PlainParam Ident Token → Type 0
  ParamStands src (sharing names variadic t at) = IdentsStand src names × TypeStands src t × PlaceStands src at

  pub FieldsStand : List ℕ → PlainFields Ident Token → Type 0
  FieldsStand src no_field = Unit {0}
  FieldsStand src (and_field f fs) = FieldStands src f × FieldsStand src fs

  pub FieldStands : List ℕ → PlainField Ident Token → Type 0
  FieldStands src (having names t tag at) =
      IdentsStand src names × NamesOrEmbedded names t × TypeStands src t × PlaceStands src at

  pub ElemsStand : List ℕ → PlainElems Ident Token → Type 0
  ElemsStand src no_elem = Unit {0}
  ElemsStand src (and_elem e es) = ElemStands src e × ElemsStand src es

  pub ElemStands : List ℕ → PlainElem Ident Token → Type 0
  ElemStands src (method i sig at) = IdentStands src i × SigStands src sig × PlaceStands src at
  ElemStands src (embedded t at) = TypeStands src t × PlaceStands src at

  pub TermsStand : List ℕ → PlainTerms Ident Token → Type 0
  TermsStand src no_term = Unit {0}
  TermsStand src (and_term x xs) = TermStands src x × TermsStand src xs

  pub TermStands : List ℕ → PlainTerm Ident Token → Type 0
  TermStands src (of_type tilde t at) = TypeStands src t × PlaceStands src at
