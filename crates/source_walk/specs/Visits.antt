-- What a walk over the files of a package sees, in reading order: each file, each declaration, and each type and
-- expression in it, before what stands inside.
use Rattle.std.specs.Prelude.{ℕ, suc, List, [], ◌∷◌, ◌++◌, Option, Some, None}
use Rattle.go_expr_syntax.specs.PlainExprs.{literal, named, convert, paren, unary, binary}
use Rattle.go_type_syntax.specs.PlainTypes as t
use Rattle.go_type_syntax.specs.PlainTypes.{PlainTypes, PlainParams, PlainParam, PlainFields, PlainField, PlainElems}
use Rattle.go_type_syntax.specs.PlainTypes.{PlainElem, PlainTerms, PlainTerm}
use Rattle.go_type_syntax.specs.PlainTypes.{no_type, and_type, signature, no_param, and_param}
use Rattle.go_type_syntax.specs.PlainTypes.{sharing, no_field, and_field}
use Rattle.go_type_syntax.specs.PlainTypes.{having, no_elem, and_elem, method, embedded, no_term, and_term, of_type}
use Rattle.source_trees.specs.declared.literals.Literal.{Literal}
use Rattle.source_trees.specs.Words.{Word}
use Rattle.source_trees.specs.Trees.{WrittenExpr, WrittenType, WrittenSig}
use Rattle.source_trees.specs.Files.{WrittenTParam, WrittenTypeSpec, WrittenFunc, WrittenTop, WrittenFile, constants}
use Rattle.source_trees.specs.Files.{variables, defined, alias, func}
use Rattle.source_walk.specs.declared.spots.Spot.{Spot}
use Rattle.source_walk.specs.Spots.{scope, start, value_of, constraint_of, right_side_of, signature_of, inside}
use Rattle.source_walk.specs.Spots.{element_of, term_of}

-- A type or an expression comes with the names of the type parameters that are in scope.
pub data Visit : Type 0 where
  a_file : ℕ → WrittenFile → Visit
  a_top : Spot → WrittenTop → Visit
  a_type : Spot → List Word → WrittenType → Visit
  an_expr : Spot → List Word → WrittenExpr → Visit

abbrev pub expr_visits : Spot → List Word → WrittenExpr → List Visit
expr_visits s w (literal x at) = an_expr s w (literal x at) ∷ []
expr_visits s w (named x at) = an_expr s w (named x at) ∷ []
expr_visits s w (convert x e at) = an_expr s w (convert x e at) ∷ expr_visits s w e
expr_visits s w (paren e at) = an_expr s w (paren e at) ∷ expr_visits s w e
expr_visits s w (unary op e at) = an_expr s w (unary op e at) ∷ expr_visits s w e
expr_visits s w (binary op p e f at) = an_expr s w (binary op p e f at) ∷ (expr_visits s w e ++ expr_visits s w f)

abbrev mutual
  pub type_visits : Spot → List Word → WrittenType → List Visit
  type_visits s w (t.named x args at) = a_type s w (t.named x args at) ∷ types_visits (inside s) w args
  type_visits s w (t.paren ty at) = a_type s w (t.paren ty at) ∷ type_visits s w ty
  type_visits s w (t.pointer ty at) = a_type s w (t.pointer ty at) ∷ type_visits (inside s) w ty
  type_visits s w (t.slice ty at) = a_type s w (t.slice ty at) ∷ type_visits (inside s) w ty
  type_visits s w (t.array e ty at) =
      a_type s w (t.array e ty at) ∷ (expr_visits (inside s) w e ++ type_visits (inside s) w ty)
  type_visits s w (t.map_of k ty at) =
      a_type s w (t.map_of k ty at) ∷ (type_visits (inside s) w k ++ type_visits (inside s) w ty)
  type_visits s w (t.chan r d ty at) = a_type s w (t.chan r d ty at) ∷ type_visits (inside s) w ty
  type_visits s w (t.func sig at) = a_type s w (t.func sig at) ∷ sig_visits (inside s) w sig
  type_visits s w (t.struct fields at) = a_type s w (t.struct fields at) ∷ fields_visits (inside s) w fields
  type_visits s w (t.interface elems at) = a_type s w (t.interface elems at) ∷ elems_visits s w elems
  type_visits s w (t.union terms at) = a_type s w (t.union terms at) ∷ terms_visits (term_of s) w terms

  pub types_visits : Spot → List Word → PlainTypes Word Literal → List Visit
  types_visits s w no_type = []
  types_visits s w (and_type ty ts) = type_visits s w ty ++ types_visits s w ts

  pub sig_visits : Spot → List Word → WrittenSig → List Visit
  sig_visits s w (signature ps rs at) = params_visits s w ps ++ params_visits s w rs

  pub params_visits : Spot → List Word → PlainParams Word Literal → List Visit
  params_visits s w no_param = []
  params_visits s w (and_param p ps) = param_visits s w p ++ params_visits s w ps

  pub param_visits : Spot → List Word → PlainParam Word Literal → List Visit
  param_visits s w (sharing names variadic ty at) = type_visits s w ty

  pub fields_visits : Spot → List Word → PlainFields Word Literal → List Visit
  fields_visits s w no_field = []
  fields_visits s w (and_field f fs) = field_visits s w f ++ fields_visits s w fs

  pub field_visits : Spot → List Word → PlainField Word Literal → List Visit
  field_visits s w (having names ty tag at) = type_visits s w ty

  -- the methods and the embedded types of an interface that stands there
  pub elems_visits : Spot → List Word → PlainElems Word Literal → List Visit
  elems_visits s w no_elem = []
  elems_visits s w (and_elem e es) = elem_visits s w e ++ elems_visits s w es

  pub elem_visits : Spot → List Word → PlainElem Word Literal → List Visit
  elem_visits s w (method name sig at) = sig_visits (inside s) w sig
  elem_visits s w (embedded ty at) = type_visits (element_of s) w ty

  pub terms_visits : Spot → List Word → PlainTerms Word Literal → List Visit
  terms_visits s w no_term = []
  terms_visits s w (and_term x xs) = term_visits s w x ++ terms_visits s w xs

  pub term_visits : Spot → List Word → PlainTerm Word Literal → List Visit
  term_visits s w (of_type tilde ty at) = type_visits s w ty

-- items in a row, with the number of each
abbrev pub numbered : {X : Type 0} → (ℕ → X → List Visit) → ℕ → List X → List Visit
numbered f i [] = []
numbered f i (x ∷ xs) = f i x ++ numbered f (suc i) xs

abbrev pub type_if_any_visits : Spot → List Word → Option WrittenType → List Visit
type_if_any_visits s w (Some ty) = type_visits s w ty
type_if_any_visits s w None = []

abbrev pub value_visits : Spot → List Word → ℕ → WrittenExpr → List Visit
value_visits s w item e = expr_visits (value_of item s) w e

abbrev pub tparams_visits : Spot → List Word → List WrittenTParam → List Visit
tparams_visits s w [] = []
tparams_visits s w (p ∷ ps) = type_visits (constraint_of s) w p.constraint ++ tparams_visits s w ps

abbrev pub type_spec_visits : Spot → List Word → WrittenTypeSpec → List Visit
type_spec_visits s w d = tparams_visits s w d.tparams ++ type_visits (right_side_of s) w d.ty

abbrev pub func_visits : Spot → List Word → WrittenFunc → List Visit
func_visits s w f = tparams_visits s w f.tparams ++ sig_visits (signature_of s) w f.sig

-- what stands in a declaration
abbrev pub inside_top : Spot → List Word → WrittenTop → List Visit
inside_top s w (constants c) = type_if_any_visits s w c.ty ++ numbered (value_visits s w) 0 c.values
inside_top s w (variables v) = type_if_any_visits s w v.ty
inside_top s w (defined d) = type_spec_visits s w d
inside_top s w (alias d) = type_spec_visits s w d
inside_top s w (func f) = func_visits s w f

-- a declaration of a file, with its number
abbrev pub top_visits : ℕ → ℕ → WrittenTop → List Visit
top_visits file k d = a_top (start file k d) d ∷ inside_top (start file k d) (scope d) d

-- a file with its number
abbrev pub file_visits : ℕ → WrittenFile → List Visit
file_visits n f = a_file n f ∷ numbered (top_visits n) 0 f.tops

abbrev pub files_visits : List WrittenFile → List Visit
files_visits files = numbered file_visits 0 files
