-- Type parameters: the grammar, and how they are read.
use Rattle.std.specs.Prelude.{◌≡◌, ℕ, max, Bool, true, false, List, [], ◌∷◌, ◌++◌, if◌then◌else◌, Ok}
use Rattle.go_expr_syntax.specs.declared.symbols.Symbol.{Symbol}
use Rattle.go_expr_syntax.specs.declared.symbols.Symbol.TheVariants as t
use Rattle.go_expr_syntax.specs.declared.symbols.Ident.{Ident}
use Rattle.go_syntax.specs.declared.tree.TParam.{TParam}
use Rattle.go_type_syntax.specs.declared.tree.TypeExpr.{TypeExpr}
use Rattle.go_expr_syntax.specs.Reading.{shows_length, Reply, Fit, from_start, ◌>>=◌, past, choose, starts, is_comma}
use Rattle.go_expr_syntax.specs.Reading.{is_open_bracket, is_close_bracket, ListForm, series_item, series}
use Rattle.go_expr_syntax.specs.Names.{IsNames, ident_at, names_at, names_more}
use Rattle.go_type_syntax.specs.Grammar.{IsUnion}
use Rattle.go_type_syntax.specs.Elements.{union_at}
use Rattle.go_type_syntax.specs.Types.{type_at, lower_at}

abbrev pub tparam : List Ident → TypeExpr → ℕ → TParam
tparam names constraint at = record { names = names; constraint = constraint; at = at }

-- ---- the grammar

-- TypeParam = IdentifierList Union
pub data IsTParam : ℕ → List Symbol → TParam → List Symbol → Type 0 where
  constrained : (n : ℕ) (ts : List Symbol) (i : Ident) (names : List Ident) (us : List Symbol) (ty : TypeExpr)
      (rest : List Symbol) → IsNames ts (i ∷ names) us → IsUnion n us ty rest
      → IsTParam n ts (tparam (i ∷ names) ty i.start) rest

-- up to the bracket that closes, with a comma between each two, and perhaps after the last
pub data IsTParams : ℕ → List Symbol → List TParam → List Symbol → Type 0 where
  no_tparam : (c : ℕ) (rest : List Symbol) → IsTParams 0 (t.CloseBracket c ∷ rest) [] rest
  last_tparam : (n c : ℕ) (ts : List Symbol) (x : TParam) (rest : List Symbol)
      → IsTParam n ts x (t.CloseBracket c ∷ rest) → IsTParams n ts (x ∷ []) rest
  more_tparams : (m n s : ℕ) (ts us : List Symbol) (x : TParam) (xs : List TParam) (rest : List Symbol)
      → IsTParam m ts x (t.Comma s ∷ us) → IsTParams n us xs rest → IsTParams (max m n) ts (x ∷ xs) rest

-- [ "[" TypeParam { "," TypeParam } [ "," ] "]" ]
pub data IsGeneric : ℕ → List Symbol → List TParam → List Symbol → Type 0 where
  plain : (rest : List Symbol) → IsGeneric 0 rest [] rest
  with_params : (n o : ℕ) (ts : List Symbol) (xs : List TParam) (rest : List Symbol)
      → starts is_close_bracket ts ≡ false → IsTParams n ts xs rest → IsGeneric n (t.OpenBracket o ∷ ts) xs rest

-- whether type parameters come next after a declared type's name, and not an array
abbrev pub opens_params : List Symbol → Bool
opens_params (t.OpenBracket at ∷ t.Ident i ∷ ts) = if starts shows_length ts then false else true
opens_params _ = false

-- ---- reading

abbrev pub constraint_at : ℕ → List Symbol → Reply (Fit TypeExpr)
constraint_at n ts = from_start (union_at n (type_at n) (lower_at n)) ts

abbrev pub tparam_type : ℕ → List Ident → ℕ → List Symbol → Reply TParam
tparam_type n names at ts = constraint_at n ts >>= λ ty. Ok (tparam names ty.0.0 at, ty.1)

abbrev pub tparam_more : ℕ → Ident → List Symbol → Reply TParam
tparam_more n i ts = names_more names_at i ts >>= λ names. tparam_type n names.0 i.start names.1

-- after the first name
abbrev pub tparam_first : ℕ → Ident → List Symbol → Reply TParam
tparam_first n i ts = choose (past is_comma ts) (tparam_more n i) (tparam_type n (i ∷ []) i.start ts)

abbrev pub tparam_at : ℕ → List Symbol → Reply TParam
tparam_at n ts = ident_at ts >>= λ i. tparam_first n i.0 i.1

abbrev pub tparams : ListForm TParam (List TParam)
tparams = record { sep = is_comma; closes = is_close_bracket; final = λ x. false; nil = []; cons = λ x xs. x ∷ xs }

-- such parameters behind others
abbrev pub tparams_row : ℕ → List TParam → List Symbol → Reply (List TParam)
tparams_row n found ts = series tparams (tparam_at n) ts >>= λ xs. Ok (found ++ xs.0, xs.1)

-- one at least, after the bracket
abbrev pub tparams_at : ℕ → List Symbol → Reply (List TParam)
tparams_at n ts = series_item tparams (tparam_at n) (series tparams (tparam_at n)) ts

abbrev pub generic_at : ℕ → List Symbol → Reply (List TParam)
generic_at n ts = choose (past is_open_bracket ts) (tparams_at n) (Ok ([], ts))
