-- The grammar of types and of what stands inside them, a production a case. The number of a type is that of the
-- nodes on a longest path of its tree.
use Rattle.std.specs.Prelude.{◌≡◌, ℕ, suc, max, true, false, Bool, List, [], ◌∷◌}
use Rattle.go_expr_syntax.specs.declared.symbols.Symbol.{Symbol}
use Rattle.go_expr_syntax.specs.declared.symbols.Symbol.TheVariants as t
use Rattle.go_expr_syntax.specs.declared.symbols.Ident.{Ident}
use Rattle.go_expr_syntax.specs.declared.tree.NameExpr.{NameExpr}
use Rattle.go_expr_syntax.specs.declared.expressions.Operand.{Operand}
use Rattle.go_type_syntax.specs.declared.tree.FieldExpr.{FieldExpr}
use Rattle.go_type_syntax.specs.declared.tree.ParamExpr.{ParamExpr}
use Rattle.go_type_syntax.specs.declared.tree.SigExpr.{SigExpr, roll-SigExpr}
use Rattle.go_type_syntax.specs.declared.tree.TermExpr.{TermExpr}
use Rattle.go_type_syntax.specs.declared.tree.ElemExpr.{ElemExpr}
use Rattle.go_type_syntax.specs.declared.tree.ElemExpr.TheVariants as elem
use Rattle.go_type_syntax.specs.declared.tree.TypeExpr.{TypeExpr}
use Rattle.go_type_syntax.specs.declared.tree.TypeExpr.TheVariants as y
use Rattle.go_expr_syntax.specs.Reading.{starts, is_arrow, is_open_paren, is_close_bracket, start_of}
use Rattle.go_expr_syntax.specs.Names.{IsTypeName, IsNames, IsTag}
use Rattle.go_expr_syntax.specs.Expressions.{IsExpr}

-- a generic type with its arguments
abbrev pub instance : NameExpr → List TypeExpr → TypeExpr
instance x args = y.Name x args x.at

abbrev pub named : NameExpr → TypeExpr
named x = instance x []

abbrev pub field : List Ident → TypeExpr → List ℕ → ℕ → FieldExpr
field names ty tag at = record { names = names; ty = ty; tag = tag; at = at }

abbrev pub param : List Ident → Bool → TypeExpr → ℕ → ParamExpr
param names variadic ty at = record { names = names; variadic = variadic; ty = ty; at = at }

abbrev pub signature : List ParamExpr → List ParamExpr → ℕ → SigExpr
signature params results at = roll-SigExpr (record { params = params; results = results; at = at })

abbrev pub term : Bool → TypeExpr → ℕ → TermExpr
term tilde ty at = record { tilde = tilde; ty = ty; at = at }

mutual
  pub data IsType : ℕ → List Symbol → TypeExpr → List Symbol → Type 0 where
    name : (n : ℕ) (ts : List Symbol) (ty : TypeExpr) (rest : List Symbol) → IsNamed n ts ty rest → IsType n ts ty rest
    paren : (n at c : ℕ) (ts : List Symbol) (ty : TypeExpr) (rest : List Symbol)
        → IsType n ts ty (t.CloseParen c ∷ rest)
        → IsType (suc n) (t.OpenParen at ∷ ts) (y.Paren ty at) rest
    pointer : (n at : ℕ) (ts : List Symbol) (ty : TypeExpr) (rest : List Symbol) → IsType n ts ty rest
        → IsType (suc n) (t.Star at ∷ ts) (y.Pointer ty at) rest
    slice : (n at c : ℕ) (ts : List Symbol) (ty : TypeExpr) (rest : List Symbol) → IsType n ts ty rest
        → IsType (suc n) (t.OpenBracket at ∷ t.CloseBracket c ∷ ts) (y.Slice ty at) rest
    array : (m n at c : ℕ) (ts : List Symbol) (length : Operand) (us : List Symbol) (ty : TypeExpr) (rest : List Symbol)
        → IsExpr 5 m ts length (t.CloseBracket c ∷ us) → IsType n us ty rest
        → IsType (suc (max m n)) (t.OpenBracket at ∷ ts) (y.Array length.expr ty at) rest
    map_of : (m n at b c : ℕ) (ts : List Symbol) (key : TypeExpr) (us : List Symbol) (ty : TypeExpr)
        (rest : List Symbol)
        → IsType m ts key (t.CloseBracket c ∷ us) → IsType n us ty rest
        → IsType (suc (max m n)) (t.Map at ∷ t.OpenBracket b ∷ ts) (y.MapOf key ty at) rest
    -- an arrow after `chan` belongs to it
    both_ways : (n at : ℕ) (ts : List Symbol) (ty : TypeExpr) (rest : List Symbol) → starts is_arrow ts ≡ false
        → IsType n ts ty rest
        → IsType (suc n) (t.Chan at ∷ ts) (y.Chan true true ty at) rest
    send_only : (n at b : ℕ) (ts : List Symbol) (ty : TypeExpr) (rest : List Symbol) → IsType n ts ty rest
        → IsType (suc n) (t.Chan at ∷ t.Arrow b ∷ ts) (y.Chan false true ty at) rest
    receive_only : (n at b : ℕ) (ts : List Symbol) (ty : TypeExpr) (rest : List Symbol) → IsType n ts ty rest
        → IsType (suc n) (t.Arrow at ∷ t.Chan b ∷ ts) (y.Chan true false ty at) rest
    struct : (n at b : ℕ) (ts : List Symbol) (fields : List FieldExpr) (rest : List Symbol) → IsFields n ts fields rest
        → IsType (suc n) (t.Struct at ∷ t.OpenBrace b ∷ ts) (y.Struct fields at) rest
    func : (n at : ℕ) (ts : List Symbol) (sig : SigExpr) (rest : List Symbol) → IsSig n ts sig rest
        → IsType (suc n) (t.Func at ∷ ts) (y.Func sig at) rest
    interface : (n at b : ℕ) (ts : List Symbol) (elems : List ElemExpr) (rest : List Symbol) → IsElems n ts elems rest
        → IsType (suc n) (t.Interface at ∷ t.OpenBrace b ∷ ts) (y.Interface elems at) rest

  -- TypeName [ Args ]
  pub data IsNamed : ℕ → List Symbol → TypeExpr → List Symbol → Type 0 where
    by_name : (n : ℕ) (ts : List Symbol) (x : NameExpr) (us : List Symbol) (args : List TypeExpr) (rest : List Symbol)
        → IsTypeName ts x us → IsArgs n us args rest → IsNamed (suc n) ts (instance x args) rest

  -- [ "[" Type { "," Type } [ "," ] "]" ]
  pub data IsArgs : ℕ → List Symbol → List TypeExpr → List Symbol → Type 0 where
    no_args : (rest : List Symbol) → IsArgs 0 rest [] rest
    some_args : (n o : ℕ) (ts : List Symbol) (args : List TypeExpr) (rest : List Symbol)
        → starts is_close_bracket ts ≡ false → IsTypes n ts args rest → IsArgs n (t.OpenBracket o ∷ ts) args rest

  -- types up to the bracket that closes, with a comma between each two, and perhaps after the last
  pub data IsTypes : ℕ → List Symbol → List TypeExpr → List Symbol → Type 0 where
    no_type : (c : ℕ) (rest : List Symbol) → IsTypes 0 (t.CloseBracket c ∷ rest) [] rest
    last_type : (n c : ℕ) (ts : List Symbol) (ty : TypeExpr) (rest : List Symbol)
        → IsType n ts ty (t.CloseBracket c ∷ rest) → IsTypes n ts (ty ∷ []) rest
    more_types : (m n s : ℕ) (ts us : List Symbol) (ty : TypeExpr) (types : List TypeExpr) (rest : List Symbol)
        → IsType m ts ty (t.Comma s ∷ us) → IsTypes n us types rest → IsTypes (max m n) ts (ty ∷ types) rest

  pub data IsField : ℕ → List Symbol → FieldExpr → List Symbol → Type 0 where
    shared : (n : ℕ) (i : Ident) (names : List Ident) (ts us : List Symbol) (ty : TypeExpr) (vs : List Symbol)
        (tag : List ℕ) (rest : List Symbol)
        → IsNames ts (i ∷ names) us → IsType n us ty vs → IsTag vs tag rest
        → IsField n ts (field (i ∷ names) ty tag i.start) rest
    embedded : (n : ℕ) (ts : List Symbol) (ty : TypeExpr) (us : List Symbol) (tag : List ℕ) (rest : List Symbol)
        → IsNamed n ts ty us → IsTag us tag rest
        → IsField n ts (field [] ty tag (start_of ts)) rest
    embedded_pointer : (n at : ℕ) (ts : List Symbol) (ty : TypeExpr) (us : List Symbol) (tag : List ℕ)
        (rest : List Symbol) → IsNamed n ts ty us → IsTag us tag rest
        → IsField (suc n) (t.Star at ∷ ts) (field [] (y.Pointer ty at) tag at) rest

  -- up to the brace that closes; the last semicolon may be left out
  pub data IsFields : ℕ → List Symbol → List FieldExpr → List Symbol → Type 0 where
    none : (c : ℕ) (rest : List Symbol) → IsFields 0 (t.CloseBrace c ∷ rest) [] rest
    last : (n c : ℕ) (ts : List Symbol) (x : FieldExpr) (rest : List Symbol) → IsField n ts x (t.CloseBrace c ∷ rest)
        → IsFields n ts (x ∷ []) rest
    more : (m n s : ℕ) (ts us : List Symbol) (x : FieldExpr) (xs : List FieldExpr) (rest : List Symbol)
        → IsField m ts x (t.Semicolon s ∷ us) → IsFields n us xs rest → IsFields (max m n) ts (x ∷ xs) rest

  -- a parameter: with names or without, where a variadic one is allowed or not; the third says whether it is variadic
  pub data IsParam : Bool → Bool → Bool → ℕ → List Symbol → ParamExpr → List Symbol → Type 0 where
    unnamed : (v : Bool) (n : ℕ) (ts : List Symbol) (ty : TypeExpr) (rest : List Symbol) → IsType n ts ty rest
        → IsParam false v false n ts (param [] false ty (start_of ts)) rest
    sharing : (v : Bool) (n : ℕ) (i : Ident) (names : List Ident) (ts us : List Symbol) (ty : TypeExpr)
        (rest : List Symbol)
        → IsNames ts (i ∷ names) us → IsType n us ty rest
        → IsParam true v false n ts (param (i ∷ names) false ty i.start) rest
    unnamed_rest : (n at : ℕ) (ts : List Symbol) (ty : TypeExpr) (rest : List Symbol) → IsType n ts ty rest
        → IsParam false true true n (t.Ellipsis at ∷ ts) (param [] true ty at) rest
    named_rest : (n : ℕ) (i : Ident) (at : ℕ) (ts : List Symbol) (ty : TypeExpr) (rest : List Symbol)
        → IsType n ts ty rest
        → IsParam true true true n (t.Ident i ∷ t.Ellipsis at ∷ ts) (param (i ∷ []) true ty i.start) rest

  -- up to the parenthesis that closes; all have names or none has, and only the last may be variadic; a comma may
  -- stand after it
  pub data IsParams : Bool → Bool → ℕ → List Symbol → List ParamExpr → List Symbol → Type 0 where
    no_param : (w v : Bool) (c : ℕ) (rest : List Symbol) → IsParams w v 0 (t.CloseParen c ∷ rest) [] rest
    last_param : (w v f : Bool) (n c : ℕ) (ts : List Symbol) (x : ParamExpr) (rest : List Symbol)
        → IsParam w v f n ts x (t.CloseParen c ∷ rest) → IsParams w v n ts (x ∷ []) rest
    more_params : (w v : Bool) (m n s : ℕ) (ts us : List Symbol) (x : ParamExpr) (xs : List ParamExpr)
        (rest : List Symbol)
        → IsParam w v false m ts x (t.Comma s ∷ us) → IsParams w v n us xs rest
        → IsParams w v (max m n) ts (x ∷ xs) rest
    variadic_comma : (w v : Bool) (n s c : ℕ) (ts : List Symbol) (x : ParamExpr) (rest : List Symbol)
        → IsParam w v true n ts x (t.Comma s ∷ t.CloseParen c ∷ rest) → IsParams w v n ts (x ∷ []) rest

  -- parameters, and then results, a single type, or nothing
  pub data IsSig : ℕ → List Symbol → SigExpr → List Symbol → Type 0 where
    no_result : (w : Bool) (n at : ℕ) (ts : List Symbol) (ps : List ParamExpr) (rest : List Symbol)
        → IsParams w true n ts ps rest → IsSig n (t.OpenParen at ∷ ts) (signature ps [] at) rest
    results : (w x : Bool) (m n at o : ℕ) (ts us : List Symbol) (ps rs : List ParamExpr) (rest : List Symbol)
        → IsParams w true m ts ps (t.OpenParen o ∷ us) → IsParams x false n us rs rest
        → IsSig (max m n) (t.OpenParen at ∷ ts) (signature ps rs at) rest
    -- parentheses after the parameters are a list of results, and no type
    result : (w : Bool) (m n at : ℕ) (ts us : List Symbol) (ps : List ParamExpr) (ty : TypeExpr) (rest : List Symbol)
        → IsParams w true m ts ps us → starts is_open_paren us ≡ false → IsType n us ty rest
        → IsSig (max m n) (t.OpenParen at ∷ ts) (signature ps (param [] false ty (start_of us) ∷ []) at) rest

  pub data IsTerm : ℕ → List Symbol → TermExpr → List Symbol → Type 0 where
    exactly : (n : ℕ) (ts : List Symbol) (ty : TypeExpr) (rest : List Symbol) → IsType n ts ty rest
        → IsTerm n ts (term false ty (start_of ts)) rest
    approximately : (n at : ℕ) (ts : List Symbol) (ty : TypeExpr) (rest : List Symbol) → IsType n ts ty rest
        → IsTerm n (t.Tilde at ∷ ts) (term true ty at) rest

  pub data IsTerms : ℕ → List Symbol → List TermExpr → List Symbol → Type 0 where
    one_term : (n : ℕ) (ts : List Symbol) (x : TermExpr) (rest : List Symbol) → IsTerm n ts x rest
        → IsTerms n ts (x ∷ []) rest
    more_terms : (m n b : ℕ) (ts us : List Symbol) (x : TermExpr) (xs : List TermExpr) (rest : List Symbol)
        → IsTerm m ts x (t.Bar b ∷ us) → IsTerms n us xs rest → IsTerms (max m n) ts (x ∷ xs) rest

  -- a union of one term without a tilde is that term's type
  pub data IsUnion : ℕ → List Symbol → TypeExpr → List Symbol → Type 0 where
    alone : (n : ℕ) (ts : List Symbol) (ty : TypeExpr) (rest : List Symbol) → IsType n ts ty rest → IsUnion n ts ty rest
    approximate : (n at : ℕ) (ts : List Symbol) (ty : TypeExpr) (rest : List Symbol) → IsType n ts ty rest
        → IsUnion (suc n) (t.Tilde at ∷ ts) (y.Union (term true ty at ∷ []) at) rest
    several : (m n b : ℕ) (ts us : List Symbol) (x : TermExpr) (xs : List TermExpr) (rest : List Symbol)
        → IsTerm m ts x (t.Bar b ∷ us) → IsTerms n us xs rest
        → IsUnion (suc (max m n)) ts (y.Union (x ∷ xs) (start_of ts)) rest

  pub data IsElem : ℕ → List Symbol → ElemExpr → List Symbol → Type 0 where
    method : (n : ℕ) (i : Ident) (ts : List Symbol) (sig : SigExpr) (rest : List Symbol) → IsSig n ts sig rest
        → IsElem n (t.Ident i ∷ ts) (elem.Method i sig i.start) rest
    embeds : (n : ℕ) (ts : List Symbol) (ty : TypeExpr) (rest : List Symbol) → IsUnion n ts ty rest
        → IsElem n ts (elem.Embedded ty (start_of ts)) rest

  pub data IsElems : ℕ → List Symbol → List ElemExpr → List Symbol → Type 0 where
    no_elem : (c : ℕ) (rest : List Symbol) → IsElems 0 (t.CloseBrace c ∷ rest) [] rest
    last_elem : (n c : ℕ) (ts : List Symbol) (x : ElemExpr) (rest : List Symbol)
        → IsElem n ts x (t.CloseBrace c ∷ rest) → IsElems n ts (x ∷ []) rest
    more_elems : (m n s : ℕ) (ts us : List Symbol) (x : ElemExpr) (xs : List ElemExpr) (rest : List Symbol)
        → IsElem m ts x (t.Semicolon s ∷ us) → IsElems n us xs rest → IsElems (max m n) ts (x ∷ xs) rest
