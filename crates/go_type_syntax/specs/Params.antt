-- Parameters and signatures, as they are read. inner reads the types inside, where n nodes are left for them.
use Rattle.std.specs.Prelude.{ℕ, zero, suc, min, Bool, true, false, List, [], ◌∷◌, ◌++◌, map, Ok}
use Rattle.go_expr_syntax.specs.declared.symbols.Symbol.{Symbol}
use Rattle.go_expr_syntax.specs.declared.symbols.Symbol.TheVariants as t
use Rattle.go_expr_syntax.specs.declared.symbols.Ident.{Ident}
use Rattle.go_type_syntax.specs.declared.params.Param.{Param}
use Rattle.go_type_syntax.specs.declared.tree.ParamExpr.{ParamExpr}
use Rattle.go_type_syntax.specs.declared.tree.SigExpr.{SigExpr}
use Rattle.go_type_syntax.specs.declared.tree.TypeExpr.{TypeExpr}
use Rattle.go_expr_syntax.specs.Reading.{shows_type, shows_types, Reply, ◌>>=◌, unexpected, too_deep, past}
use Rattle.go_expr_syntax.specs.Reading.{is_open_paren, is_close_paren, is_open_bracket, is_comma, is_ellipsis}
use Rattle.go_expr_syntax.specs.Reading.{begins_type, choose, peek, start_of, ListForm, series_end, series, placed, Fit}
use Rattle.go_expr_syntax.specs.Reading.{fitting, with_fit}
use Rattle.go_expr_syntax.specs.Either.{either}
use Rattle.go_expr_syntax.specs.Names.{plain, ident_at, names_more, names_at}
use Rattle.go_type_syntax.specs.Grammar.{named, param, signature}

abbrev pub item : List Ident → Bool → Fit TypeExpr → ℕ → Param
item names variadic ty at = record { expr = param names variadic ty.0 at; fit = ty.1; last = variadic }

abbrev pub params : ℕ → ListForm Param (Fit (List ParamExpr))
params n = fitting n is_comma is_close_paren (λ x. x.last) (λ x. x.expr) (λ x. x.fit)

-- a parameter's type, after its names and the dots
abbrev pub param_type : (List Symbol → Reply (Fit TypeExpr)) → List Ident → Bool → ℕ → List Symbol → Reply Param
param_type inner names variadic at ts = inner ts >>= λ ty. Ok (item names variadic ty.0 at, ty.1)

-- ---- without names

abbrev pub type_param : (List Symbol → Reply (Fit TypeExpr)) → List Symbol → Reply Param
type_param inner ts = placed inner ts >>= λ ty. Ok (item [] false ty.0.0 ty.0.1, ty.1)

abbrev pub unnamed_param : Bool → (List Symbol → Reply (Fit TypeExpr)) → List Symbol → Reply Param
unnamed_param true inner ts =
    choose (past is_ellipsis ts) (param_type inner [] true (start_of ts)) (type_param inner ts)
unnamed_param false inner ts = type_param inner ts

-- ---- with names

abbrev pub dots_or : {X : Type 0} → Bool → (List Symbol → Reply X) → (List Symbol → Reply X) → List Symbol → Reply X
dots_or true q other ts = choose (past is_ellipsis ts) q (other ts)
dots_or false q other ts = other ts

-- after a parameter's only name
abbrev pub lone_param : Bool → (List Symbol → Reply (Fit TypeExpr)) → Ident → List Symbol → Reply Param
lone_param v inner i ts =
    dots_or v (param_type inner (i ∷ []) true i.start) (param_type inner (i ∷ []) false i.start) ts

abbrev pub more_params : (List Symbol → Reply (Fit TypeExpr)) → Ident → List Symbol → Reply Param
more_params inner i ts = names_more names_at i ts >>= λ names. param_type inner names.0 false i.start names.1

abbrev pub first_param : Bool → (List Symbol → Reply (Fit TypeExpr)) → Ident → List Symbol → Reply Param
first_param v inner i ts = choose (past is_comma ts) (more_params inner i) (lone_param v inner i ts)

abbrev pub named_param : Bool → (List Symbol → Reply (Fit TypeExpr)) → List Symbol → Reply Param
named_param v inner ts = ident_at ts >>= λ i. first_param v inner i.0 i.1

-- a parameter with names or without
abbrev pub param_at : Bool → Bool → (List Symbol → Reply (Fit TypeExpr)) → List Symbol → Reply Param
param_at true v inner ts = named_param v inner ts
param_at false v inner ts = unnamed_param v inner ts

abbrev pub params_row : Bool → Bool → ℕ → (List Symbol → Reply (Fit TypeExpr)) → List Symbol
    → Reply (Fit (List ParamExpr))
params_row w v n inner ts = series (params n) (param_at w v inner) ts

-- after a parameter
abbrev pub params_end : Bool → Bool → ℕ → (List Symbol → Reply (Fit TypeExpr)) → Param → List Symbol
    → Reply (Fit (List ParamExpr))
params_end w v n inner x ts = series_end (params n) (params_row w v n inner) x ts

-- ---- identifiers that may be names or types

-- a parameter that is a type's name
abbrev pub bare : Ident → ParamExpr
bare i = param [] false (named (plain i)) i.start

-- types for which no node is left
abbrev pub no_bare : Bool → List Symbol → Reply (Fit (List ParamExpr))
no_bare v ts = peek (shows_types v) ts (too_deep ts) (unexpected ts)

-- after identifiers with a comma behind each, where no identifier comes next: all of them are types
abbrev pub after_bare : Bool → ℕ → (List Symbol → Reply (Fit TypeExpr)) → List Ident → List Symbol
    → Reply (Fit (List ParamExpr))
after_bare v n inner [] ts = with_fit ([], n) (params_row false v n inner ts)
after_bare v zero inner (i ∷ names) ts = no_bare v ts
after_bare v (suc n) inner (i ∷ names) ts = with_fit (map bare (i ∷ names), n) (params_row false v (suc n) inner ts)

-- a type that begins with an identifier, after it and identifiers that are types too
abbrev pub types_by : Bool → ℕ → (List Symbol → Reply (Fit TypeExpr)) → List Ident → Ident → List Symbol
    → Reply (Fit (List ParamExpr))
types_by v zero inner names i ts = too_deep ts
types_by v (suc n) inner names i ts =
    inner (t.Ident i ∷ ts) >>= λ ty. with_fit (map bare names, n)
    (params_end false v (suc n) inner (item [] false ty.0 i.start) ty.1)

-- the first parameter with names, after the last of them
abbrev pub names_by : Bool → (List Symbol → Reply (Fit TypeExpr)) → List Ident → Ident → List Symbol → Reply Param
names_by v inner [] i ts = lone_param v inner i ts
names_by v inner (j ∷ names) i ts = param_type inner (j ∷ names ++ i ∷ []) false j.start ts

abbrev pub named_by : Bool → ℕ → (List Symbol → Reply (Fit TypeExpr)) → List Ident → Ident → List Symbol
    → Reply (Fit (List ParamExpr))
named_by v n inner names i ts =
    names_by v inner names i ts >>= λ x. with_fit ([], n) (params_end true v n inner x.0 x.1)

-- before a bracket: the name of a parameter that is an array or a slice, or a type with arguments
abbrev pub array_or_instance : Bool → ℕ → (List Symbol → Reply (Fit TypeExpr)) → List Ident → Ident → List Symbol
    → Reply (Fit (List ParamExpr))
array_or_instance v n inner names i ts = either (named_by v n inner names i ts) (types_by v n inner names i ts)

abbrev pub name_or_type : Bool → ℕ → (List Symbol → Reply (Fit TypeExpr)) → List Ident → Ident → List Symbol
    → Reply (Fit (List ParamExpr))
name_or_type v n inner names i ts =
    peek is_open_bracket ts (array_or_instance v n inner names i ts) (named_by v n inner names i ts)

-- after an identifier with no comma behind
abbrev pub after_ident : Bool → ℕ → (List Symbol → Reply (Fit TypeExpr)) → List Ident → Ident → List Symbol
    → Reply (Fit (List ParamExpr))
after_ident v n inner names i ts =
    peek shows_type ts (types_by v n inner names i ts) (name_or_type v n inner names i ts)

-- parameters, after identifiers with a comma behind each
abbrev pub params_from : Bool → ℕ → (List Symbol → Reply (Fit TypeExpr)) → List Ident → List Symbol
    → Reply (Fit (List ParamExpr))
params_from v n inner names [] = after_bare v n inner names []
params_from v n inner names (t.Ident i ∷ t.Comma c ∷ ts) = params_from v n inner (names ++ i ∷ []) ts
params_from v n inner names (t.Ident i ∷ ts) = after_ident v n inner names i ts
params_from v n inner names (k ∷ ts) = after_bare v n inner names (k ∷ ts)

-- ---- signatures

abbrev pub result_list : ℕ → (List Symbol → Reply (Fit TypeExpr)) → ℕ → Fit (List ParamExpr) → List Symbol
    → Reply (Fit SigExpr)
result_list n inner at ps ts =
    params_from false n inner [] ts >>= λ rs. Ok ((signature ps.0 rs.0.0 at, min ps.1 rs.0.1), rs.1)

abbrev pub result_type : (List Symbol → Reply (Fit TypeExpr)) → ℕ → Fit (List ParamExpr) → List Symbol
    → Reply (Fit SigExpr)
result_type inner at ps ts =
    type_param inner ts >>= λ x. Ok ((signature ps.0 ((x.0).expr ∷ []) at, min ps.1 (x.0).fit), x.1)

abbrev pub no_results : ℕ → Fit (List ParamExpr) → List Symbol → Reply (Fit SigExpr)
no_results at ps ts = Ok ((signature ps.0 [] at, ps.1), ts)

-- after the parameters
abbrev pub results_by : ℕ → (List Symbol → Reply (Fit TypeExpr)) → ℕ → Fit (List ParamExpr) → List Symbol
    → Reply (Fit SigExpr)
results_by n inner at ps ts =
    choose (past is_open_paren ts) (result_list n inner at ps)
    (peek begins_type ts (result_type inner at ps ts) (no_results at ps ts))

-- after the parenthesis
abbrev pub sig_by : ℕ → (List Symbol → Reply (Fit TypeExpr)) → ℕ → List Symbol → Reply (Fit SigExpr)
sig_by n inner at ts = params_from true n inner [] ts >>= λ ps. results_by n inner at ps.0 ps.1

abbrev pub sig_at : ℕ → (List Symbol → Reply (Fit TypeExpr)) → List Symbol → Reply (Fit SigExpr)
sig_at n inner (t.OpenParen at ∷ ts) = sig_by n inner at ts
sig_at n inner ts = unexpected ts
