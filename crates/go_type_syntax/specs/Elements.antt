-- Unions and the elements of interfaces, as they are read. inner reads the types inside, where n nodes are left for
-- them, and lower those
-- that stand a node deeper.
use Rattle.std.specs.Prelude.{ℕ, zero, suc, min, true, false, List, [], ◌∷◌, Ok}
use Rattle.go_expr_syntax.specs.declared.symbols.Symbol.{Symbol}
use Rattle.go_expr_syntax.specs.declared.symbols.Ident.{Ident}
use Rattle.go_type_syntax.specs.declared.tree.TermExpr.{TermExpr}
use Rattle.go_type_syntax.specs.declared.tree.ElemExpr.{ElemExpr}
use Rattle.go_type_syntax.specs.declared.tree.ElemExpr.TheVariants as elem
use Rattle.go_type_syntax.specs.declared.tree.TypeExpr.{TypeExpr}
use Rattle.go_type_syntax.specs.declared.tree.TypeExpr.TheVariants as y
use Rattle.go_expr_syntax.specs.Reading.{shows_elem, Reply, ◌>>=◌, unexpected, too_deep, past, is_bar, is_tilde}
use Rattle.go_expr_syntax.specs.Reading.{is_comma, is_open_paren, is_open_bracket, is_close_bracket, is_open_brace}
use Rattle.go_expr_syntax.specs.Reading.{is_close_brace, is_semicolon, choose, peek, ListForm, series_item, series}
use Rattle.go_expr_syntax.specs.Reading.{chain, start_of, placed, Fit, fits}
use Rattle.go_expr_syntax.specs.Names.{ident_at, ident_or, dotted}
use Rattle.go_expr_syntax.specs.declared.tree.NameExpr.{NameExpr}
use Rattle.go_type_syntax.specs.Grammar.{named, instance, term}
use Rattle.go_type_syntax.specs.Params.{sig_at}

-- ---- names of types

abbrev pub type_list : ℕ → ListForm (Fit TypeExpr) (Fit (List TypeExpr))
type_list n = fits n is_comma is_close_bracket

-- after the bracket: one argument at least
abbrev pub types_at : ℕ → (List Symbol → Reply (Fit TypeExpr)) → List Symbol → Reply (Fit (List TypeExpr))
types_at n inner ts = series_item (type_list n) inner (series (type_list n) inner) ts

abbrev pub instance_by : ℕ → (List Symbol → Reply (Fit TypeExpr)) → NameExpr → List Symbol → Reply (Fit TypeExpr)
instance_by n inner x ts = types_at n inner ts >>= λ args. Ok ((instance x args.0.0, args.0.1), args.1)

-- after a type's name
abbrev pub args_by : ℕ → (List Symbol → Reply (Fit TypeExpr)) → NameExpr → List Symbol → Reply (Fit TypeExpr)
args_by n inner x ts = choose (past is_open_bracket ts) (instance_by n inner x) (Ok ((named x, n), ts))

-- the name of a type with its arguments, after its first identifier, where n nodes are left for them
abbrev pub name_by : ℕ → (List Symbol → Reply (Fit TypeExpr)) → Ident → List Symbol → Reply (Fit TypeExpr)
name_by n inner i ts = dotted i ts >>= λ x. args_by n inner x.0 x.1

-- ---- unions

abbrev pub tilde_term : (List Symbol → Reply (Fit TypeExpr)) → ℕ → List Symbol → Reply (Fit TermExpr)
tilde_term lower at ts = lower ts >>= λ ty. Ok ((term true ty.0.0 at, ty.0.1), ty.1)

abbrev pub plain_term : (List Symbol → Reply (Fit TypeExpr)) → List Symbol → Reply (Fit TermExpr)
plain_term lower ts = placed lower ts >>= λ ty. Ok ((term false ty.0.0.0 ty.0.1, ty.0.0.1), ty.1)

abbrev pub term_at : (List Symbol → Reply (Fit TypeExpr)) → List Symbol → Reply (Fit TermExpr)
term_at lower ts = choose (past is_tilde ts) (tilde_term lower (start_of ts)) (plain_term lower ts)

abbrev pub terms_at : (List Symbol → Reply (Fit TypeExpr)) → List Symbol → Reply (Fit (List TermExpr))
terms_at lower ts = chain is_bar (λ x. (x.0 ∷ [], x.1)) (λ x xs. (x.0 ∷ xs.0, min x.1 xs.1)) (term_at lower) ts

-- after the first bar
abbrev pub more_terms : (List Symbol → Reply (Fit TypeExpr)) → Fit TermExpr → ℕ → List Symbol → Reply (Fit TypeExpr)
more_terms lower x at ts = terms_at lower ts >>= λ xs. Ok ((y.Union (x.0 ∷ xs.0.0) at, min x.1 xs.0.1), xs.1)

-- after a first term without a tilde: before a bar it stands a node deeper
abbrev pub after_type : (List Symbol → Reply (Fit TypeExpr)) → TypeExpr → ℕ → ℕ → List Symbol → Reply (Fit TypeExpr)
after_type lower ty zero at ts = peek is_bar ts (too_deep ts) (Ok ((ty, 0), ts))
after_type lower ty (suc fit) at ts =
    choose (past is_bar ts) (more_terms lower (term false ty at, fit) at) (Ok ((ty, suc fit), ts))

abbrev pub after_tilde : (List Symbol → Reply (Fit TypeExpr)) → Fit TypeExpr → ℕ → List Symbol → Reply (Fit TypeExpr)
after_tilde lower ty at ts =
    choose (past is_bar ts) (more_terms lower (term true ty.0 at, ty.1) at)
    (Ok ((y.Union (term true ty.0 at ∷ []) at, ty.1), ts))

abbrev pub tilde_by : (List Symbol → Reply (Fit TypeExpr)) → ℕ → List Symbol → Reply (Fit TypeExpr)
tilde_by lower at ts = lower ts >>= λ ty. after_tilde lower ty.0 at ty.1

abbrev pub tilde_at : ℕ → (List Symbol → Reply (Fit TypeExpr)) → List Symbol → Reply (Fit TypeExpr)
tilde_at zero lower ts = too_deep ts
tilde_at (suc n) lower ts = past is_tilde ts >>= λ us. tilde_by lower (start_of ts) us

abbrev pub type_first : (List Symbol → Reply (Fit TypeExpr)) → (List Symbol → Reply (Fit TypeExpr)) → List Symbol
    → Reply (Fit TypeExpr)
type_first inner lower ts = placed inner ts >>= λ ty. after_type lower ty.0.0.0 ty.0.0.1 ty.0.1 ty.1

abbrev pub union_at : ℕ → (List Symbol → Reply (Fit TypeExpr)) → (List Symbol → Reply (Fit TypeExpr)) → List Symbol
    → Reply (Fit TypeExpr)
union_at n inner lower ts = peek is_tilde ts (tilde_at n lower ts) (type_first inner lower ts)

-- ---- elements of interfaces

abbrev pub method_by : ℕ → (List Symbol → Reply (Fit TypeExpr)) → Ident → List Symbol → Reply (Fit ElemExpr)
method_by n inner i ts = sig_at n inner ts >>= λ s. Ok ((elem.Method i s.0.0 i.start, s.0.1), s.1)

-- a union that begins with the name of a type, after its first identifier, where n nodes are left for its arguments
abbrev pub name_first : ℕ → (List Symbol → Reply (Fit TypeExpr)) → Ident → List Symbol → Reply (Fit TypeExpr)
name_first n lower i ts = name_by n lower i ts >>= λ ty. after_type lower ty.0.0 ty.0.1 i.start ty.1

-- no node is left for the identifier before
abbrev pub no_elem : List Symbol → Reply (Fit ElemExpr)
no_elem ts = peek shows_elem ts (too_deep ts) (unexpected ts)

abbrev pub embedded_elem : ℕ → (List Symbol → Reply (Fit TypeExpr)) → Ident → List Symbol → Reply (Fit ElemExpr)
embedded_elem zero lower i ts = no_elem ts
embedded_elem (suc n) lower i ts = name_first n lower i ts >>= λ ty. Ok ((elem.Embedded ty.0.0 i.start, ty.0.1), ty.1)

abbrev pub named_elem : ℕ → (List Symbol → Reply (Fit TypeExpr)) → (List Symbol → Reply (Fit TypeExpr)) → Ident
    → List Symbol → Reply (Fit ElemExpr)
named_elem n inner lower i ts = peek is_open_paren ts (method_by n inner i ts) (embedded_elem n lower i ts)

abbrev pub union_elem : ℕ → (List Symbol → Reply (Fit TypeExpr)) → (List Symbol → Reply (Fit TypeExpr)) → List Symbol
    → Reply (Fit ElemExpr)
union_elem n inner lower ts =
    placed (union_at n inner lower) ts >>= λ ty. Ok ((elem.Embedded ty.0.0.0 ty.0.1, ty.0.0.1), ty.1)

abbrev pub elem_at : ℕ → (List Symbol → Reply (Fit TypeExpr)) → (List Symbol → Reply (Fit TypeExpr)) → List Symbol
    → Reply (Fit ElemExpr)
elem_at n inner lower ts = ident_or (ident_at ts) (named_elem n inner lower) (union_elem n inner lower ts)

abbrev pub elems_at : ℕ → (List Symbol → Reply (Fit TypeExpr)) → (List Symbol → Reply (Fit TypeExpr)) → List Symbol
    → Reply (Fit (List ElemExpr))
elems_at n inner lower ts = series (fits n is_semicolon is_close_brace) (elem_at n inner lower) ts

abbrev pub interface_inside : ℕ → (List Symbol → Reply (Fit TypeExpr)) → (List Symbol → Reply (Fit TypeExpr)) → ℕ
    → List Symbol → Reply (Fit TypeExpr)
interface_inside n inner lower at ts = elems_at n inner lower ts >>= λ es. Ok ((y.Interface es.0.0 at, es.0.1), es.1)

abbrev pub interface_by : ℕ → (List Symbol → Reply (Fit TypeExpr)) → (List Symbol → Reply (Fit TypeExpr)) → ℕ
    → List Symbol → Reply (Fit TypeExpr)
interface_by n inner lower at ts = past is_open_brace ts >>= λ us. interface_inside n inner lower at us
