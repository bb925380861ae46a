-- Types, as they are read, each with how many more nodes its longest path might have.
use Rattle.std.specs.Prelude.{ℕ, zero, suc, min, Bool, true, false, List, [], ◌∷◌, Ok}
use Rattle.go_expr_syntax.specs.declared.symbols.Symbol.{Symbol}
use Rattle.go_expr_syntax.specs.declared.symbols.Symbol.TheVariants as t
use Rattle.go_expr_syntax.specs.declared.symbols.Ident.{Ident}
use Rattle.go_type_syntax.specs.declared.tree.FieldExpr.{FieldExpr}
use Rattle.go_type_syntax.specs.declared.tree.TypeExpr.{TypeExpr}
use Rattle.go_type_syntax.specs.declared.tree.TypeExpr.TheVariants as y
use Rattle.go_expr_syntax.specs.Reading.{shows_embedded, Reply, ◌>>=◌, unexpected, too_deep, past, is_semicolon}
use Rattle.go_expr_syntax.specs.Reading.{is_close_paren, is_open_bracket, is_close_bracket, is_open_brace}
use Rattle.go_expr_syntax.specs.Reading.{is_close_brace, is_chan, is_arrow, is_comma, is_ident, begins_type}
use Rattle.go_expr_syntax.specs.Reading.{symbol_start, from_start, choose, peek, series, Fit, fits}
use Rattle.go_expr_syntax.specs.Either.{either}
use Rattle.go_expr_syntax.specs.Names.{tag_at, names_more, names_at}
use Rattle.go_type_syntax.specs.Grammar.{field}
use Rattle.go_expr_syntax.specs.Operands.{Sized, expr_at}
use Rattle.go_type_syntax.specs.Params.{sig_at}
use Rattle.go_type_syntax.specs.Elements.{name_by, interface_by}

-- a type, and then a value of it
abbrev pub with_type : (List Symbol → Reply (Fit TypeExpr)) → (TypeExpr → TypeExpr) → List Symbol → Reply (Fit TypeExpr)
with_type inner make ts = inner ts >>= λ ty. Ok ((make ty.0.0, ty.0.1), ty.1)

abbrev pub paren_end : ℕ → Fit TypeExpr → List Symbol → Reply (Fit TypeExpr)
paren_end at ty us = past is_close_paren us >>= λ rest. Ok ((y.Paren ty.0 at, ty.1), rest)

abbrev pub paren_by : (List Symbol → Reply (Fit TypeExpr)) → ℕ → List Symbol → Reply (Fit TypeExpr)
paren_by inner at ts = inner ts >>= λ ty. paren_end at ty.0 ty.1

abbrev pub array_item : (List Symbol → Reply (Fit TypeExpr)) → ℕ → Sized → List Symbol → Reply (Fit TypeExpr)
array_item inner at length vs = inner vs >>= λ ty. Ok ((y.Array (length.0).expr ty.0.0 at, min length.1 ty.0.1), ty.1)

abbrev pub array_end : (List Symbol → Reply (Fit TypeExpr)) → ℕ → Sized → List Symbol → Reply (Fit TypeExpr)
array_end inner at length us = past is_close_bracket us >>= λ vs. array_item inner at length vs

abbrev pub array_by : ℕ → (List Symbol → Reply (Fit TypeExpr)) → ℕ → List Symbol → Reply (Fit TypeExpr)
array_by n inner at ts = expr_at n ts >>= λ x. array_end inner at x.0 x.1

abbrev pub pointer_by : (List Symbol → Reply (Fit TypeExpr)) → ℕ → List Symbol → Reply (Fit TypeExpr)
pointer_by inner at ts = with_type inner (λ ty. y.Pointer ty at) ts

abbrev pub slice_by : (List Symbol → Reply (Fit TypeExpr)) → ℕ → List Symbol → Reply (Fit TypeExpr)
slice_by inner at ts = with_type inner (λ ty. y.Slice ty at) ts

abbrev pub bracket_by : ℕ → (List Symbol → Reply (Fit TypeExpr)) → ℕ → List Symbol → Reply (Fit TypeExpr)
bracket_by n inner at ts = choose (past is_close_bracket ts) (λ us. slice_by inner at us) (array_by n inner at ts)

abbrev pub map_value : (List Symbol → Reply (Fit TypeExpr)) → ℕ → Fit TypeExpr → List Symbol → Reply (Fit TypeExpr)
map_value inner at key vs = inner vs >>= λ ty. Ok ((y.MapOf key.0 ty.0.0 at, min key.1 ty.0.1), ty.1)

abbrev pub map_end : (List Symbol → Reply (Fit TypeExpr)) → ℕ → Fit TypeExpr → List Symbol → Reply (Fit TypeExpr)
map_end inner at key us = past is_close_bracket us >>= λ vs. map_value inner at key vs

abbrev pub map_inside : (List Symbol → Reply (Fit TypeExpr)) → ℕ → List Symbol → Reply (Fit TypeExpr)
map_inside inner at us = inner us >>= λ key. map_end inner at key.0 key.1

abbrev pub map_by : (List Symbol → Reply (Fit TypeExpr)) → ℕ → List Symbol → Reply (Fit TypeExpr)
map_by inner at ts = past is_open_bracket ts >>= λ us. map_inside inner at us

-- the type of what a channel carries, which can be received from or not, and sent to or not
abbrev pub chan_of : (List Symbol → Reply (Fit TypeExpr)) → Bool → Bool → ℕ → List Symbol → Reply (Fit TypeExpr)
chan_of inner receive send at ts = with_type inner (λ ty. y.Chan receive send ty at) ts

abbrev pub chan_by : (List Symbol → Reply (Fit TypeExpr)) → ℕ → List Symbol → Reply (Fit TypeExpr)
chan_by inner at ts = choose (past is_arrow ts) (λ us. chan_of inner false true at us) (chan_of inner true true at ts)

abbrev pub receive_by : (List Symbol → Reply (Fit TypeExpr)) → ℕ → List Symbol → Reply (Fit TypeExpr)
receive_by inner at ts = past is_chan ts >>= λ us. chan_of inner true false at us

abbrev pub func_by : ℕ → (List Symbol → Reply (Fit TypeExpr)) → ℕ → List Symbol → Reply (Fit TypeExpr)
func_by n inner at ts = sig_at n inner ts >>= λ s. Ok ((y.Func s.0.0 at, s.0.1), s.1)

-- the tag after a field's type
abbrev pub tagged : List Ident → Fit TypeExpr → ℕ → List Symbol → Reply (Fit FieldExpr)
tagged names ty at ts = tag_at ts >>= λ tag. Ok ((field names ty.0 tag.0 at, ty.1), tag.1)

-- after a field's names
abbrev pub shared_by : (List Symbol → Reply (Fit TypeExpr)) → List Ident → ℕ → List Symbol → Reply (Fit FieldExpr)
shared_by inner names at ts = inner ts >>= λ ty. tagged names ty.0 at ty.1

-- after the first token of an embedded type
abbrev pub embedded_by : (List Symbol → Reply (Fit TypeExpr)) → Symbol → List Symbol → Reply (Fit FieldExpr)
embedded_by inner k ts = inner (k ∷ ts) >>= λ ty. tagged [] ty.0 (symbol_start k) ty.1

-- a name that turns out to be a type, where n nodes are left
abbrev pub lone_by : ℕ → (List Symbol → Reply (Fit TypeExpr)) → Ident → List Symbol → Reply (Fit FieldExpr)
lone_by zero inner i ts = too_deep ts
lone_by (suc n) inner i ts = embedded_by inner (t.Ident i) ts

-- after the comma behind a field's first identifier
abbrev pub more_names : (List Symbol → Reply (Fit TypeExpr)) → Ident → List Symbol → Reply (Fit FieldExpr)
more_names inner i ts = names_more names_at i ts >>= λ names. shared_by inner names.0 i.start names.1

-- after a field's only name
abbrev pub only_by : (List Symbol → Reply (Fit TypeExpr)) → Ident → List Symbol → Reply (Fit FieldExpr)
only_by inner i ts = shared_by inner (i ∷ []) i.start ts

-- after an identifier before a bracket: the name of a field that is an array or a slice, or an embedded type with
-- arguments
abbrev pub array_or_instance : ℕ → (List Symbol → Reply (Fit TypeExpr)) → Ident → List Symbol → Reply (Fit FieldExpr)
array_or_instance n inner i ts = either (only_by inner i ts) (lone_by n inner i ts)

-- after an identifier with no comma behind
abbrev pub sole_by : ℕ → (List Symbol → Reply (Fit TypeExpr)) → Ident → List Symbol → Reply (Fit FieldExpr)
sole_by n inner i ts = peek is_open_bracket ts (array_or_instance n inner i ts) (only_by inner i ts)

-- after a field's first identifier
abbrev pub first_by : ℕ → (List Symbol → Reply (Fit TypeExpr)) → Ident → List Symbol → Reply (Fit FieldExpr)
first_by n inner i ts =
    choose (past is_comma ts) (more_names inner i)
    (peek shows_embedded ts (lone_by n inner i ts) (sole_by n inner i ts))

-- after the star of an embedded pointer
abbrev pub star_by : (List Symbol → Reply (Fit TypeExpr)) → ℕ → List Symbol → Reply (Fit FieldExpr)
star_by inner at ts = peek is_ident ts (embedded_by inner (t.Star at) ts) (unexpected ts)

abbrev pub star_at : ℕ → (List Symbol → Reply (Fit TypeExpr)) → ℕ → List Symbol → Reply (Fit FieldExpr)
star_at zero inner at ts = too_deep (t.Star at ∷ ts)
star_at (suc n) inner at ts = star_by inner at ts

abbrev pub field_by : ℕ → (List Symbol → Reply (Fit TypeExpr)) → List Symbol → Reply (Fit FieldExpr)
field_by n inner (t.Star at ∷ ts) = star_at n inner at ts
field_by n inner (t.Ident i ∷ ts) = first_by n inner i ts
field_by n inner ts = unexpected ts

abbrev pub fields_at : ℕ → (List Symbol → Reply (Fit TypeExpr)) → List Symbol → Reply (Fit (List FieldExpr))
fields_at n inner ts = series (fits n is_semicolon is_close_brace) (field_by n inner) ts

abbrev pub struct_inside : ℕ → (List Symbol → Reply (Fit TypeExpr)) → ℕ → List Symbol → Reply (Fit TypeExpr)
struct_inside n inner at us = fields_at n inner us >>= λ fields. Ok ((y.Struct fields.0.0 at, fields.0.1), fields.1)

abbrev pub struct_by : ℕ → (List Symbol → Reply (Fit TypeExpr)) → ℕ → List Symbol → Reply (Fit TypeExpr)
struct_by n inner at ts = past is_open_brace ts >>= λ us. struct_inside n inner at us

-- one step, with what reads the types inside, where n nodes are left for them, and those a node deeper
abbrev pub type_by : ℕ → (List Symbol → Reply (Fit TypeExpr)) → (List Symbol → Reply (Fit TypeExpr)) → List Symbol
    → Reply (Fit TypeExpr)
type_by n inner lower (t.Ident i ∷ ts) = name_by n inner i ts
type_by n inner lower (t.OpenParen at ∷ ts) = paren_by inner at ts
type_by n inner lower (t.Star at ∷ ts) = pointer_by inner at ts
type_by n inner lower (t.OpenBracket at ∷ ts) = bracket_by n inner at ts
type_by n inner lower (t.Map at ∷ ts) = map_by inner at ts
type_by n inner lower (t.Chan at ∷ ts) = chan_by inner at ts
type_by n inner lower (t.Arrow at ∷ ts) = receive_by inner at ts
type_by n inner lower (t.Func at ∷ ts) = func_by n inner at ts
type_by n inner lower (t.Struct at ∷ ts) = struct_by n inner at ts
type_by n inner lower (t.Interface at ∷ ts) = interface_by n inner lower at ts
type_by n inner lower ts = unexpected ts

-- no node is left
abbrev pub no_type : List Symbol → Reply (Fit TypeExpr)
no_type ts = peek begins_type ts (too_deep ts) (unexpected ts)

-- what reads types with up to n nodes on a path, and what reads those with one less
pub record Readers : Type 0 where
  pub here : List Symbol → Reply (Fit TypeExpr)
  pub below : List Symbol → Reply (Fit TypeExpr)

unfoldable pub readers : ℕ → Readers
readers zero = record { here = no_type; below = no_type }
readers (suc n) = record { here = from_start (type_by n (readers n).here (readers n).below); below = (readers n).here }

-- a type with up to n nodes on a path
abbrev pub type_at : ℕ → List Symbol → Reply (Fit TypeExpr)
type_at n ts = (readers n).here ts

-- a type with up to one node less
abbrev pub lower_at : ℕ → List Symbol → Reply (Fit TypeExpr)
lower_at n ts = (readers n).below ts
