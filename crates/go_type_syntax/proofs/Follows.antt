-- What may come next, and what it isn't.
use Rattle.std.proofs.Common.{◌≡◌, ℕ, Bool, true, false, List, [], ◌∷◌, Ok, refl}
use Rattle.go_expr_syntax.specs.declared.symbols.Symbol.{Symbol}
use Rattle.go_expr_syntax.specs.declared.symbols.Symbol.TheVariants as t
use Rattle.go_type_syntax.specs.declared.tree.FieldExpr.{FieldExpr}
use Rattle.go_type_syntax.specs.declared.tree.ParamExpr.{ParamExpr}
use Rattle.go_type_syntax.specs.declared.tree.SigExpr.{SigExpr}
use Rattle.go_type_syntax.specs.declared.tree.TermExpr.{TermExpr}
use Rattle.go_type_syntax.specs.declared.tree.ElemExpr.{ElemExpr}
use Rattle.go_type_syntax.specs.declared.tree.TypeExpr.{TypeExpr}
use Rattle.go_expr_syntax.specs.Reading.{starts, begins_type, is_comma, is_dot, is_open_paren, is_open_bracket, is_close_paren, is_close_bracket, is_close_brace, is_ellipsis, is_tilde, is_bar}
use Rattle.go_expr_syntax.specs.Names.{own, of_package, one, more, IsTag, none, some, tag_at}
use Rattle.go_type_syntax.specs.Grammar as g
use Rattle.go_type_syntax.specs.Grammar.{IsType, IsArgs, IsField, IsParam, IsSig, IsTerm, IsUnion, IsElem}
use Rattle.go_expr_syntax.specs.Reading.{shows_type}
use Rattle.go_expr_syntax.specs.Reading.{shows_elem}
use Rattle.go_expr_syntax.specs.Reading.{shows_embedded}

-- what the next token is not, from what it is
pub next_so : (is other : Symbol → Bool) (a b : Bool) (ts : List Symbol) → ((k : Symbol) → is k ≡ a → other k ≡ b) → (false ≡ a → false ≡ b) → starts is ts ≡ a → starts other ts ≡ b
next_so is other a b [] h e s = e s
next_so is other a b (k ∷ ts) h e s = h k s

-- ---- what goes on with a type

abbrev pub goes_on : Symbol → Bool
goes_on (t.Dot at) = true
goes_on k = begins_type k

-- nothing that would go on with a type
abbrev pub Free : List Symbol → Type 0
Free rest = starts goes_on rest ≡ false

on_dot : (k : Symbol) → goes_on k ≡ false → is_dot k ≡ false
on_dot (t.Dot at) e = absurd cc
on_dot _ e = refl

on_type : (k : Symbol) → goes_on k ≡ false → begins_type k ≡ false
on_type (t.Dot at) e = refl
on_type k e = e

on_paren : (k : Symbol) → goes_on k ≡ false → is_open_paren k ≡ false
on_paren (t.OpenParen at) e = absurd cc
on_paren _ e = refl

pub free_dot : (rest : List Symbol) → Free rest → starts is_dot rest ≡ false
free_dot rest e = next_so goes_on is_dot false false rest on_dot (λ d. refl) e

pub free_type : (rest : List Symbol) → Free rest → starts begins_type rest ≡ false
free_type rest e = next_so goes_on begins_type false false rest on_type (λ d. refl) e

on_bracket : (k : Symbol) → goes_on k ≡ false → is_open_bracket k ≡ false
on_bracket (t.OpenBracket at) e = absurd cc
on_bracket _ e = refl

pub free_bracket : (rest : List Symbol) → Free rest → starts is_open_bracket rest ≡ false
free_bracket rest e = next_so goes_on is_open_bracket false false rest on_bracket (λ d. refl) e

-- after a type's name
pub args_no_dot : (m : ℕ) (us : List Symbol) (args : List TypeExpr) (rest : List Symbol) → IsArgs m us args rest → starts is_dot rest ≡ false → starts is_dot us ≡ false
args_no_dot m us args rest (g.no_args r) f = f
args_no_dot m us args rest (g.some_args n o ts xs r e b) f = refl

pub free_paren : (rest : List Symbol) → Free rest → starts is_open_paren rest ≡ false
free_paren rest e = next_so goes_on is_open_paren false false rest on_paren (λ d. refl) e

-- ---- what begins a type

type_no_comma : (k : Symbol) → begins_type k ≡ true → is_comma k ≡ false
type_no_comma (t.Comma c) e = absurd cc
type_no_comma _ e = refl

type_no_dots : (k : Symbol) → begins_type k ≡ true → is_ellipsis k ≡ false
type_no_dots (t.Ellipsis c) e = absurd cc
type_no_dots _ e = refl

type_no_tilde : (k : Symbol) → begins_type k ≡ true → is_tilde k ≡ false
type_no_tilde (t.Tilde c) e = absurd cc
type_no_tilde _ e = refl

type_no_close : (k : Symbol) → begins_type k ≡ true → is_close_paren k ≡ false
type_no_close (t.CloseParen c) e = absurd cc
type_no_close _ e = refl

type_no_brace : (k : Symbol) → begins_type k ≡ true → is_close_brace k ≡ false
type_no_brace (t.CloseBrace c) e = absurd cc
type_no_brace _ e = refl

type_not_embedded : (k : Symbol) → begins_type k ≡ true → shows_embedded k ≡ false
type_not_embedded (t.Dot c) e = absurd cc
type_not_embedded (t.Semicolon c) e = absurd cc
type_not_embedded (t.CloseBrace c) e = absurd cc
type_not_embedded (t.Text c) e = absurd cc
type_not_embedded _ e = refl

type_not_shown : (k : Symbol) → begins_type k ≡ true → shows_type k ≡ false
type_not_shown (t.Dot c) e = absurd cc
type_not_shown (t.CloseParen c) e = absurd cc
type_not_shown _ e = refl

pub no_comma : (ts : List Symbol) → starts begins_type ts ≡ true → starts is_comma ts ≡ false
no_comma ts b = next_so begins_type is_comma true false ts type_no_comma (λ d. refl) b

pub no_dots : (ts : List Symbol) → starts begins_type ts ≡ true → starts is_ellipsis ts ≡ false
no_dots ts b = next_so begins_type is_ellipsis true false ts type_no_dots (λ d. refl) b

pub no_tilde : (ts : List Symbol) → starts begins_type ts ≡ true → starts is_tilde ts ≡ false
no_tilde ts b = next_so begins_type is_tilde true false ts type_no_tilde (λ d. refl) b

pub no_close : (ts : List Symbol) → starts begins_type ts ≡ true → starts is_close_paren ts ≡ false
no_close ts b = next_so begins_type is_close_paren true false ts type_no_close (λ d. refl) b

pub no_brace : (ts : List Symbol) → starts begins_type ts ≡ true → starts is_close_brace ts ≡ false
no_brace ts b = next_so begins_type is_close_brace true false ts type_no_brace (λ d. refl) b

pub no_embedded : (ts : List Symbol) → starts begins_type ts ≡ true → starts shows_embedded ts ≡ false
no_embedded ts b = next_so begins_type shows_embedded true false ts type_not_embedded (λ d. refl) b

pub not_shown : (ts : List Symbol) → starts begins_type ts ≡ true → starts shows_type ts ≡ false
not_shown ts b = next_so begins_type shows_type true false ts type_not_shown (λ d. refl) b

-- ---- what begins with a type

pub type_begins : (m : ℕ) (ts : List Symbol) (ty : TypeExpr) (rest : List Symbol) → IsType m ts ty rest → starts begins_type ts ≡ true
type_begins m ts ty rest (g.name n us z r (g.by_name k vs x ws args r' (own i q) a)) = refl
type_begins m ts ty rest (g.name n us z r (g.by_name k vs x ws args r' (of_package p d i q) a)) = refl
type_begins m ts ty rest (g.paren n at c us z r a) = refl
type_begins m ts ty rest (g.pointer n at us z r a) = refl
type_begins m ts ty rest (g.slice n at c us z r a) = refl
type_begins m ts ty rest (g.array i n at c us x vs z r a d) = refl
type_begins m ts ty rest (g.map_of i n at b c us key vs z r a d) = refl
type_begins m ts ty rest (g.both_ways n at us z r e a) = refl
type_begins m ts ty rest (g.send_only n at b us z r a) = refl
type_begins m ts ty rest (g.receive_only n at b us z r a) = refl
type_begins m ts ty rest (g.struct n at b us fs r a) = refl
type_begins m ts ty rest (g.func n at us s r a) = refl
type_begins m ts ty rest (g.interface n at b us es r a) = refl

type_no_bracket : (k : Symbol) → begins_type k ≡ true → is_close_bracket k ≡ false
type_no_bracket (t.CloseBracket c) e = absurd cc
type_no_bracket _ e = refl

pub type_opens : (m : ℕ) (ts : List Symbol) (ty : TypeExpr) (rest : List Symbol) → IsType m ts ty rest → starts is_close_bracket ts ≡ false
type_opens m ts ty rest w = next_so begins_type is_close_bracket true false ts type_no_bracket (λ e. refl) (type_begins m ts ty rest w)

pub sig_opens : (m : ℕ) (ts : List Symbol) (s : SigExpr) (rest : List Symbol) → IsSig m ts s rest → starts is_open_paren ts ≡ true
sig_opens m ts s rest (g.no_result w n at us ps r a) = refl
sig_opens m ts s rest (g.results w x k n at o us vs ps rs r a b) = refl
sig_opens m ts s rest (g.result w k n at us vs ps ty r a e b) = refl

pub field_no_close : (m : ℕ) (ts : List Symbol) (f : FieldExpr) (rest : List Symbol) → IsField m ts f rest → starts is_close_brace ts ≡ false
field_no_close m ts f rest (g.shared n i names us vs ty ws tag r (one j r') w q) = refl
field_no_close m ts f rest (g.shared n i names us vs ty ws tag r (more j c us' ns r' a) w q) = refl
field_no_close m ts f rest (g.embedded n us z vs tag r (g.by_name k ws x xs args r' (own i q') a) q) = refl
field_no_close m ts f rest (g.embedded n us z vs tag r (g.by_name k ws x xs args r' (of_package p d i q') a) q) = refl
field_no_close m ts f rest (g.embedded_pointer n at us z vs tag r a q) = refl

pub param_no_close : (w v f : Bool) (m : ℕ) (ts : List Symbol) (x : ParamExpr) (rest : List Symbol) → IsParam w v f m ts x rest → starts is_close_paren ts ≡ false
param_no_close w v f m ts x rest (g.unnamed v' n us ty r a) = no_close us (type_begins n us ty r a)
param_no_close w v f m ts x rest (g.sharing v' n i names us vs ty r (one j r') b) = refl
param_no_close w v f m ts x rest (g.sharing v' n i names us vs ty r (more j c us' ns r' a) b) = refl
param_no_close w v f m ts x rest (g.unnamed_rest n at us ty r a) = refl
param_no_close w v f m ts x rest (g.named_rest n i at us ty r a) = refl

term_no_brace : (m : ℕ) (ts : List Symbol) (x : TermExpr) (rest : List Symbol) → IsTerm m ts x rest → starts is_close_brace ts ≡ false
term_no_brace m ts x rest (g.exactly n us ty r a) = no_brace us (type_begins n us ty r a)
term_no_brace m ts x rest (g.approximately n at us ty r a) = refl

union_no_brace : (m : ℕ) (ts : List Symbol) (ty : TypeExpr) (rest : List Symbol) → IsUnion m ts ty rest → starts is_close_brace ts ≡ false
union_no_brace m ts ty rest (g.alone n us z r a) = no_brace us (type_begins n us z r a)
union_no_brace m ts ty rest (g.approximate n at us z r a) = refl
union_no_brace m ts ty rest (g.several k n b us vs x xs r a c) = term_no_brace k us x (t.Bar b ∷ vs) a

pub elem_no_brace : (m : ℕ) (ts : List Symbol) (x : ElemExpr) (rest : List Symbol) → IsElem m ts x rest → starts is_close_brace ts ≡ false
elem_no_brace m ts x rest (g.method n i us s r a) = refl
elem_no_brace m ts x rest (g.embeds n us ty r a) = union_no_brace n us ty r a

-- ---- the end of a field, and its tag

abbrev pub ends_field : Symbol → Bool
ends_field (t.Semicolon s) = true
ends_field (t.CloseBrace s) = true
ends_field _ = false

ends_free : (k : Symbol) → ends_field k ≡ true → goes_on k ≡ false
ends_free (t.Semicolon s) e = refl
ends_free (t.CloseBrace s) e = refl
ends_free _ e = absurd cc

ends_no_bar : (k : Symbol) → ends_field k ≡ true → is_bar k ≡ false
ends_no_bar (t.Semicolon s) e = refl
ends_no_bar (t.CloseBrace s) e = refl
ends_no_bar _ e = absurd cc

ends_shown : (k : Symbol) → ends_field k ≡ true → shows_elem k ≡ true
ends_shown (t.Semicolon s) e = refl
ends_shown (t.CloseBrace s) e = refl
ends_shown _ e = absurd cc

ends_no_comma : (k : Symbol) → ends_field k ≡ true → is_comma k ≡ false
ends_no_comma (t.Semicolon s) e = refl
ends_no_comma (t.CloseBrace s) e = refl
ends_no_comma _ e = absurd cc

ends_embedded : (k : Symbol) → ends_field k ≡ true → shows_embedded k ≡ true
ends_embedded (t.Semicolon s) e = refl
ends_embedded (t.CloseBrace s) e = refl
ends_embedded _ e = absurd cc

ends_tag : (k : Symbol) (ts : List Symbol) → ends_field k ≡ true → tag_at (k ∷ ts) ≡ Ok ([], k ∷ ts)
ends_tag (t.Semicolon s) ts e = refl
ends_tag (t.CloseBrace s) ts e = refl
ends_tag _ ts e = absurd cc

pub end_free : (ts : List Symbol) → starts ends_field ts ≡ true → Free ts
end_free ts e = next_so ends_field goes_on true false ts ends_free (λ d. refl) e

pub end_no_bar : (ts : List Symbol) → starts ends_field ts ≡ true → starts is_bar ts ≡ false
end_no_bar ts e = next_so ends_field is_bar true false ts ends_no_bar (λ d. refl) e

pub end_shown : (ts : List Symbol) → starts ends_field ts ≡ true → starts shows_elem ts ≡ true
end_shown ts e = next_so ends_field shows_elem true true ts ends_shown (λ d. d) e

none_again : (r : List Symbol) → starts ends_field r ≡ true → tag_at r ≡ Ok ([], r)
none_again [] e = absurd cc
none_again (k ∷ us) e = ends_tag k us e

pub tag_again : (ts : List Symbol) (tag : List ℕ) (rest : List Symbol) → IsTag ts tag rest → starts ends_field rest ≡ true → tag_at ts ≡ Ok (tag, rest)
tag_again ts tag rest (none r) e = none_again r e
tag_again ts tag rest (some s r) e = refl

pub tag_free : (ts : List Symbol) (tag : List ℕ) (rest : List Symbol) → IsTag ts tag rest → starts ends_field rest ≡ true → Free ts
tag_free ts tag rest (none r) e = end_free r e
tag_free ts tag rest (some s r) e = refl

pub tag_no_comma : (ts : List Symbol) (tag : List ℕ) (rest : List Symbol) → IsTag ts tag rest → starts ends_field rest ≡ true → starts is_comma ts ≡ false
tag_no_comma ts tag rest (none r) e = next_so ends_field is_comma true false r ends_no_comma (λ h. refl) e
tag_no_comma ts tag rest (some s r) e = refl

pub tag_embedded : (ts : List Symbol) (tag : List ℕ) (rest : List Symbol) → IsTag ts tag rest → starts ends_field rest ≡ true → starts shows_embedded ts ≡ true
tag_embedded ts tag rest (none r) e = next_so ends_field shows_embedded true true r ends_embedded (λ h. h) e
tag_embedded ts tag rest (some s r) e = refl
