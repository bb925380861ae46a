-- The kinds of token, and single tokens.
use Rattle.std.proofs.Common.{◌≡◌, ℕ, true, refl}
use Rattle.go_expr_syntax.specs.declared.symbols.Symbol.{Symbol}
use Rattle.go_expr_syntax.specs.declared.symbols.Symbol.TheVariants as t
use Rattle.go_expr_syntax.specs.Reading.{is_semicolon, is_comma, is_arrow, is_dot, is_close_paren, is_open_bracket, is_close_bracket, is_open_brace, is_close_brace, is_chan, is_package, is_open_paren, is_assign, is_import, is_var, is_type, is_const, is_star, is_func, is_ellipsis, is_tilde, is_bar}
use Rattle.go_expr_syntax.proofs.Viable.{Kind}

pub only_semicolon : (k : Symbol) → is_semicolon k ≡ true → (at : ℕ) × (k ≡ t.Semicolon at)
only_semicolon (t.Semicolon at) h = (at, refl)
only_semicolon _ h = absurd cc

abbrev pub semicolon : Kind is_semicolon
semicolon = record { make = t.Semicolon; holds = λ at. refl; only = only_semicolon }

pub only_comma : (k : Symbol) → is_comma k ≡ true → (at : ℕ) × (k ≡ t.Comma at)
only_comma (t.Comma at) h = (at, refl)
only_comma _ h = absurd cc

abbrev pub comma : Kind is_comma
comma = record { make = t.Comma; holds = λ at. refl; only = only_comma }

pub only_arrow : (k : Symbol) → is_arrow k ≡ true → (at : ℕ) × (k ≡ t.Arrow at)
only_arrow (t.Arrow at) h = (at, refl)
only_arrow _ h = absurd cc

abbrev pub arrow : Kind is_arrow
arrow = record { make = t.Arrow; holds = λ at. refl; only = only_arrow }

pub only_dot : (k : Symbol) → is_dot k ≡ true → (at : ℕ) × (k ≡ t.Dot at)
only_dot (t.Dot at) h = (at, refl)
only_dot _ h = absurd cc

abbrev pub dot : Kind is_dot
dot = record { make = t.Dot; holds = λ at. refl; only = only_dot }

pub only_close_paren : (k : Symbol) → is_close_paren k ≡ true → (at : ℕ) × (k ≡ t.CloseParen at)
only_close_paren (t.CloseParen at) h = (at, refl)
only_close_paren _ h = absurd cc

abbrev pub close_paren : Kind is_close_paren
close_paren = record { make = t.CloseParen; holds = λ at. refl; only = only_close_paren }

pub only_open_bracket : (k : Symbol) → is_open_bracket k ≡ true → (at : ℕ) × (k ≡ t.OpenBracket at)
only_open_bracket (t.OpenBracket at) h = (at, refl)
only_open_bracket _ h = absurd cc

abbrev pub open_bracket : Kind is_open_bracket
open_bracket = record { make = t.OpenBracket; holds = λ at. refl; only = only_open_bracket }

pub only_close_bracket : (k : Symbol) → is_close_bracket k ≡ true → (at : ℕ) × (k ≡ t.CloseBracket at)
only_close_bracket (t.CloseBracket at) h = (at, refl)
only_close_bracket _ h = absurd cc

abbrev pub close_bracket : Kind is_close_bracket
close_bracket = record { make = t.CloseBracket; holds = λ at. refl; only = only_close_bracket }

pub only_open_brace : (k : Symbol) → is_open_brace k ≡ true → (at : ℕ) × (k ≡ t.OpenBrace at)
only_open_brace (t.OpenBrace at) h = (at, refl)
only_open_brace _ h = absurd cc

abbrev pub open_brace : Kind is_open_brace
open_brace = record { make = t.OpenBrace; holds = λ at. refl; only = only_open_brace }

pub only_close_brace : (k : Symbol) → is_close_brace k ≡ true → (at : ℕ) × (k ≡ t.CloseBrace at)
only_close_brace (t.CloseBrace at) h = (at, refl)
only_close_brace _ h = absurd cc

abbrev pub close_brace : Kind is_close_brace
close_brace = record { make = t.CloseBrace; holds = λ at. refl; only = only_close_brace }

pub only_chan : (k : Symbol) → is_chan k ≡ true → (at : ℕ) × (k ≡ t.Chan at)
only_chan (t.Chan at) h = (at, refl)
only_chan _ h = absurd cc

abbrev pub chan : Kind is_chan
chan = record { make = t.Chan; holds = λ at. refl; only = only_chan }

pub only_package : (k : Symbol) → is_package k ≡ true → (at : ℕ) × (k ≡ t.Package at)
only_package (t.Package at) h = (at, refl)
only_package _ h = absurd cc

abbrev pub package_word : Kind is_package
package_word = record { make = t.Package; holds = λ at. refl; only = only_package }

pub only_open_paren : (k : Symbol) → is_open_paren k ≡ true → (at : ℕ) × (k ≡ t.OpenParen at)
only_open_paren (t.OpenParen at) h = (at, refl)
only_open_paren _ h = absurd cc

abbrev pub open_paren : Kind is_open_paren
open_paren = record { make = t.OpenParen; holds = λ at. refl; only = only_open_paren }

pub only_assign : (k : Symbol) → is_assign k ≡ true → (at : ℕ) × (k ≡ t.Assign at)
only_assign (t.Assign at) h = (at, refl)
only_assign _ h = absurd cc

abbrev pub assign : Kind is_assign
assign = record { make = t.Assign; holds = λ at. refl; only = only_assign }

pub only_import : (k : Symbol) → is_import k ≡ true → (at : ℕ) × (k ≡ t.Import at)
only_import (t.Import at) h = (at, refl)
only_import _ h = absurd cc

abbrev pub import_word : Kind is_import
import_word = record { make = t.Import; holds = λ at. refl; only = only_import }

pub only_var : (k : Symbol) → is_var k ≡ true → (at : ℕ) × (k ≡ t.Var at)
only_var (t.Var at) h = (at, refl)
only_var _ h = absurd cc

abbrev pub var_word : Kind is_var
var_word = record { make = t.Var; holds = λ at. refl; only = only_var }

pub only_type : (k : Symbol) → is_type k ≡ true → (at : ℕ) × (k ≡ t.Type at)
only_type (t.Type at) h = (at, refl)
only_type _ h = absurd cc

abbrev pub type_word : Kind is_type
type_word = record { make = t.Type; holds = λ at. refl; only = only_type }

pub only_const : (k : Symbol) → is_const k ≡ true → (at : ℕ) × (k ≡ t.Const at)
only_const (t.Const at) h = (at, refl)
only_const _ h = absurd cc

abbrev pub const_word : Kind is_const
const_word = record { make = t.Const; holds = λ at. refl; only = only_const }

pub only_ellipsis : (k : Symbol) → is_ellipsis k ≡ true → (at : ℕ) × (k ≡ t.Ellipsis at)
only_ellipsis (t.Ellipsis at) h = (at, refl)
only_ellipsis _ h = absurd cc

abbrev pub ellipsis : Kind is_ellipsis
ellipsis = record { make = t.Ellipsis; holds = λ at. refl; only = only_ellipsis }

pub only_tilde : (k : Symbol) → is_tilde k ≡ true → (at : ℕ) × (k ≡ t.Tilde at)
only_tilde (t.Tilde at) h = (at, refl)
only_tilde _ h = absurd cc

abbrev pub tilde : Kind is_tilde
tilde = record { make = t.Tilde; holds = λ at. refl; only = only_tilde }

pub only_bar : (k : Symbol) → is_bar k ≡ true → (at : ℕ) × (k ≡ t.Bar at)
only_bar (t.Bar at) h = (at, refl)
only_bar _ h = absurd cc

abbrev pub bar : Kind is_bar
bar = record { make = t.Bar; holds = λ at. refl; only = only_bar }

pub only_star : (k : Symbol) → is_star k ≡ true → (at : ℕ) × (k ≡ t.Star at)
only_star (t.Star at) h = (at, refl)
only_star _ h = absurd cc

abbrev pub star : Kind is_star
star = record { make = t.Star; holds = λ at. refl; only = only_star }

pub only_func_word : (k : Symbol) → is_func k ≡ true → (at : ℕ) × (k ≡ t.Func at)
only_func_word (t.Func at) h = (at, refl)
only_func_word _ h = absurd cc

abbrev pub func_word : Kind is_func
func_word = record { make = t.Func; holds = λ at. refl; only = only_func_word }
