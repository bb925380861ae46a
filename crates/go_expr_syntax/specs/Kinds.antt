-- The tests of a token.
use Rattle.std.specs.Prelude.{Bool, true, false}
use Rattle.go_expr_syntax.specs.declared.symbols.Symbol.{Symbol}
use Rattle.go_expr_syntax.specs.declared.reading.Kind.{Kind}
use Rattle.go_expr_syntax.specs.declared.reading.Kind.TheVariants as k
use Rattle.go_expr_syntax.specs.Reading.{is_ident, is_semicolon, is_comma, is_dot, is_close_paren, is_open_bracket}
use Rattle.go_expr_syntax.specs.Reading.{is_close_bracket, is_open_brace, is_close_brace, is_arrow, is_chan, is_package}
use Rattle.go_expr_syntax.specs.Reading.{is_open_paren, is_assign, is_import, is_var, is_type, is_const, is_star}
use Rattle.go_expr_syntax.specs.Reading.{is_func}
use Rattle.go_expr_syntax.specs.Reading.{is_ellipsis, is_bar, is_tilde, begins_type}
use Rattle.go_expr_syntax.specs.Operands.{begins_expr, goes_on}
use Rattle.go_expr_syntax.specs.Reading.{shows_types, shows_type}
use Rattle.go_expr_syntax.specs.Reading.{shows_elem}
use Rattle.go_expr_syntax.specs.Reading.{shows_embedded}
use Rattle.go_expr_syntax.specs.Reading.{shows_length}

abbrev pub is_of : Kind → Symbol → Bool
is_of k.Ident = is_ident
is_of k.Semicolon = is_semicolon
is_of k.Comma = is_comma
is_of k.Dot = is_dot
is_of k.CloseParen = is_close_paren
is_of k.OpenBracket = is_open_bracket
is_of k.CloseBracket = is_close_bracket
is_of k.OpenBrace = is_open_brace
is_of k.CloseBrace = is_close_brace
is_of k.Arrow = is_arrow
is_of k.Chan = is_chan
is_of k.Package = is_package
is_of k.OpenParen = is_open_paren
is_of k.Assign = is_assign
is_of k.Import = is_import
is_of k.Var = is_var
is_of k.Type = is_type
is_of k.Const = is_const
is_of k.TypeStart = begins_type
is_of k.EmbeddedEnd = shows_embedded
is_of k.ExprStart = begins_expr
is_of k.GoesOn = goes_on
is_of k.Ellipsis = is_ellipsis
is_of k.Bar = is_bar
is_of k.Tilde = is_tilde
is_of k.ListEnd = shows_types false
is_of k.ListEndOrDots = shows_types true
is_of k.ParamEnd = shows_type
is_of k.ElementEnd = shows_elem
is_of k.Star = is_star
is_of k.Func = is_func
is_of k.LengthEnd = shows_length
