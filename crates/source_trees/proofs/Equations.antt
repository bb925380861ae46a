-- The equations of written trees, a case a variant, so that each arm of a recursion on trees is proved by them.
use Rattle.go_expr_syntax.proofs.PlainLaws.{plain_literal, plain_constant, plain_convert, plain_paren, plain_unary, plain_binary}
use Rattle.go_type_syntax.proofs.PlainTypeLaws as t

pub ruleset exprs = (plain_literal, plain_constant, plain_convert, plain_paren, plain_unary, plain_binary)

pub ruleset types = (t.plain_named, t.plain_paren, t.plain_pointer, t.plain_slice, t.plain_array, t.plain_map, t.plain_chan, t.plain_func, t.plain_struct, t.plain_interface, t.plain_union, t.plain_method, t.plain_embedded, t.plain_signature, t.plain_having, t.plain_sharing, t.plain_of_type)
