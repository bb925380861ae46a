-- The name that a type is, by its kind, and the predeclared type that it is.
use Rattle.std.specs.Prelude.{Option, Some, None}
use Rattle.code_tables.specs.declared.predeclared.Basic.{Basic}
use Rattle.go_values.specs.declared.qualified.QName.{QName}
use Rattle.type_terms.specs.Trees.{Tree, predeclared, named, parameter, alias}

abbrev pub basic_of : Tree → Option Basic
basic_of (predeclared basic) = Some basic
basic_of _ = None

-- the defined type that a type is
abbrev pub defined_name : Tree → Option QName
defined_name (named q) = Some q
defined_name _ = None

-- the alias that a type is
abbrev pub alias_name : Tree → Option QName
alias_name (alias q) = Some q
alias_name _ = None

-- the type parameter that a type is
abbrev pub parameter_name : Tree → Option QName
parameter_name (parameter q) = Some q
parameter_name _ = None
