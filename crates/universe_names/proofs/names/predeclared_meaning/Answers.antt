use Rattle.std.proofs.Common.{◌++◌, sym, ◌∙◌}
use Rattle.universe_names.specs.Universe.{whole_types, other_types, values}
use Rattle.universe_names.proofs.UniverseLaws.{found_first, found_behind}
use Rattle.universe_names.proofs.names.predeclared_meaning.Goals as goal

pub returns-in-Some : goal.returns-in-Some
returns-in-Some c = sym (found_first c.args.name.now whole_types (other_types ++ values) c.in-Some.found (sym c.in-Some.ensures))

pub returns-in-Some-other_type : goal.returns-in-Some-other_type
returns-in-Some-other_type c = sym (found_behind c.args.name.now whole_types (other_types ++ values) (sym c.in-None.ensures) ∙ found_first c.args.name.now other_types values c.in-Some-other_type.found (sym c.in-Some-other_type.ensures))

pub returns-in-None-other_type : goal.returns-in-None-other_type
returns-in-None-other_type c = c.value.ensures ∙ sym (found_behind c.args.name.now whole_types (other_types ++ values) (sym c.in-None.ensures) ∙ found_behind c.args.name.now other_types values (sym c.in-None-other_type.ensures))
