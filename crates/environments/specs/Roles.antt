-- In which role the name of a declaration may be used.
use Rattle.std.specs.Prelude.{ℕ, Option, Some, None, nat_eq, cond, length}
use Rattle.type_terms.specs.Declarations.{Form, defined_of, renamed_of}
use Rattle.type_terms.specs.Declarations.{type_parameter_of}
use Rattle.environments.specs.declared.mentions.Role.{Role}
use Rattle.environments.specs.declared.mentions.Role.TheVariants.{Defined, Parameter, Alias, DefinedBase, AliasBase}

-- a name with type parameters is used as the base of an instance, with as many arguments
abbrev pub defined_role : ℕ → Role
defined_role count = cond (nat_eq count 0) Defined (DefinedBase count)

abbrev pub alias_role : ℕ → Role
alias_role count = cond (nat_eq count 0) Alias (AliasBase count)

-- The one role of a declaration's name. Variables, functions and constants have none, since no type mentions them.
abbrev pub role_of : {P S R : Type 0} → Form P S R → Option Role
role_of (defined_of pos tparams underlying methods) = Some (defined_role (length tparams))
role_of (renamed_of pos tparams type) = Some (alias_role (length tparams))
role_of (type_parameter_of pos implicit constraint) = Some Parameter
role_of _ = None
